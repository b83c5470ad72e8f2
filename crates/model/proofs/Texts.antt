-- Texts with what they say, texts that are malformed, and replies with what is printed of them: three listings, one statement each, proved by computation.
-- Assumes nothing.
use mathlib.Core.Path.{◌≡◌, refl}
use mathlib.Core.List.{List, [], ◌∷◌, map}
use Prim.Native.String.{String}
use lib.IntN.{ℤ, pos}
use Rattle.model.specs.Rounds.{settled, conflict, stopped}
use Rattle.model.specs.Planner.{Reply, refused, done}
use Rattle.model.specs.Job.{Job}
use Rattle.model.specs.Text.{Parsed, parsed, malformed, bytes, digits_value, numbers_behind, next_sets, job_of, job_text}
use Rattle.model.specs.Print.{last_digits, numeral, integer, line_of, event_lines, printed}
use Rattle.model.proofs.Abacus.{neg, job}

abbrev pub said : String → Parsed (Job × ℤ)
said text = job_text (bytes text)

-- A text, and the job and the limit that it says.
pub record Example : Type 0 where
  pub text : String
  pub says : Parsed (Job × ℤ)

abbrev pub examples : List Example
examples =
    -- K8 of document 01, with its lag
    record {
      text = "100 1 0 10 0 1 2 1\n0 10 0 0 0\n0 6 0 0 0\n0 1 -2\n0";
      says = parsed (job (pos 100) (pos 0 ∷ pos 10 ∷ pos 0 ∷ pos 1 ∷ []) (pos 0 ∷ pos 10 ∷ pos 0 ∷ pos 0 ∷ pos 0 ∷ pos 0 ∷ pos 6 ∷ pos 0 ∷ pos 0 ∷ pos 0 ∷ []) (pos 0 ∷ pos 1 ∷ neg 2 ∷ []) [], pos 40);
    }
    -- two cages, an event of the second
    ∷ record {
      text = "9 2\n0 1 2 3\n4 5 6 7\n1 0\n0 9 8 8 1\n0\n";
      says = parsed (job (pos 9) (pos 0 ∷ pos 1 ∷ pos 2 ∷ pos 3 ∷ pos 4 ∷ pos 5 ∷ pos 6 ∷ pos 7 ∷ []) (pos 0 ∷ pos 9 ∷ pos 8 ∷ pos 8 ∷ pos 1 ∷ []) [] [], pos 40);
    }
    -- two sets, of two members and of none
    ∷ record {
      text = "9 1 0 1 2 3 0 0\n2\n-5 6 2 7 8\n1 2 0\n";
      says = parsed (job (pos 9) (pos 0 ∷ pos 1 ∷ pos 2 ∷ pos 3 ∷ []) [] [] (neg 5 ∷ pos 6 ∷ pos 2 ∷ pos 7 ∷ pos 8 ∷ pos 1 ∷ pos 2 ∷ pos 0 ∷ []), pos 40);
    }
    -- blanks, tabs and line ends in any number; leading zeros and "-0"; both ends of 32 bits
    ∷ record {
      text = " \t\r\n007 01 -0  2147483647\t-2147483648\r\n00 00 -00 \n-0";
      says = parsed (job (pos 7) (pos 0 ∷ pos 2147483647 ∷ neg 2147483648 ∷ pos 0 ∷ []) [] [] [], pos 40);
    }
    -- a round limit
    ∷ record {
      text = "0000000000000000000000000000000000000001 1 0 0 0 2 0 0 0 -7";
      says = parsed (job (pos 1) (pos 0 ∷ pos 0 ∷ pos 0 ∷ pos 2 ∷ []) [] [] [], neg 7);
    }
    ∷ []

pub examples_right : map (λ (x : Example). said x.text) examples ≡ map (λ (x : Example). x.says) examples
unfolding job_text numbers_behind digits_value job_of next_sets
examples_right = refl

abbrev pub malformed_texts : List String
malformed_texts =
    -- outside 32 bits
    "2147483648 1 0 0 0 0 0 0 0"
    ∷ "-2147483649 1 0 0 0 0 0 0 0"
    ∷ "99999999999999999999999999 1 0 0 0 0 0 0 0"
    -- otherwise formed
    ∷ ""
    ∷ "+5 1 0 0 0 0 0 0 0"
    ∷ "5- 1 0 0 0 0 0 0 0"
    ∷ "--5 1 0 0 0 0 0 0 0"
    ∷ "- 5 1 0 0 0 0 0 0 0"
    ∷ "0 1 0 0 0 0 0 0 0 -"
    ∷ "1.0 1 0 0 0 0 0 0 0"
    ∷ "5,0 1 0 0 0 0 0 0 0"
    -- too few, too many
    ∷ "0 1 0 0 0 0 0 0"
    ∷ "0 1 0 0 0 0 0 0 0 0 0"
    ∷ "0 1 0 0 0 0 1 0 1 1 1 1 0"
    ∷ "0 2 0 0 0 0 0 0 0"
    ∷ "0 1 0 0 0 0 0 0 1 5 6 2 7"
    -- the numbers of cages, events, lags, sets and members out of range
    ∷ "0 0 0 0 0"
    ∷ "0 9 0 0 0 0 0 0 0 0 0 0 0 0 0 0 0 0 0 0 0 0 0 0 0 0 0 0 0 0 0 0 0 0 0 0 0 0 0 0 0"
    ∷ "0 1 0 0 0 0 -1 0 0"
    ∷ "0 1 0 0 0 0 65 0 0"
    ∷ "0 1 0 0 0 0 0 257 0"
    ∷ "0 1 0 0 0 0 0 0 17"
    ∷ "0 1 0 0 0 0 0 0 1 5 6 65"
    ∷ "0 1 0 0 0 0 0 0 1 5 6 -1"
    ∷ []

pub malformed_right : map said malformed_texts ≡ map (λ (text : String). malformed) malformed_texts
unfolding job_text numbers_behind digits_value job_of next_sets
malformed_right = refl

-- A reply, the window table then, and what is printed.
pub record Written : Type 0 where
  pub reply : Reply
  pub table : List ℤ
  pub prints : String

abbrev pub written : List Written
written =
    record { reply = done settled 0 1 3; table = []; prints = "settled 0 1\n" }
    ∷ record { reply = done stopped 0 1 3; table = pos 5 ∷ pos 40 ∷ pos 6 ∷ pos 6 ∷ pos 3 ∷ []; prints = "stopped 0 1\n0 5 40 6 6\n" }
    ∷ record { reply = done conflict 10 109 13; table = pos 0 ∷ pos 2147483647 ∷ neg 2147483648 ∷ neg 10 ∷ pos 0 ∷ []; prints = "conflict 10 109\n0 0 2147483647 -2147483648 -10\n" }
    ∷ record { reply = refused 5 1; table = pos 1 ∷ pos 1 ∷ pos 1 ∷ pos 1 ∷ pos 1 ∷ []; prints = "refused 5 1\n" }
    ∷ record { reply = refused 20 0; table = []; prints = "refused 20 0\n" }
    ∷ []

pub written_right : map (λ (x : Written). printed x.reply x.table) written ≡ map (λ (x : Written). bytes x.prints) written
unfolding event_lines line_of integer numeral last_digits
written_right = refl
