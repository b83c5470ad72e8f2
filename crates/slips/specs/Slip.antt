-- A slip as the code writes it, and as it is read from a list: its header and its facts.
use Rattle.std.specs.Prelude.{◌≡◌, true, false, List, [], ◌∷◌, ℕ, ◌+◌, ◌≤◌, ℤ, pos, nat_abs, Option, Some, None, MatchOption}
use Rattle.model.specs.Job.{End, Windows}
use Rattle.model.specs.Standing.{Ranged}
use Rattle.model.specs.Rules.{known_rule, Effect, idle, narrows, fails}
use Rattle.model.specs.Slips.{Premise, Explanation, number, at, premise_list, concluded_value}
use Rattle.model.specs.Questions.{in_range}
use Rattle.model.specs.Reader.{Reading, slip, cut, stop_of, counted}
use Rattle.rules.specs.Values.{rule_of, effect_of}
use Rattle.rules.specs.Numbers.{number_of}
use Rattle.rules.specs.declared.Effect.{Effect as Done}
use Rattle.rules.specs.declared.Rule.{Rule as Named}
use Rattle.facts.specs.Quotes.{cites_of, says_of, Known}
use Rattle.facts.specs.declared.Citing.{Citing}
use Rattle.slips.specs.declared.Slip.{Slip}
use Rattle.slips.specs.declared.Facts.{Facts}
use Rattle.slips.specs.declared.Fact.{Fact}
use Rattle.slips.specs.declared.Trailer.{Trailer}

-- ---- written

-- The kind that a slip concludes with: that of the end k of its bound, or 0 for a conflict. Of a rule's own end it is the definitions' (`own_kind` in proofs/Wording).
abbrev pub kind_at : End → Effect → ℕ
kind_at k idle = 0
kind_at k (narrows v) = number k
kind_at k fails = 0

-- The slip of the rule with number r, whose bounds are about the end k, with subject e, target y and effect x, whose facts are those cited.
abbrev pub slip_of : ℕ → Windows → Citing → ℕ → End → ℕ → ℕ → Done → Explanation
slip_of n W c r k e y x =
    record {
      rule = pos r;
      subject = pos e;
      target = pos y;
      kind = pos (kind_at k (effect_of x));
      value = concluded_value (effect_of x);
      premises = premise_list n (cites_of c W) (says_of c W);
    }

-- It can be written: number, subject and target are small, the windows in range.
pub record Writes (n : ℕ) (W : Windows) (c : Citing) (r e y : ℕ) : Type 0 where
  pub ranged : Ranged n W
  pub known : Known n c
  pub numbered : r ≤ 18
  pub subject : e ≤ 256
  pub target : y ≤ 64

-- ---- read

-- A word that is the number of a rule, and one that is none.
abbrev pub Ruled : ℤ → Option Named → Type 0
Ruled w r =
    MatchOption r (known_rule w ≡ false) (λ q. (known_rule w ≡ true) × (w ≡ pos (number_of (rule_of q))))

-- A word that is a number m of facts, and one that is none.
pub record Counts (w : ℤ) (m : ℕ) : Type 0 where
  pub within : in_range (pos 0) (pos 256) w ≡ true
  pub is : m ≡ nat_abs w
  pub few : m ≤ 256

abbrev pub Counted : ℤ → Option ℕ → Type 0
Counted w m = MatchOption m (in_range (pos 0) (pos 256) w ≡ false) (Counts w)

-- A fact's words, and those at p; the facts that stand in words, three each.
abbrev pub premise_of : Fact → Premise
premise_of f = record { event = f.event.0; kind = f.kind.0; value = f.value.0 }

abbrev pub premise_at : List ℤ → ℕ → Premise
premise_at list p = record { event = at list p; kind = at list (p + 1); value = at list (p + 2) }

unfoldable pub premises_in : List ℤ → List Premise
premises_in [] = []
premises_in (y ∷ []) = []
premises_in (y ∷ k ∷ []) = []
premises_in (y ∷ k ∷ v ∷ ws) = record { event = y; kind = k; value = v } ∷ premises_in ws

-- A fact is read, the others are left; or there is none.
abbrev pub Gives : Facts → Option Fact → Facts → Type 0
Gives s r t = MatchOption r (premises_in s.words.now ≡ []) (λ f. premises_in s.words.now ≡ premise_of f ∷ premises_in t.words.now)

-- The slip with these facts; with its own.
abbrev pub headed : Slip → List Premise → Explanation
headed s fs =
    record {
      rule = pos (number_of (rule_of s.rule));
      subject = s.subject.0;
      target = s.target.0;
      kind = s.kind.0;
      value = s.value.0;
      premises = fs;
    }

abbrev pub explanation_of : Slip → Explanation
explanation_of s = headed s (premises_in s.facts.words.now)

-- A slip and the place after it, or a refusal.
abbrev pub reading_of : Option (Slip × ℕ) → Reading
reading_of (Some r) = slip (explanation_of r.0) r.1
reading_of None = cut

-- Where a slip read ends, before the trailer.
abbrev pub Placed : ℕ → Option (Slip × ℕ) → Type 0
Placed stop (Some r) = r.1 ≤ stop
Placed stop None = Unit {0}

-- A list's trailer, its last three words.
pub record Trails (list : List ℤ) (t : Trailer) : Type 0 where
  pub slips_are : t.slips.0 ≡ counted list
  pub last_is : t.last.0 ≡ at list (stop_of list + 1)
  pub mark_is : t.mark.0 ≡ at list (stop_of list + 2)
