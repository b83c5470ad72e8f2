-- The job of a text as the code hands it over: its sizes, its round limit, and its words where they stand in the table; how the code finds them, count by count.
use Rattle.std.specs.Prelude.{◌≡◌, cond, List, ℕ, zero, suc, ◌+◌, ◌*◌, ◌-◌, ◌≤◌, eqb, ltb, ℤ, pos, nat_abs, length, get_or, take, drop, Option, Some, None, IfSome, option_and_then}
use Rattle.model.specs.Questions.{in_range}
use Rattle.model.specs.Job.{Job}
use Rattle.model.specs.Text.{Parsed, parsed, malformed}
use Rattle.scanner.specs.declared.layout.Sizes.{Sizes}

abbrev pub at : List ℤ → ℕ → ℤ
at ns i = get_or ns i (pos 0)

-- z as a count, if it is in least..most.
unfoldable pub count_of : ℤ → ℕ → ℕ → Option ℕ
count_of z least most = cond (in_range (pos least) (pos most) z) (Some (nat_abs z)) None

-- The number at place i as a count; none is there past the end.
abbrev pub count_at : List ℤ → ℕ → ℕ → ℕ → Option ℕ
count_at ns i least most = cond (ltb i (length ns)) (count_of (at ns i) least most) None

-- What goes on with a count.
infixl 10 ◌>>=◌
abbrev pub ◌>>=◌ : {A B : Type 0} → Option A → (A → Option B) → Option B
o >>= f = option_and_then f o

-- Where the sets that begin at place i end, so many of them.
unfoldable pub walked : List ℤ → ℕ → ℕ → Option ℕ
walked ns i zero = Some i
walked ns i (suc s) = do
  k ← count_at ns (i + 2) 0 64
  walked ns (i + 3 + k) s

-- Where the words of the windows, of the lags and of the sets begin; how many numbers there are in all.
abbrev pub windows_at : Sizes → ℕ
windows_at s = 4 + 4 * s.cages

abbrev pub lags_at : Sizes → ℕ
lags_at s = windows_at s + 5 * s.events

abbrev pub sets_at : Sizes → ℕ
sets_at s = lags_at s + 3 * s.lags + 1

abbrev pub numbers_of : Sizes → ℕ
numbers_of s = sets_at s + s.words

-- The job of these sizes in a table that begins with its numbers.
abbrev pub job_in : List ℤ → Sizes → Job
job_in t s =
    record {
      horizon = at t 0;
      cage_table = take (4 * s.cages) (drop 2 t);
      window_table = take (5 * s.events) (drop (windows_at s) t);
      lag_table = take (3 * s.lags) (drop (lags_at s) t);
      set_table = take s.words (drop (sets_at s) t);
    }

-- The job and its round limit.
abbrev pub told : Option Sizes → List ℤ → Parsed (Job × ℤ)
told (Some s) t = parsed (job_in t s, s.limit)
told None t = malformed

-- The round limit behind sets that end before place e: 40 where the numbers end there, or the one number that is left.
unfoldable pub limit_at : List ℤ → ℕ → Option ℤ
limit_at ns e =
    cond (eqb e (length ns)) (Some (pos 40))
    (cond (eqb (e + 1) (length ns)) (Some (at ns e)) None)

-- The sizes of c cages, n events, m lags, and sets whose words end before place e.
abbrev pub sizes : ℕ → ℕ → ℕ → ℕ → ℤ → Sizes
sizes c n m e limit =
    record { cages = c; events = n; lags = m; words = e - (5 + 4 * c + 5 * n + 3 * m); limit = limit }

-- How numbers are laid out: a count at its place, and what follows from it.
unfoldable pub layout_of : List ℤ → Option Sizes
layout_of ns = do
  c ← count_at ns 1 1 8
  n ← count_at ns (2 + 4 * c) 0 64
  m ← count_at ns (3 + 4 * c) 0 256
  s ← count_at ns (4 + 4 * c + 5 * n + 3 * m) 0 16
  e ← walked ns (5 + 4 * c + 5 * n + 3 * m) s
  limit ← limit_at ns e
  Some (sizes c n m e limit)

-- A job of at most 8 cages, 64 events, 256 lags and 16 sets of 64 members, whose words are within the table.
pub record Room (s : Sizes) (t : List ℤ) : Type 0 where
  pub few_cages : s.cages ≤ 8
  pub few_events : s.events ≤ 64
  pub few_lags : s.lags ≤ 256
  pub few_words : s.words ≤ 1072
  pub inside : numbers_of s ≤ length t

-- What is handed over says j.
pub record Handed (l : Option Sizes) (t : List ℤ) (j : Parsed (Job × ℤ)) : Type 0 where
  pub says : told l t ≡ j
  pub roomy : IfSome l (λ s. Room s t)
