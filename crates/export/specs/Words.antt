-- A call's reply as the number that it returns and the five words that it writes.
use Rattle.std.specs.Prelude.{cond, List, [], ◌∷◌, ◌++◌, ℕ, ◌≤◌, leb, ℤ, pos, length, drop}
use Rattle.model.specs.Rounds.{Verdict, settled, conflict, stopped, still_open}
use Rattle.model.specs.Planner.{Reply, refused, done}
use Rattle.export.specs.declared.Numbers.{Numbers}

-- Settled 0, conflict 1, stopped 2, open 3.
abbrev pub outcome_of : Verdict → ℕ
outcome_of settled = 0
outcome_of conflict = 1
outcome_of stopped = 2
outcome_of still_open = 3

-- A call that was not refused.
abbrev pub taken : ℕ → ℕ → ℕ → ℕ → Numbers
taken outcome slips rounds len =
    record { number = 0; place = 0; outcome = outcome; slips = slips; rounds = rounds; length = len }

-- A refusal has its number and its place; all else is 0.
abbrev pub numbers_of : Reply → Numbers
numbers_of (refused number place) =
    record { number = number; place = place; outcome = 0; slips = 0; rounds = 0; length = 0 }
numbers_of (done v slips rounds len) = taken (outcome_of v) slips rounds len

-- The five words.
abbrev pub words_of : Numbers → List ℤ
words_of n = pos n.place ∷ pos n.outcome ∷ pos n.slips ∷ pos n.rounds ∷ pos n.length ∷ []

-- The lent answer words at exit: the five come first, the rest keep what they held. Where there is no room for five, no word changes.
unfoldable pub told : Numbers → List ℤ → List ℤ
told n words = cond (leb 5 (length words)) (words_of n ++ drop 5 words) words

-- Each number is at most 1,000,000, the greatest length of a list: it fits a word.
pub record Small (n : Numbers) : Type 0 where
  pub number : n.number ≤ 1000000
  pub place : n.place ≤ 1000000
  pub outcome : n.outcome ≤ 1000000
  pub slips : n.slips ≤ 1000000
  pub rounds : n.rounds ≤ 1000000
  pub length : n.length ≤ 1000000
