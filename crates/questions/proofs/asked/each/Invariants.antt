-- `questions::asked::each` puts one question to each in turn. The loop's invariant: what is left to ask from i on is the whole answer. Assumes nothing.
use Rattle.std.proofs.Common.{◌≡◌, ℕ, Bool, ◌<◌, ◌-◌}
use Rattle.model.specs.Questions.{each}
use Rattle.questions.specs.Numbers.{number_of}
use Rattle.questions.proofs.asked.each.Given as goal

abbrev pub invariant-loop-i : goal.invariant-loop-i
invariant-loop-i g l =
    (ok : ℕ → Bool)
    → ((i : ℕ) → i < l.n → (r : Bool) → goal.F-post g l.right i r → r ≡ ok i)
    → each (number_of l.question) ok l.i (l.n - l.i) ≡ each (number_of l.question) ok 0 l.n
