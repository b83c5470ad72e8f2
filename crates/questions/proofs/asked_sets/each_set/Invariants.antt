-- `questions::asked_sets::each_set` puts one question to each set in turn. The loop's invariant: the set at hand is set g of the table, and what is left to ask from it on is the whole answer. Assumes nothing.
use Rattle.std.proofs.Common.{◌≡◌, ℕ, Bool, ◌<◌, ◌≤◌, ◌-◌, ◌*◌}
use Rattle.model.specs.Job.{set_begin}
use Rattle.model.specs.Questions.{each}
use Rattle.sets.specs.declared.Set.{Set}
use Rattle.questions.specs.Numbers.{number_of}
use Rattle.questions.specs.Asked.{Nth}
use Rattle.questions.proofs.asked_sets.each_set.Given as goal

abbrev pub invariant-loop-g : goal.invariant-loop-g
invariant-loop-g f l =
    (l.set.table.now ≡ l.table) × (l.set.at ≡ set_begin l.table l.g) × (l.set.at ≤ 2147483651 * l.g)
    × ((ok : ℕ → Bool)
    → ((i : ℕ) → (s : Set) → i < l.m → Nth l.table i s → (r : Bool) → goal.F-post f l.right i s r → r ≡ ok i)
    → each (number_of l.question) ok l.g (l.m - l.g) ≡ each (number_of l.question) ok 0 l.m)
