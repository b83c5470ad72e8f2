-- `totals::total` adds the members' amounts. Assumes nothing.
use mathlib.Core.Path.{◌≡◌, ◌∙◌}
use native.Mathlib.Omega.{arith}
use Rattle.std.proofs.Common.{rules, of_calls}
use Prim.Native.Nat.{ℕ}
use lib.IntN.{ℤ, pos, ◌+ℤ◌}
use Rattle.integers.proofs.Linear.{ints, add_law}
use Rattle.model.specs.Job.{h_max}
use Rattle.model.specs.View.{side}
use Rattle.tables.specs.Board.{board}
use Rattle.sets.specs.Sets.{count_at}
use Rattle.levels.proofs.Adding.{wider}
use Rattle.totals.specs.Totals.{event_at, total_at}
use Rattle.totals.proofs.Summing.{part_within}
use Rattle.totals.proofs.total.Goals as goal

zero_left : (x : ℤ) → (pos 0 +ℤ x) ≡ x
zero_left x = omega (ints, add_law (pos 0) x)

pub returns : goal.returns
returns c =
    let a = c.args in
    let W = board a.b.now.words in
    let f : ℕ → ℤ = λ i. side a.mirror W (event_at a.set.table.now a.set.at i) h_max in
    let s = c.added.ensures f (λ i l h p. search (rules, of_calls)) in
    let here : c.added.result.0 ≡ total_at a.mirror a.set.table.now a.set.at W = let e = c.count.ensures.0 in rw (← e) (s ∙ zero_left _) in
    (here, wider here (part_within c.requires a.mirror (count_at a.set.table.now a.set.at) (omega arith)) (omega arith))
