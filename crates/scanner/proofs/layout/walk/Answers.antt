-- A set more of the walk.
use Rattle.std.proofs.Common.{arith, sym, ◌∙◌}
use Rattle.scanner.proofs.Laying.{walk_on}
use Rattle.scanner.proofs.layout.walk.Goals as goal

pub loop-preserved : goal.loop-preserved
loop-preserved c =
    let l = c.loop in
    let k = c.in_ok-members in
    (omega arith, omega (arith, k.ensures.few), walk_on _ l.at l.counter _ k.members l.invariant.2 (omega arith) (sym c.count_at.ensures.value ∙ k.was))
