use native.Mathlib.Omega.{arith}
use Rattle.cages.proofs.Masking.{masked_more}
use Rattle.cages.proofs.Home.mask.Goals as goal

pub loop-y-preserved : goal.loop-y-preserved
loop-y-preserved c =
    let l = c.loop-y in
    let a = c.args in
    let few = a.self.now.homed.few in
    masked_more l.y a.self.now.table.now a.self.now.subject a.b.now.words l.s.words (omega (arith, few)) c.holds-own.ensures l.invariant c.windows.ensures c.seen.ensures c.set_windows.ensures
