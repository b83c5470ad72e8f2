use native.Mathlib.Omega.{arith}
use Rattle.judging.proofs.Widest.{wide_more}
use Rattle.judging.proofs.opened.widen.Goals as goal

pub loop-y-preserved : goal.loop-y-preserved
loop-y-preserved c = wide_more c.loop-y.y (omega arith) c.loop-y.invariant c.h_max.ensures c.widest.ensures c.set_windows.ensures
