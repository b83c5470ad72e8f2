use native.Mathlib.Omega.{arith}
use mathlib.Core.Path.{sym, ◌∙◌}
use Rattle.cages.proofs.Masking.{joined_own, joined_other}
use Rattle.cages.proofs.Home.join.Goals as goal
use Rattle.cages.proofs.Home.join.Goals.{then-holds, else-holds}

pub loop-y-preserved : goal.loop-y-preserved
loop-y-preserved c =
    let l = c.loop-y in
    let a = c.args in
    let few = a.self.now.homed.few in
    let is = c.holds.ensures in
    elim c.if-holds.branch [
      | then-holds w ↦ rw w.b-is (joined_own l.y a.self.now.table.now a.self.now.subject a.b.now.words a.s.now.words l.b.words (omega (arith, few)) (sym is ∙ w.if-holds.true) l.invariant w.windows.ensures w.set_windows.ensures)
      | else-holds w ↦ rw w.b-is (joined_other l.y a.self.now.table.now a.self.now.subject a.b.now.words a.s.now.words l.b.words (omega (arith, few)) (sym is ∙ w.if-holds.false) l.invariant)
    ]
