use mathlib.Core.Path.{refl, ◌∙◌}
use native.Mathlib.Omega.{arith}
use Rattle.tables.proofs.Boarding.{unload_none, unload_more}
use Rattle.tables.proofs.board.Board.unload.Goals as goal

pub loop-y-init : goal.loop-y-init
loop-y-init c = (refl, unload_none c.args.self.now.words c.args.table.now)

pub loop-y-preserved : goal.loop-y-preserved
loop-y-preserved c =
    let l = c.loop-y in
    let a = c.args in
    (c.unload_event.auto.table ∙ l.invariant.0, unload_more a.self.now.words a.table.now l.y (omega arith) l.invariant.1 c.unload_event.ensures)
