use mathlib.Core.Path.{ap, ◌∙◌}
use native.Mathlib.Omega.{arith}
use lib.ListN.{length}
use Rattle.tables.proofs.Boarding.{load_none, load_more, length_windows_set}
use Rattle.tables.proofs.board.Board.load.Goals as goal

pub loop-y-init : goal.loop-y-init
loop-y-init c = (c.args.self.now.whole, load_none c.args.table.now c.args.self.now.words)

pub loop-y-preserved : goal.loop-y-preserved
loop-y-preserved c =
    let l = c.loop-y in
    let a = c.args in
    let e = c.set_windows.ensures in
    (ap length e ∙ length_windows_set _ _ _ ∙ l.invariant.0, load_more a.table.now l.self.words l.y l.invariant.0 (omega arith) (omega arith) l.invariant.1 c.of_event.ensures e)
