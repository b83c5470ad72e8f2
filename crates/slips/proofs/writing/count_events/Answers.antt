use mathlib.Core.Path.{sym, ap}
use native.Mathlib.Omega.{arith}
use lib.ListN.{length}
use Rattle.tables.specs.Board.{board}
use Rattle.slips.proofs.Filling.{premises_none, length_more}
use Rattle.slips.proofs.writing.count_events.Goals as goal

pub loop-z-init : goal.loop-z-init
loop-z-init g c = let a = c.args in (sym (ap length (premises_none (g.C.ByEvent.cites a.c (board a.b.now.words)) (g.C.ByEvent.says a.c (board a.b.now.words)))), omega arith)

pub loop-z-preserved : goal.loop-z-preserved
loop-z-preserved g c =
    let a = c.args in
    let z = c.loop-z.z in
    let one = rw c.event_facts.ensures at (c.count-count.ensures z) in
    (omega (arith, one.0, length_more (g.C.ByEvent.cites a.c (board a.b.now.words)) (g.C.ByEvent.says a.c (board a.b.now.words)) z), omega (arith, one.1))
