-- `slips::writing::count_events` counts the facts event by event. The loop's invariant: the count is that of the first z events. Assumes nothing.
use mathlib.Core.Path.{◌≡◌}
use Prim.Native.Nat.{◌≤◌, ◌*◌}
use lib.ListN.{length}
use Rattle.tables.specs.Board.{board}
use Rattle.model.specs.Slips.{premise_list}
use Rattle.slips.proofs.writing.count_events.Given as goal

abbrev pub invariant-loop-z : goal.invariant-loop-z
invariant-loop-z g l = (l.count ≡ length (premise_list l.z (g.C.ByEvent.cites l.c (board l.b.words)) (g.C.ByEvent.says l.c (board l.b.words)))) × (l.count ≤ 3 * l.z)
