-- `silence::calm::are_ordered` tests each event's times. The loop's invariant: the first y events are in order. Assumes nothing.
use mathlib.Core.Path.{◌≡◌}
use Rattle.tables.specs.Board.{board}
use Rattle.silence.specs.Calm.{ordered}
use Rattle.silence.proofs.calm.are_ordered.Given as goal

abbrev pub invariant-loop-y : goal.invariant-loop-y
invariant-loop-y l = (l.all ≡ ordered l.y (board l.b.words))
