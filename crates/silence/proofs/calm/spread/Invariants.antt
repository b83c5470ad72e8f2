-- `silence::calm::spread` takes the largest width. The loop's invariant: it is that of the first y events. Assumes nothing.
use mathlib.Core.Path.{◌≡◌}
use Rattle.integers.specs.Range.{Within}
use Rattle.tables.specs.Board.{board}
use Rattle.silence.specs.Calm.{spread_of}
use Rattle.silence.proofs.calm.spread.Given as goal

abbrev pub invariant-loop-y : goal.invariant-loop-y
invariant-loop-y l = (l.widest.0 ≡ spread_of l.y (board l.b.words)) × Within l.widest.0 20000
