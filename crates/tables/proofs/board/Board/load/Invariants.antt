-- `Board::load` brings a window table onto the board. The loop's invariant: the board's first y events are the table's. Assumes nothing.
use mathlib.Core.Path.{◌≡◌}
use Prim.Native.Nat.{◌*◌}
use lib.ListN.{length, take}
use Rattle.tables.specs.Board.{table_of}
use Rattle.tables.proofs.board.Board.load.Given as goal

abbrev pub invariant-loop-y : goal.invariant-loop-y
invariant-loop-y l = (length l.self.words ≡ 256) × (table_of l.y l.table l.self.words ≡ take (5 * l.y) l.table)
