-- `Board::unload` writes the board back. The loop's invariant: the table's first y events are the board's, the rest as at entry. Assumes nothing.
use mathlib.Core.Path.{◌≡◌}
use mathlib.Core.List.{◌++◌}
use Prim.Native.Nat.{◌*◌}
use lib.ListN.{length, drop}
use Rattle.tables.specs.Board.{table_of}
use Rattle.tables.proofs.board.Board.unload.Given as goal

abbrev pub invariant-loop-y : goal.invariant-loop-y
invariant-loop-y l = (length l.table ≡ length l.initial.table) × (l.table ≡ table_of l.y l.initial.table l.self.words ++ drop (5 * l.y) l.initial.table)
