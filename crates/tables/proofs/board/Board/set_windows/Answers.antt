-- `Board::set_windows` stores the four words. Assumes nothing.
use native.Mathlib.Nat.{zero-add}
use Rattle.integers.proofs.Linear.{back32}
use Rattle.tables.specs.Windows.{windows_set}
use Rattle.tables.proofs.board.Board.set_windows.Goals as goal

pub returns : goal.returns
unfolding windows_set
returns c =
    let w = c.args.w in
    simp (back32 w.t_min.0 (search), back32 w.t_max.0 (search), back32 w.h_min.0 (search), back32 w.h_max.0 (search), zero-add)
