-- `Board::unload_event` stores an event's four words at once. Assumes nothing.
use mathlib.Core.Path.{◌≡◌, refl}
use Prim.Native.Nat.{◌*◌}
use native.Mathlib.Omega.{arith}
use Rattle.integers.proofs.Linear.{back32}
use Rattle.model.specs.Job.{t_min, t_max, h_min, h_max}
use Rattle.tables.specs.Board.{words_of}
use Rattle.tables.proofs.Boarding.{stored_at_once}
use Rattle.tables.proofs.board.Board.unload_event.Goals as goal

pub returns : goal.returns
returns c =
    let a = c.args in
    let w = c.windows-w.result in
    let r = c.windows-w.ensures in
    let stored = (rw (back32 w.t_min.0 (search), back32 w.t_max.0 (search), back32 w.h_min.0 (search), back32 w.h_max.0 (search)) at c.copy_from_slice.ensures.after) in
    let is : c.copy_from_slice.new.self ≡ words_of a.self.now.words a.y = rw (← r t_min, ← r t_max, ← r h_min, ← r h_max) stored in
    stored_at_once a.table.now c.copy_from_slice.new.self (words_of a.self.now.words a.y) (5 * a.y) (omega arith) refl is
