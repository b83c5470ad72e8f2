-- What holds of a job of one cage on a board.
use Rattle.std.specs.Prelude.{List, ℤ}
use Rattle.model.specs.Standing.{SaneCage, Ranged}
use Rattle.tables.specs.Board.{board}
use Rattle.tables.specs.Job.{reservoir_of}
use Rattle.tables.specs.declared.Job.{Job}

-- The windows of its events and its cage are in range.
pub record Standing (k : Job) (b : List ℤ) : Type 0 where
  pub ranged : Ranged k.events (board b)
  pub cage : SaneCage (reservoir_of k.reservoir)
