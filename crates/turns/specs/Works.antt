-- A call whose own questions passed, with a board of its windows.
use Rattle.std.specs.Prelude.{◌≡◌, List, ℕ, ◌*◌, ℤ, length}
use Rattle.model.specs.Job.{events, sent, Job}
use Rattle.model.specs.Standing.{Sane}
use Rattle.tables.specs.Board.{board}
use Rattle.tables.specs.Job.{Kinds}

-- The job j of a call, its own questions passed, has n events, and the board shows which of them are deliveries.
pub record Works (j : Job) (n : ℕ) (b : List ℤ) : Type 0 where
  pub sane : Sane j
  pub whole : length j.window_table ≡ 5 * n
  pub events_are : events j ≡ n
  pub kinds : Kinds n (board b) (sent j)
