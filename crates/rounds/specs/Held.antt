-- What holds of a call's board and of its list between any two attempts.
use Rattle.std.specs.Prelude.{◌≡◌, List, ℕ, ◌+◌, ◌*◌, ◌≤◌, ◌<◌, ℤ, length}
use Rattle.model.specs.Job.{h_min, h_max, produces}
use Rattle.model.specs.Standing.{Ranged}
use Rattle.tables.specs.Board.{Whole, board}

-- Of the board of n events: the ends are in range, an event's amounts are a delivery's at both ends or at none.
pub record Held (n : ℕ) (b : List ℤ) : Type 0 where
  pub whole : Whole b
  pub ranged : Ranged n (board b)
  pub signed : (y : ℕ) → y < n → produces (board b y h_min) ≡ produces (board b y h_max)

-- Of the list in a buffer: a trailer fits after it.
pub record Roomy (buffer : List ℤ) (used slips last : ℕ) : Type 0 where
  pub small : length buffer ≤ 1000000
  pub trailer_fits : used + 3 ≤ length buffer
  pub counted : 7 * slips ≤ used
  pub placed : last ≤ used
