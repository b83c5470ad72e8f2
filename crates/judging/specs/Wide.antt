-- The widest windows on a board.
use Rattle.std.specs.Prelude.{◌≡◌, List, ℕ, ◌<◌, ℤ, pos}
use Rattle.model.specs.Job.{End, t_min, t_max, h_min, h_max, Windows, widest_h_min, widest_h_max}
use Rattle.tables.specs.Board.{board, Whole}

-- The widest windows of an event's kind, of which v is an amount: 0..H, and the widest amounts.
abbrev pub widest_of : ℤ → ℤ → End → ℤ
widest_of h v t_min = pos 0
widest_of h v t_max = h
widest_of h v h_min = widest_h_min v
widest_of h v h_max = widest_h_max v

-- The windows W opened.
abbrev pub opened : ℤ → Windows → Windows
opened h W y k = widest_of h (W y h_max) k

-- Those of the first n events are opened.
pub record Wide (n : ℕ) (h : ℤ) (W : Windows) (b : List ℤ) : Type 0 where
  pub whole : Whole b
  pub is : (y : ℕ) → y < n → (k : End) → board b y k ≡ opened h W y k
