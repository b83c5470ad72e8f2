-- The windows of one event: read off a board or a window table, and stored on a board.
use Rattle.std.specs.Prelude.{◌≡◌, List, ℕ, ◌+◌, ◌*◌, ℤ, set}
use Rattle.model.specs.Job as model
use Rattle.model.specs.Job.{End, t_min, t_max, h_min, h_max, word}
use Rattle.tables.specs.declared.windows.Windows.{Windows}

-- One of its ends.
abbrev pub at_end : Windows → End → ℤ
at_end w t_min = w.t_min.0
at_end w t_max = w.t_max.0
at_end w h_min = w.h_min.0
at_end w h_max = w.h_max.0

-- They are those of event y in W.
abbrev pub Event : model.Windows → ℕ → Windows → Type 0
Event W y w = (k : End) → at_end w k ≡ W y k

-- The board b with the windows w for event y.
unfoldable pub windows_set : Windows → ℕ → List ℤ → List ℤ
windows_set w y b =
    set
    (set
    (set
    (set b (64 * word t_min + y) w.t_min.0)
    (64 * word t_max + y) w.t_max.0)
    (64 * word h_min + y) w.h_min.0)
    (64 * word h_max + y) w.h_max.0
