-- A sight as the definitions have it.
use Rattle.model.specs.Job.{Windows}
use Rattle.model.specs.View as model
use Rattle.tables.specs.Board.{board}
use Rattle.levels.specs.Values.{as_view, seen_by}
use Rattle.levels.specs.declared.Sight.{Sight}

-- Its view on the board's windows, and the windows as it shows them.
abbrev pub sees : Sight → model.View
sees s = as_view s.view (board s.board.now.words)

abbrev pub shows : Sight → Windows
shows s = seen_by s.view (board s.board.now.words)
