-- `Board::t_min` reads the board's word of that end. Assumes nothing.
use mathlib.Core.Path.{◌∙◌}
use lib.IntN.{pos}
use lib.ListN.{get_or}
use Rattle.integers.proofs.Linear.{back32}
use Rattle.tables.proofs.Boarding.{first_word}
use Rattle.tables.proofs.board.Board.t_min.Goals as goal

pub returns : goal.returns
returns c =
    let a = c.args in
    back32 (get_or a.self.now.words a.y (pos 0)) (search) ∙ first_word a.self.now.words a.y
