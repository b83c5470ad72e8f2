-- `Board::end` reads the word of an end by its row. Assumes nothing.
use mathlib.Core.Path.{◌∙◌, ap}
use Prim.Native.Nat.{◌+◌, ◌*◌}
use lib.IntN.{pos}
use lib.ListN.{get_or}
use Rattle.integers.proofs.Linear.{back32}
use Rattle.tables.specs.Board.{board}
use Rattle.tables.proofs.board.Board.end.Goals as goal

pub returns : goal.returns
unfolding board
returns c =
    let a = c.args in
    let ws = a.self.now.words in
    back32 (get_or ws (64 * c.row.result + a.y) (pos 0)) (search) ∙ ap (λ r. get_or ws (64 * r + a.y) (pos 0)) c.row.ensures
