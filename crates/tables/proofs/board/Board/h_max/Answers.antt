-- `tables::h_max` reads the board's word of that end. Assumes nothing.
use borrow.Author.Rules.{rules}
use Rattle.tables.specs.Board.{board}
use Rattle.tables.proofs.board.Board.h_max.Goals as goal

pub returns : goal.returns
unfolding board
returns c = search rules
