-- `judging::opened::widen` opens event by event. The loop's invariant: the first y events have their widest windows. Assumes nothing.
use Rattle.tables.specs.Board.{board}
use Rattle.judging.specs.Wide.{Wide}
use Rattle.judging.proofs.opened.widen.Given as goal

abbrev pub invariant-loop-y : goal.invariant-loop-y
invariant-loop-y l = Wide l.y l.k.horizon.0 (board l.b.words) l.wide.words
