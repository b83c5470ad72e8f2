-- `judging::giving::rule_gives` is question 16 on windows at hand. Assumes nothing.
use Rattle.tables.specs.Board.{board}
use Rattle.judging.proofs.Passing.{gives_by}
use Rattle.judging.proofs.giving.rule_gives.Goals as goal

pub returns : goal.returns
returns c = λ j h fs. gives_by j (board c.args.b.now.words) c.args.s.now fs (c.finding.ensures j h) c.concludes.ensures
