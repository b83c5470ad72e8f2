-- `cages::Home::join`: of the first y events those of the subject's cage are put back. Assumes nothing.
use Rattle.cages.proofs.Masking.{JoinedTo}
use Rattle.cages.proofs.Home.join.Given as goal

abbrev pub invariant-loop-y : goal.invariant-loop-y
invariant-loop-y l = JoinedTo l.y l.self.table.now l.self.subject l.initial.b.words l.s.words l.b.words
