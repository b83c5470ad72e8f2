-- `cages::Home::mask`: the first y events are masked. Assumes nothing.
use Rattle.cages.proofs.Masking.{MaskedTo}
use Rattle.cages.proofs.Home.mask.Given as goal

abbrev pub invariant-loop-y : goal.invariant-loop-y
invariant-loop-y l = MaskedTo l.y l.self.table.now l.self.subject l.b.words l.s.words
