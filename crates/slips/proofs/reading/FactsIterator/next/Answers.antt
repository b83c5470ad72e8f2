-- `slips::reading::Facts` gives the fact of its first three words. Assumes nothing.
use Rattle.slips.proofs.Sizing.{none_in, one_in}
use Rattle.slips.proofs.reading.FactsIterator.next.Goals as goal

pub returns-then-words-lt3-clause-steps : goal.returns-then-words-lt3-clause-steps
returns-then-words-lt3-clause-steps c = none_in c.args.self.now.words.now c.if-words-lt3.true

pub returns-clause-steps : goal.returns-clause-steps
returns-clause-steps c = rw c.fact_at.ensures (one_in c.args.self.now.words.now c.if-words-lt3.false)
