-- `slips::writer::Writer::put_fact` appends a fact's three words, or none. Assumes nothing.
use Rattle.std.proofs.Common.{rules}
use Rattle.tables.specs.Ends.{end_of}
use Rattle.slips.proofs.Filling.{wrote_one, wrote_absent}
use Rattle.slips.proofs.writer.Writer.put_fact.Goals as goal

pub returns-in-Some-clause-words : goal.returns-in-Some-clause-words
returns-in-Some-clause-words c = wrote_one c.args.y (end_of c.args.end) c.in-Some.is (search rules) (search rules) (search rules) c.put.ensures.words

pub returns-in_default-clause-words : goal.returns-in_default-clause-words
returns-in_default-clause-words c = wrote_absent c.args.y (end_of c.args.end) c.args.self.now c.in_default.is
