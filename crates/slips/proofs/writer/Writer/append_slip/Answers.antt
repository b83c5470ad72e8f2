-- `slips::writer::Writer::append_slip` appends a slip: its first six words, its facts, its length. Assumes nothing.
use native.Mathlib.Omega.{arith}
use Rattle.slips.specs.Telling.{quoted_by, written_by}
use Rattle.slips.proofs.Filling.{words_length}
use Rattle.slips.proofs.Wording.{few_facts, slip_appended}
use Rattle.slips.proofs.writer.Writer.append_slip.Goals as goal

pub put_head-requires : goal.put_head-requires
put_head-requires c =
    let p = c.requires.0 in
    let few = few_facts c.args.quoting.now.cited p.ranged in
    let count = c.requires.1 in
    (omega (arith, c.requires.2), p.numbered, p.subject, p.target, omega arith)

pub put_length-requires : goal.put_length-requires
put_length-requires c =
    let few = few_facts c.args.quoting.now.cited c.requires.0.ranged in
    let count = c.requires.1 in
    let v = c.put_head.ensures.words.appended in
    let w = c.put_facts.ensures.words.appended in
    let long = words_length (quoted_by c.args.quoting.now) in
    (omega (arith, c.requires.2), omega arith)

pub returns-clause-words : goal.returns-clause-words
returns-clause-words c = slip_appended (written_by c.args.h c.args.quoting.now) c.requires.1 c.put_head.ensures.words c.put_facts.ensures.words c.put_length.ensures.words
