-- `slips::writer::Writer::put_slip` writes a slip's facts, then its first six words, then its length. Assumes nothing.
use mathlib.Core.Path.{refl}
use native.Mathlib.Omega.{arith}
use Rattle.slips.specs.Telling.{quoted_by, written_by}
use Rattle.slips.proofs.Filling.{words_length}
use Rattle.slips.proofs.Wording.{few_facts, slip_put, facts_counted}
use Rattle.slips.proofs.writer.Writer.put_slip.Goals as goal

pub put_facts-requires : goal.put_facts-requires
put_facts-requires c =
    let p = c.requires.0 in
    let few = few_facts c.args.quoting.now.cited p.ranged in
    let room = c.requires.1 in
    (record { ranged = p.ranged; known = p.known }, omega arith)

pub put_head-requires : goal.put_head-requires
put_head-requires c =
    let p = c.requires.0 in
    let few = few_facts c.args.quoting.now.cited p.ranged in
    let room = c.requires.1 in
    let w = c.put_facts.ensures.words.appended in
    let m = facts_counted (written_by c.args.h c.args.quoting.now) w refl in
    (omega arith, p.numbered, p.subject, p.target, omega arith)

pub put_length-requires : goal.put_length-requires
put_length-requires c =
    let few = few_facts c.args.quoting.now.cited c.requires.0.ranged in
    let room = c.requires.1 in
    let v = c.put_facts.ensures.words.appended in
    let w = c.put_head.ensures.words.appended in
    let m = facts_counted (written_by c.args.h c.args.quoting.now) v refl in
    let long = words_length (quoted_by c.args.quoting.now) in
    (omega arith, omega arith)

pub returns-clause-words : goal.returns-clause-words
returns-clause-words c =
    let x = written_by c.args.h c.args.quoting.now in
    let room = c.requires.1 in
    let v = c.put_facts.ensures.words in
    let w = c.put_head.ensures.words in
    let l = c.put_length.ensures.words in
    record { appended = slip_put x (facts_counted x v.appended refl) (omega arith) v.appended w.appended l.appended }
