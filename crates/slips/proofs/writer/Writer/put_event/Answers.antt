-- `slips::writer::Writer::put_event` appends an event's facts one by one. Assumes nothing.
use mathlib.Core.List.{◌++◌}
use Rattle.model.specs.Job.{t_min, t_max}
use Rattle.tables.specs.Ends.{end_of}
use Rattle.slips.specs.Telling.{told}
use Rattle.slips.proofs.Filling.{room_first, room_left, wrote_more}
use Rattle.slips.proofs.writer.Writer.put_event.Goals as goal

pub put_fact-requires-2 : goal.put_fact-requires-2
put_fact-requires-2 c =
    let f = c.args.f.now in
    let z = c.args.z in
    let rest = told z t_max f.upper ++ told z (end_of f.end) f.height in
    (room_first (told z t_max f.upper) (told z (end_of f.end) f.height) c.put_fact.new.self (room_left (told z t_min f.lower) rest c.requires.0 c.put_fact.ensures.words), c.requires.1)

pub put_fact-requires-3 : goal.put_fact-requires-3
put_fact-requires-3 c =
    let f = c.args.f.now in
    let z = c.args.z in
    let rest = told z t_max f.upper ++ told z (end_of f.end) f.height in
    (room_left (told z t_max f.upper) (told z (end_of f.end) f.height) (room_left (told z t_min f.lower) rest c.requires.0 c.put_fact.ensures.words) c.put_fact-2.ensures.words, c.requires.1)

pub returns-clause-words : goal.returns-clause-words
returns-clause-words c =
    let f = c.args.f.now in
    let z = c.args.z in
    let rest = told z t_max f.upper ++ told z (end_of f.end) f.height in
    wrote_more (told z t_min f.lower) rest c.put_fact.ensures.words (wrote_more (told z t_max f.upper) (told z (end_of f.end) f.height) c.put_fact-2.ensures.words c.put_fact-3.ensures.words)
