-- `slips::writer::Writer::put_lag` appends a lag's facts by event. Assumes nothing.
use Rattle.model.specs.Job.{t_min, t_max}
use Rattle.slips.specs.Telling.{told}
use Rattle.slips.proofs.Filling.{room_left, wrote_more, lag_onward, lag_back}
use Rattle.slips.proofs.writer.Writer.put_lag.Goals as goal

pub put_fact-requires-then-c : goal.put_fact-requires-then-c
put_fact-requires-then-c c =
    let k = c.args.c.now in
    let room = rw (lag_onward k c.if-c.true) at c.requires.0 in
    (room_left (told k.a t_min k.from) (told k.b t_max k.to) room c.put_fact.ensures.words, c.requires.2)

pub put_fact-requires-else-c-2 : goal.put_fact-requires-else-c-2
put_fact-requires-else-c-2 c =
    let k = c.args.c.now in
    let room = rw (lag_back k c.if-c.false) at c.requires.0 in
    (room_left (told k.b t_max k.to) (told k.a t_min k.from) room c.put_fact-else-c.ensures.words, c.requires.1)

pub returns-then-c-clause-words : goal.returns-then-c-clause-words
returns-then-c-clause-words c =
    let k = c.args.c.now in
    rw (lag_onward k c.if-c.true)
    (wrote_more (told k.a t_min k.from) (told k.b t_max k.to) c.put_fact.ensures.words c.put_fact-then-c.ensures.words)

pub returns-else-c-clause-words : goal.returns-else-c-clause-words
returns-else-c-clause-words c =
    let k = c.args.c.now in
    rw (lag_back k c.if-c.false)
    (wrote_more (told k.b t_max k.to) (told k.a t_min k.from) c.put_fact-else-c.ensures.words c.put_fact-else-c-2.ensures.words)
