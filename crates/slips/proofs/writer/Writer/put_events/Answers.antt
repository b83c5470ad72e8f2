use mathlib.Core.Path.{refl, ◌∙◌}
use native.Mathlib.Omega.{arith}
use Rattle.tables.specs.Board.{board}
use Rattle.model.specs.Slips.{premise_list}
use Rattle.slips.specs.Telling.{premises_of}
use Rattle.slips.proofs.Filling.{premises_none, premises_more, room_for, words_length, wrote_nothing, wrote_more}
use Rattle.slips.proofs.writer.Writer.put_events.Goals as goal

pub loop-z-init : goal.loop-z-init
loop-z-init g c = let a = c.args in (refl, rw (premises_none (g.C.ByEvent.cites a.c (board a.b.now.words)) (g.C.ByEvent.says a.c (board a.b.now.words))) (wrote_nothing a.self.now))

pub put_event-requires : goal.put_event-requires
put_event-requires g c =
    let a = c.args in
    let cites = g.C.ByEvent.cites a.c (board a.b.now.words) in
    let says = g.C.ByEvent.says a.c (board a.b.now.words) in
    let z = c.loop-z.z in
    let w = c.loop-z.invariant.1.appended in
    let few = c.requires.0.few in
    rw c.event_facts.ensures
    (omega (arith, words_length (premise_list z cites says), room_for cites says c.loop-z-test.true), omega arith)

pub loop-z-preserved : goal.loop-z-preserved
loop-z-preserved g c =
    let a = c.args in
    let cites = g.C.ByEvent.cites a.c (board a.b.now.words) in
    let says = g.C.ByEvent.says a.c (board a.b.now.words) in
    let z = c.loop-z.z in (
      c.put_event.ensures.same_buffer ∙ c.loop-z.invariant.0,
      rw (premises_more cites says z) (wrote_more (premise_list z cites says) (premises_of cites says z) c.loop-z.invariant.1 (rw c.event_facts.ensures at c.put_event.ensures.words)),
    )
