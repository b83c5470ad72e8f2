-- The event's line is put behind those before it, and its words are no longer left.
use Rattle.std.proofs.Common.{sym, ◌∙◌}
use Rattle.printer.proofs.Writing.{event_more, words_left, words_within}
use Rattle.printer.proofs.text.Text.put_events.Goals as goal

pub loop-y-preserved : goal.loop-y-preserved
loop-y-preserved c =
    let i = c.loop-y.invariant in
    let s = c.in-Some.ensures.steps in
    let table = c.args.table.now in
    let y = c.loop-y.y-iterator.count in
    let next = sym i.left ∙ s.0.1.0 in
    let five = s.0.1.1 ∙ i.size in
    record {
      put = rw s.2 (event_more table y _ _ next five s.1 i.put c.put_event.ensures);
      size = s.0.0 ∙ i.size;
      left = rw s.2 (words_left table y _ _ next five);
      within = rw s.2 (words_within table y _ _ next five);
    }
