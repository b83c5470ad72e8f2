-- The lines of the events so far are put, and the words of the others are left.
use Rattle.std.proofs.Common.{◌≡◌, ◌*◌, ◌≤◌, drop, length}
use Rattle.model.specs.Print.{event_lines}
use Rattle.printer.specs.Buffer.{Put}
use Rattle.printer.proofs.text.Text.put_events.Given as goal

abbrev pub invariant-loop-y : goal.invariant-loop-y
invariant-loop-y l =
    let it = l.y-iterator in
    record {
      put : Put (69 * it.count) l.initial.self l.self (event_lines l.table it.count);
      size : it.iter.size ≡ 5;
      left : it.iter.rest.now ≡ drop (5 * it.count) l.table;
      within : 5 * it.count ≤ length l.table;
    }
