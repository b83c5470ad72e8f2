-- `slips::writer::Writer::put_events` appends the facts event by event. The loop's invariant: those of the first z events are appended, to the same buffer. Assumes nothing.
use mathlib.Core.Path.{◌≡◌}
use Rattle.tables.specs.Board.{board}
use Rattle.model.specs.Slips.{premise_words, premise_list}
use Rattle.slips.specs.Writing.{Wrote}
use Rattle.slips.proofs.writer.Writer.put_events.Given as goal

abbrev pub invariant-loop-z : goal.invariant-loop-z
invariant-loop-z g l =
    (l.self.words.ghost_name ≡ l.initial.self.words.ghost_name)
    × Wrote (premise_words (premise_list l.z (g.C.ByEvent.cites l.c (board l.b.words)) (g.C.ByEvent.says l.c (board l.b.words)))) l.initial.self l.self
