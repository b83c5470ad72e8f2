-- `judging::premises::narrow_by` narrows fact by fact. The loop's invariant: narrowing the board by the facts still to come gives what narrowing the first board by all gives. Assumes nothing.
use lib.Dec.{T}
use Rattle.tables.specs.Board.{board}
use Rattle.model.specs.Reader.{premises_fit, narrowed}
use Rattle.slips.specs.Slip.{premises_in}
use Rattle.judging.specs.Ready.{Same}
use Rattle.judging.proofs.premises.narrow_by.Given as goal

abbrev pub invariant-loop-f : goal.invariant-loop-f
invariant-loop-f l =
    (goal.iterator-loop-f).can_next l.f-iterator
    × (goal.iterator-loop-f).is_finite l.f-iterator
    × T (premises_fit 64 (premises_in l.f-iterator.words.now))
    × Same (narrowed (board l.b.words) (premises_in l.f-iterator.words.now)) (narrowed (board l.initial.b.words) (premises_in l.fn.facts.words.now))
