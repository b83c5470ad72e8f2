-- `facts::premises::others` tests all events. The loop's invariant: the flags are those of the first y. Assumes nothing.
use Rattle.tables.specs.Board.{board}
use Rattle.levels.specs.Values.{as_view, seen_by}
use Rattle.facts.specs.Quotes.{Any}
use Rattle.facts.proofs.premises.others.Given as goal

abbrev pub invariant-loop-y : goal.invariant-loop-y
invariant-loop-y l = Any l.y (as_view l.view (board l.b.words)) (seen_by l.view (board l.b.words)) l.u.0 l.v.0 l.found
