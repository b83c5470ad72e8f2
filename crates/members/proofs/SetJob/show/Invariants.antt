-- `members::SetJob::show` shows the amounts of a set's members. The loop's invariant: those of the first i are shown. Assumes nothing.
use Rattle.members.specs.Members.{Alone}
use Rattle.members.proofs.SetJob.show.Given as goal

abbrev pub invariant-loop-i : goal.invariant-loop-i
invariant-loop-i l = Alone l.self l.i l.s.words
