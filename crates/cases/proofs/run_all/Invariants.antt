-- The text behind a case is shorter than from it on.
use Rattle.std.proofs.Common.{length}
use Rattle.cases.proofs.run_all.Given as goal

abbrev pub decreases-loop-case : goal.decreases-loop-case
decreases-loop-case g l = length l.rest
