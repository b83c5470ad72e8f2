-- `checker::turns::read_slips` takes the slips in turn. The loop's invariant, `At`: reading what is left from here is the whole reading, on windows that stand. Assumes nothing.
use Rattle.std.proofs.Common.{length}
use Rattle.judging.specs.Ready.{job_of}
use Rattle.checker.proofs.Looping.{At}
use Rattle.checker.proofs.turns.read_slips.Given as goal

abbrev pub invariant-loop-i : goal.invariant-loop-i
invariant-loop-i l = At l.c.job.events (job_of l.c) l.slips (length l.slips) l.count l.b.words l.i-counter l.tail
