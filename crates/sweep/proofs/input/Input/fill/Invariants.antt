-- The words filled are within the table. The measure is what is left of it.
use Rattle.std.proofs.Common.{length, ◌-◌, ◌≤◌}
use Rattle.sweep.proofs.input.Input.fill.Given as goal

abbrev pub invariant-loop-done : goal.invariant-loop-done
invariant-loop-done g l = l.done ≤ length l.table

abbrev pub decreases-loop-done : goal.decreases-loop-done
decreases-loop-done g l = length l.table - l.done
