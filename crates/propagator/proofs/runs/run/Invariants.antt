-- `propagator::runs::run` runs rounds. The loop's invariant: the run that is left, with the fuel that is left, is the whole run. Assumes nothing.
use Prim.Native.Nat.{◌-◌}
use Rattle.propagator.proofs.Running.{Rolling}
use Rattle.propagator.proofs.runs.run.Given as goal

abbrev pub invariant-loop-rounds : goal.invariant-loop-rounds
invariant-loop-rounds l = Rolling l.fuel l.initial.call l.initial.log l.call l.log (l.rounds - 1)
