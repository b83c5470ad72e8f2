use native.Mathlib.Omega.{arith}
use Rattle.propagator.proofs.Running.{rolling_stops, rolling_ends, rolling_on}
use Rattle.propagator.proofs.runs.run.Goals as goal

pub returns-in-Some : goal.returns-in-Some
returns-in-Some c = rolling_ends c.loop-rounds.invariant (omega arith) c.turn.ensures c.in-Some.ensures (omega arith)

pub loop-rounds-preserved : goal.loop-rounds-preserved
loop-rounds-preserved c = rolling_on c.loop-rounds.invariant (omega arith) c.turn.ensures c.in_default.ensures (omega arith)

pub returns : goal.returns
returns c = rolling_stops c.loop-rounds.invariant (omega arith)

pub returns-in_default : goal.returns-in_default
returns-in_default c =
    rolling_stops (rolling_on c.loop-rounds.invariant (omega arith) c.turn.ensures {k = c.args.fuel} c.in_default.ensures (omega arith)) (omega arith)
