use Prim.Native.Nat.{ℕ}
use mathlib.Core.List.{List}
use Rattle.model.specs.Job.{Job as Call}
use Rattle.model.specs.Agenda.{Attempt, lag_attempts}
use Rattle.rounds.proofs.Moves.{made_none, made_on}
use Rattle.rounds.proofs.CageJob.all_lags.Goals as goal

abbrev lag_of : ℕ → Call → List Attempt
lag_of g j = lag_attempts j g

pub loop-g-init : goal.loop-g-init
loop-g-init c = made_none lag_of _ _

pub loop-g-preserved : goal.loop-g-preserved
loop-g-preserved c = made_on lag_of c.loop-g.g c.loop-g.invariant c.lag_rules.ensures
