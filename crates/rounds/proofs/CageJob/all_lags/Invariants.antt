-- `rounds::CageJob::all_lags` goes through the lags. The loop's invariant: those of the lags so far are made. Assumes nothing.
use Rattle.model.specs.Agenda.{each_of, lag_attempts}
use Rattle.rounds.specs.State.{Made}
use Rattle.rounds.proofs.CageJob.all_lags.Given as goal

abbrev pub invariant-loop-g : goal.invariant-loop-g
invariant-loop-g l = Made (λ j. each_of (lag_attempts j) 0 l.g) l.initial.self l.initial.log l.self l.log
