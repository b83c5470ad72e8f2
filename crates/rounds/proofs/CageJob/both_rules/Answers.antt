-- `rounds::CageJob::both_rules` makes rules 1 and 2 of a lag. Assumes nothing.
use mathlib.Core.Path.{refl}
use mathlib.Core.List.{[], ◌∷◌}
use Rattle.model.specs.Agenda.{try, lag_attempts}
use Rattle.rounds.proofs.Moves.{moves_from, made_both, made_as}
use Rattle.rounds.proofs.CageJob.both_rules.Goals as goal

pub returns : goal.returns
returns c =
    let g = c.args.g in
    let lag = c.args.lag in
    let is = c.requires.1 in
    made_as (λ j. try 1 g lag.a ∷ try 2 g lag.b ∷ []) (λ j. lag_attempts j g) (λ j h. rw (h.lags_are, is.a_is, is.b_is))
    (moves_from refl refl (made_both (λ j. try 1 g lag.a ∷ []) (λ j. try 2 g lag.b ∷ []) c.attempt.ensures c.attempt-2.ensures))
