-- `rounds::CageJob::two_rules` makes two rules in a row at an event, or passes over both. Assumes nothing.
use mathlib.Core.Path.{◌≡◌, refl, ap, ◌∙◌}
use mathlib.Core.List.{[], ◌∷◌}
use Prim.Native.Nat.{◌+◌}
use Rattle.model.specs.Agenda.{try}
use Rattle.rules.specs.Values.{rule_of}
use Rattle.rules.specs.Numbers.{number_of}
use Rattle.rounds.specs.Sweeps.{first_in}
use Rattle.rounds.proofs.Moves.{moves_from, made_both}
use Rattle.rounds.proofs.Passing.{level_number, time_number, sees_level, sees_time, two_passed}
use Rattle.rounds.proofs.CageJob.two_rules.Goals as goal

pub returns-then-reaches_early : goal.returns-then-reaches_early
returns-then-reaches_early c =
    let k = c.args.self.now in
    let s = c.sight.ensures in
    two_passed k c.args.log.now refl refl (sees_level k c.requires) (sees_time k c.requires) (rw (s.0, s.1) at c.reaches_early.ensures) c.if-reaches_early.true

pub returns : goal.returns
returns c =
    let v = c.args.view in
    let e = v.subject in
    let r = first_in v in
    let level : number_of (rule_of c.reservoir-level.result) ≡ r = ap number_of c.reservoir-level.ensures ∙ level_number v.stance.mirror v.stance.strict in
    let time : number_of (rule_of c.reservoir-time.result) ≡ r + 1 = ap number_of c.reservoir-time.ensures ∙ time_number v.stance.mirror v.stance.strict in
    moves_from refl refl (made_both (λ j. try r e e ∷ []) (λ j. try (r + 1) e e ∷ []) (rw level at c.attempt.ensures) (rw time at c.attempt-2.ensures))
