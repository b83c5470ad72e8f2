-- `rounds::CageJob::all_targets` goes through the targets of a rule, unless none can move. The loop's invariant: those of the targets so far are made, and the level is what it was. Assumes nothing.
use mathlib.Core.List.{[], ◌∷◌}
use Rattle.model.specs.Agenda.{try, each_of}
use Rattle.rules.specs.Values.{rule_of}
use Rattle.rules.specs.Numbers.{number_of}
use Rattle.rounds.specs.State.{Made}
use Rattle.rounds.specs.Sweeps.{Leaves}
use Rattle.rounds.proofs.CageJob.all_targets.Given as goal

abbrev pub invariant-loop-y : goal.invariant-loop-y
invariant-loop-y l =
    Made (λ j. each_of (λ y. try (number_of (rule_of l.r)) l.view.subject y ∷ []) 0 l.y) l.initial.self l.initial.log l.self l.log × Leaves l.view l.self.board.now.words l.s.0
