-- `rounds::CageJob::three_rules` makes three rules in a row at an event. Assumes nothing.
use Prim.Native.Nat.{◌+◌}
use Rattle.levels.proofs.Viewing.{subject_is}
use Rattle.model.specs.Agenda.{target_attempts}
use Rattle.rounds.specs.Sweeps.{first_of, two_attempts}
use Rattle.rounds.proofs.Moves.{made_both}
use Rattle.rounds.proofs.Passing.{looks_next}
use Rattle.rounds.proofs.CageJob.three_rules.Goals as goal

pub all_targets-requires : goal.all_targets-requires
all_targets-requires c = looks_next c.two_rules.ensures c.view_at-view.ensures.1

pub returns : goal.returns
returns c =
    let a = c.args in
    let v = c.view_at-view.ensures.0 in
    let r = first_of a.mirror a.strict in
    made_both (λ j. two_attempts r a.e) (λ j. target_attempts j (r + 2) a.e)
    (rw (v.side_is, v.strict_is, subject_is v) at c.two_rules.ensures) (rw (v.side_is, v.strict_is, subject_is v) at c.all_targets.ensures)
