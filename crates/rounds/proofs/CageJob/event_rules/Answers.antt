-- `rounds::CageJob::event_rules` makes rules 3 to 14 at an event. Assumes nothing.
use mathlib.Core.List.{List, ◌++◌}
use Prim.Native.Nat.{ℕ}
use Rattle.model.specs.Job.{Job as Call}
use Rattle.model.specs.Agenda.{Attempt, three_attempts}
use Rattle.rounds.proofs.Moves.{made_both}
use Rattle.rounds.proofs.CageJob.event_rules.Goals as goal

pub returns : goal.returns
returns c =
    let three : ℕ → Call → List Attempt = λ r j. three_attempts j r c.args.e in
    made_both (three 3) (λ j. three 6 j ++ (three 9 j ++ three 12 j)) c.three_rules.ensures
    (made_both (three 6) (λ j. three 9 j ++ three 12 j) c.three_rules-2.ensures (made_both (three 9) (three 12) c.three_rules-3.ensures c.three_rules-4.ensures))
