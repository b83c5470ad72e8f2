-- `members::sweeps::all_sets` goes through the sets. The loop's invariant: the sets so far begin in the table, and their attempts are made. Assumes nothing.
use mathlib.Core.Path.{◌≡◌}
use Rattle.model.specs.Job.{begun}
use Rattle.model.specs.Agenda.{each_of, set_attempts}
use Rattle.model.specs.Rounds.{made}
use Rattle.rounds.specs.Held.{Held}
use Rattle.rounds.specs.State.{room, Leads}
use Rattle.members.specs.Members.{Binds}
use Rattle.members.proofs.Walking.{Reached}
use Rattle.members.proofs.sweeps.all_sets.Given as goal

abbrev pub invariant-loop-subject : goal.invariant-loop-subject
invariant-loop-subject l =
    (begun l.sets l.subject ≡ l.subject) × (l.set.table.now ≡ l.sets) × Reached l.sets l.set.at l.subject × Leads l.events (Binds l.events l.sets) (λ j. made (room l.initial.log) j (each_of (set_attempts j) 0 l.subject)) l.initial.board.words l.initial.log l.board.words l.log × Held l.events l.board.words
