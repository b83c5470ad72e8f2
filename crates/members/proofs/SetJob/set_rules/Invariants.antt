-- `members::SetJob::set_rules` goes through a set's members, and passes over those that its slack spares. The loop's invariant: the attempts of the members so far are made, and s is a slack that spares. Assumes nothing.
use Rattle.model.specs.Job.{member}
use Rattle.model.specs.Agenda.{each_of}
use Rattle.members.specs.Members.{Swept, both_attempts, Spares}
use Rattle.members.proofs.SetJob.set_rules.Given as goal

abbrev pub invariant-loop-i : goal.invariant-loop-i
invariant-loop-i l = Swept (λ j. each_of (λ i. both_attempts l.initial.self.subject (member j l.initial.self.subject i)) 0 l.i) l.initial.self l.initial.log l.self l.log × Spares l.self l.s.0
