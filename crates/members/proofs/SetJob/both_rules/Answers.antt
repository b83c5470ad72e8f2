-- `members::SetJob::both_rules` makes the attempts of rules 17 and 18 in turn. Assumes nothing.
use Rattle.members.proofs.Binding.{both_swept}
use Rattle.members.proofs.SetJob.both_rules.Goals as goal

pub returns : goal.returns
returns c = both_swept c.args.y c.attempt.ensures c.attempt-2.ensures
