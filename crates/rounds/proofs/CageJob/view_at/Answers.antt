-- `rounds::CageJob::view_at` makes a view of the job at one of its events. Assumes nothing.
use Rattle.rounds.proofs.Passing.{looks}
use Rattle.rounds.proofs.CageJob.view_at.Goals as goal

pub returns : goal.returns
returns c = (c.at.ensures, looks c.args.self.now c.at.ensures c.requires)
