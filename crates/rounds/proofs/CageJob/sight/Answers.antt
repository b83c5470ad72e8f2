-- `rounds::CageJob::sight` looks at a board whose windows are in range. Assumes nothing.
use Rattle.rounds.proofs.Passing.{sight_of}
use Rattle.rounds.proofs.CageJob.sight.Goals as goal

pub invariant_of-result : goal.invariant_of-result
invariant_of-result c = record { sighted = sight_of c.args.self.now c.requires }
