-- `members::SetJob::least_slack` gives the smaller slack of both sides. Assumes nothing.
use native.Mathlib.Omega.{arith}
use Rattle.std.proofs.lemmas.Int.{ints, to_z-of_z}
use Rattle.members.proofs.Binding.{set_adds, spares_least}
use Rattle.members.proofs.SetJob.least_slack.Goals as goal

pub slack-low-requires : goal.slack-low-requires
slack-low-requires c = set_adds c.args.self.now

pub slack-high-requires : goal.slack-high-requires
slack-high-requires c = set_adds c.args.self.now

pub returns : goal.returns
returns c = spares_least c.args.self.now c.slack-low.ensures.0 c.slack-high.ensures.0 (grind (arith, ints, to_z-of_z), grind (arith, ints, to_z-of_z))
