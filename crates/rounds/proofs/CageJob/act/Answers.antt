-- `rounds::CageJob::act` enters a slip and stores the new end. Assumes nothing.
use mathlib.Core.Path.{refl}
use Rattle.model.specs.Rules.{rule}
use Rattle.rounds.proofs.Trying.{act_held, act_made}
use Rattle.rounds.proofs.CageJob.act.Goals as goal

pub invariant_of-self : goal.invariant_of-self
invariant_of-self c =
    let k = c.args.self.now in
    record {
      fit = k.fit;
      held = act_held k (rule c.args.header.number) c.requires.2 c.requires.3 c.requires.4 refl c.requires.1 c.enter.ensures c.is_written.ensures c.store_if.ensures;
    }

pub returns : goal.returns
returns c =
    act_made c.args.self.now (rule c.args.header.number) c.requires.2 c.requires.3 c.requires.4 refl c.requires.1 c.enter.ensures c.is_written.ensures c.store_if.ensures c.requires.5 refl refl
