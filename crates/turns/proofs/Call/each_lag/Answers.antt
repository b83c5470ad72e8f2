-- `turns::Call::each_lag` makes the lags' attempts as in a job of the first cage. Assumes nothing.
use mathlib.Core.Path.{refl, ap, ◌∙◌}
use Rattle.tables.specs.declared.Job.{Job}
use Rattle.rounds.proofs.Moves.{job_is, held_as}
use Rattle.turns.proofs.Turning.{lags_lead}
use Rattle.turns.proofs.Call.each_lag.Goals as goal

pub returns : goal.returns
returns c =
    let k = c.job_of-job in
    let r = c.all_lags in
    record {
      leads = lags_lead c.args.self.now k.result k.ensures (held_as (ap (λ (k : Job). k.events) (job_is r.ensures.stays) ∙ k.ensures.events_are) refl r.new.self.held) r.ensures.leads;
      stays = refl;
    }
