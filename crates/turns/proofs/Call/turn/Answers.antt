-- `turns::Call::turn` makes a round: lags, sets, events. Assumes nothing.
use mathlib.Core.Path.{refl}
use Rattle.turns.proofs.Turning.{sets_lead, done_round}
use Rattle.turns.proofs.Call.turn.Goals as goal

pub returns : goal.returns
returns c = done_round c.each_lag.ensures (record { leads = sets_lead c.each_lag.new.self c.all_sets.ensures.0; stays = refl }) c.every_event.ensures
