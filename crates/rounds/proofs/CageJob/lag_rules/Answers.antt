-- `rounds::CageJob::lag_rules` makes rules 1 and 2 of a lag, or passes over both. Assumes nothing.
use mathlib.Core.Path.{refl}
use Rattle.rounds.proofs.Moves.{moves_from}
use Rattle.rounds.proofs.Passing.{lag_passed}
use Rattle.rounds.proofs.CageJob.lag_rules.Goals as goal

pub returns-then-is_kept : goal.returns-then-is_kept
returns-then-is_kept c = lag_passed c.args.self.now c.args.log.now refl refl c.requires c.of_table-lag.ensures c.is_kept.ensures c.if-is_kept.true

pub returns : goal.returns
returns c = moves_from refl refl c.both_rules.ensures
