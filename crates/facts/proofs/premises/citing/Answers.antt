-- `facts::premises::citing` holds what a slip quotes, by its rule. Assumes nothing.
use mathlib.Core.Path.{sym, ap}
use Prim.Native.Nat.{◌/◌, ◌<◌}
use lib.ListN.{length}
use Rattle.rules.specs.Values.{family_of, rule_of}
use Rattle.rules.specs.Attempts.{on}
use Rattle.rules.proofs.Giving.{event_subject}
use Rattle.facts.proofs.Quoting.{cites_by_upper, cites_by_lower, cites_by_side}
use Rattle.facts.proofs.premises.citing.Goals as goal

pub returns-in-LagUpper : goal.returns-in-LagUpper
returns-in-LagUpper c =
    let a = c.args.a in
    let t : a.subject < length a.lags.now / 3 = rw c.in-LagUpper.is at a.tried.subject in
    rw c.in-LagUpper.is (cites_by_upper (on a) a.subject a.target c.args.x a.tried.fit t c.lag.ensures.0 (rw c.has_failed.ensures at c.lag_citing.ensures))

pub returns-in-LagLower : goal.returns-in-LagLower
returns-in-LagLower c =
    let a = c.args.a in
    let t : a.subject < length a.lags.now / 3 = rw c.in-LagLower.is at a.tried.subject in
    rw c.in-LagLower.is (cites_by_lower (on a) a.subject a.target c.args.x a.tried.fit t c.lag-in-LagLower.ensures.0 (rw c.has_failed-in-LagLower.ensures at c.lag_citing-in-LagLower.ensures))

pub returns-in-Reservoir : goal.returns-in-Reservoir
returns-in-Reservoir c =
    let a = c.args.a in
    let v = c.in-Reservoir.v in
    let s = c.sight.ensures in
    let e = event_subject v.mirror v.strict (family_of v.family) a.job a.lags.now (ap rule_of (sym c.in-Reservoir.is)) a.tried.subject in
    rw c.in-Reservoir.is (cites_by_side (on a) a.subject a.target c.args.x v.mirror v.strict (family_of v.family) e s.0 (rw s.1 at c.level_citing.ensures))
