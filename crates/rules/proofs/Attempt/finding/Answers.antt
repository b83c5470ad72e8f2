-- `rules::Attempt::finding` gives what its rule gives. Assumes nothing.
use mathlib.Core.Path.{sym, ap, ◌∙◌}
use Rattle.levels.proofs.Viewing.{seen_event}
use Rattle.rules.specs.Values.{family_of, rule_of}
use Rattle.rules.specs.Attempts.{on}
use Rattle.rules.proofs.Giving.{event_subject, gives_upper, gives_lower, gives_seen}
use Rattle.rules.proofs.Attempt.finding.Goals as goal

pub family_finding-requires : goal.family_finding-requires
family_finding-requires c = seen_event c.sight.ensures.0 c.args.self.tried.target

pub returns-in-LagUpper : goal.returns-in-LagUpper
returns-in-LagUpper c = let a = c.args.self in rw c.in-LagUpper.is (gives_upper (on a) a.subject a.target c.lag.ensures.0 (c.into.ensures ∙ c.upper.ensures))

pub returns-in-LagLower : goal.returns-in-LagLower
returns-in-LagLower c = let a = c.args.self in rw c.in-LagLower.is (gives_lower (on a) a.subject a.target c.lag-in-LagLower.ensures.0 (c.into-in-LagLower.ensures ∙ c.lower.ensures))

pub returns-in-Reservoir : goal.returns-in-Reservoir
returns-in-Reservoir c =
    let a = c.args.self in
    let v = c.in-Reservoir.v in
    let s = c.sight.ensures in
    let e = event_subject v.mirror v.strict (family_of v.family) a.job a.lags.now (ap rule_of (sym c.in-Reservoir.is)) a.tried.subject in
    rw c.in-Reservoir.is (gives_seen (on a) a.subject a.target v.mirror v.strict (family_of v.family) s.0 e a.tried.target (rw s.1 at c.family_finding.ensures))
