-- `rules::Attempt::sight` looks at a board whose windows are in range. Assumes nothing.
use Rattle.levels.proofs.Viewing.{sighted}
use Rattle.rules.specs.Values.{family_of}
use Rattle.rules.proofs.Giving.{event_subject}
use Rattle.rules.proofs.Attempt.sight.Goals as goal

pub invariant_of-result : goal.invariant_of-result
invariant_of-result c =
    let a = c.args.self in
    let v = c.args.v in
    record { sighted = sighted c.view.ensures a.tried.fit.cage a.tried.windows (event_subject v.mirror v.strict (family_of v.family) a.job a.lags.now c.requires a.tried.subject) }
