-- `rules::bounds::height_bound` takes what the others add off the limit. Assumes nothing.
use native.Mathlib.Omega.{arith}
use mathlib.Core.Path.{refl}
use Rattle.model.specs.Job.{h_max}
use Rattle.model.specs.Levels.{e_min, e_max}
use Rattle.levels.specs.Sights.{sees, shows}
use Rattle.levels.proofs.Adding.{wider, apart, side_ranged, most_within}
use Rattle.rules.proofs.bounds.height_bound.Goals as goal

pub sub-others-requires : goal.sub-others-requires
sub-others-requires c =
    let a = c.args in
    let p = a.s.sighted in
    let E = sees a.s in
    let W = shows a.s in
    let r = side_ranged a.s.view.stance.mirror p.ranged in (
      wider c.most.ensures (most_within E (e_min E W) (e_max E W) r p.opening_range) (omega arith),
      wider c.seen_h_max.ensures (r.range a.y c.requires h_max) (omega arith),
    )

pub sub-requires : goal.sub-requires
sub-requires c =
    let a = c.args in
    let p = a.s.sighted in
    let E = sees a.s in
    let W = shows a.s in
    let r = side_ranged a.s.view.stance.mirror p.ranged in
    let level = wider {l = 1640000} c.most.ensures (most_within E (e_min E W) (e_max E W) r p.opening_range) (omega arith) in
    let h = wider {l = 9999} c.seen_h_max.ensures (r.range a.y c.requires h_max) (omega arith) in
    (wider refl p.limit_range (omega arith), apart c.sub-others.ensures level h (omega arith))
