-- `levels::Sight::most_in` takes e's part as another event off the sum and adds its own. Assumes nothing.
use native.Mathlib.Omega.{arith}
use Rattle.levels.specs.Sights.{sees, shows}
use Rattle.levels.proofs.Adding.{wider, apart, side_ranged, all_within, other_within, own_within, most_own}
use Rattle.levels.proofs.Sight.most_in.Goals as goal

pub sub-others-requires : goal.sub-others-requires
sub-others-requires c =
    let a = c.args in
    let p = a.self.sighted in
    let r = side_ranged a.self.view.stance.mirror p.ranged in (
      wider c.all_gains.ensures (all_within (sees a.self).before a.self.view.events a.u.0 a.v.0 r p.opening_range (omega arith)) (omega arith),
      wider c.other_gain.ensures (other_within (sees a.self).before a.u.0 a.v.0 a.self.view.subject r p.subject) (omega arith),
    )

pub add-requires : goal.add-requires
add-requires c =
    let a = c.args in
    let p = a.self.sighted in
    let r = side_ranged a.self.view.stance.mirror p.ranged in
    let all = wider {l = 1640000} c.all_gains.ensures (all_within (sees a.self).before a.self.view.events a.u.0 a.v.0 r p.opening_range (omega arith)) (omega arith) in
    let other = wider {l = 9999} c.other_gain.ensures (other_within (sees a.self).before a.u.0 a.v.0 a.self.view.subject r p.subject) (omega arith) in (
      apart c.sub-others.ensures all other (omega arith),
      wider c.own_gain.ensures (own_within ((sees a.self).before a.self.view.subject) a.self.view.subject r p.subject) (omega arith),
    )

pub returns : goal.returns
returns c =
    let a = c.args in
    most_own (sees a.self) (shows a.self) a.u.0 a.v.0 a.self.sighted.subject
    c.all_gains.ensures c.other_gain.ensures c.sub-others.ensures
    c.own_gain.ensures c.add.ensures
