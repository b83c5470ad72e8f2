-- `silence::slack::slack` takes the limit off the level. Assumes nothing.
use mathlib.Core.Path.{refl}
use native.Mathlib.Omega.{arith}
use Rattle.model.specs.Levels.{e_min, e_max}
use Rattle.levels.specs.Sights.{sees, shows}
use Rattle.levels.proofs.Adding.{wider, side_ranged, most_within}
use Rattle.silence.proofs.slack.slack.Goals as goal

pub sub-requires : goal.sub-requires
sub-requires c =
    let s = c.args.s in
    let p = s.sighted in
    (wider c.most.ensures (most_within (sees s) (e_min (sees s) (shows s)) (e_max (sees s) (shows s)) (side_ranged s.view.stance.mirror p.ranged) p.opening_range) (omega arith), wider refl p.limit_range (omega arith))
