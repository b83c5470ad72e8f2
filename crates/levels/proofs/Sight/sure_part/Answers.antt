-- `levels::Sight::sure_part` is the level with nothing possible: no time of the windows is before or by −20,001. Assumes nothing.
use Rattle.levels.specs.Sights.{sees, shows}
use Rattle.levels.proofs.Adding.{side_ranged, sure_level}
use Rattle.levels.proofs.Sight.sure_part.Goals as goal

pub returns : goal.returns
returns c =
    let a = c.args in
    sure_level (sees a.self) (shows a.self) (side_ranged a.self.view.stance.mirror a.self.sighted.ranged) c.e_min.ensures c.most_in.ensures
