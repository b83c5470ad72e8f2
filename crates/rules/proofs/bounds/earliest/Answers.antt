use Rattle.levels.specs.Sights.{sees, shows}
use Rattle.rules.proofs.Bounding.{earliest_none, earliest_more}
use Rattle.rules.proofs.bounds.earliest.Goals as goal

pub loop-y-init : goal.loop-y-init
loop-y-init c = let a = c.args in (earliest_none (sees a.s) (shows a.s), tt)

pub loop-y-preserved : goal.loop-y-preserved
loop-y-preserved c =
    let a = c.args in
    let l = c.loop-y in
    let x = c.search_event-found.ensures in
    (earliest_more (sees a.s) (shows a.s) l.y l.invariant.0 x.0, x.1)
