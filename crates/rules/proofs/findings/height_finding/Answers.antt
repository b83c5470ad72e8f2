-- `rules::findings::height_finding` gives the height rule's finding in a view. Assumes nothing.
use native.Mathlib.Omega.{arith}
use Rattle.levels.specs.Sights.{sees}
use Rattle.levels.proofs.Adding.{wider, side_ranged, bound_within}
use Rattle.rules.proofs.findings.height_finding.Goals as goal

pub side_height-requires : goal.side_height-requires
side_height-requires c =
    let a = c.args in
    let p = a.s.sighted in
    wider c.height_bound-h.ensures (bound_within (sees a.s) a.y (side_ranged a.s.view.stance.mirror p.ranged) p.limit_range p.opening_range c.requires) (omega arith)
