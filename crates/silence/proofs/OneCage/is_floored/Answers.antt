-- `silence::OneCage::is_floored` compares the floor with the limit and d. Assumes nothing.
use native.Mathlib.Omega.{arith}
use Rattle.tables.specs.Job.{reservoir_of}
use Rattle.levels.proofs.Viewing.{opening_within}
use Rattle.levels.proofs.Adding.{wider, side_ranged}
use Rattle.silence.proofs.Calming.{floors_within, drain_within}
use Rattle.silence.proofs.OneCage.is_floored.Goals as goal

pub add-floor-requires : goal.add-floor-requires
add-floor-requires c =
    let a = c.args in
    let k = a.self.standing in
    let r = side_ranged a.mirror k.ranged in
    let q = wider {l = 1000000} c.side_opening.ensures (opening_within a.mirror (reservoir_of a.self.job.reservoir) k.cage) (omega arith) in (
      wider c.floor_gains-all.ensures (floors_within a.self.job.events c.t_min.result.0 r q (omega arith)) (omega arith),
      wider c.drain.ensures (drain_within a.e r c.requires.0) (omega arith),
    )
