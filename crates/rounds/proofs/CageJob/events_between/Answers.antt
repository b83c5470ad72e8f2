use mathlib.Core.Path.{refl}
use Prim.Native.Nat.{◌≤◌}
use native.Mathlib.Omega.{arith}
use Rattle.rounds.proofs.Moves.{job_is, moves_from, moves_to, between_none, made_between}
use Rattle.rounds.proofs.Passing.{there_next, event_passed, events_passed}
use Rattle.rounds.proofs.CageJob.events_between.Goals as goal
use Rattle.rounds.proofs.CageJob.events_between.Goals.{then-not-is_calm, else-not-is_calm}

pub returns-then-are_calm : goal.returns-then-are_calm
returns-then-are_calm c = events_passed c.args.self.now c.args.log.now refl refl c.spread-d.ensures.0 c.requires.0 c.requires.1 (rw (c.one_cage.ensures.0, c.one_cage.ensures.1) at c.are_calm.ensures) c.if-are_calm.true

pub loop-e-init : goal.loop-e-init
loop-e-init c = (between_none c.args.from _ _, c.spread-d.ensures.0, c.spread-d.ensures.1)

pub loop-e-preserved : goal.loop-e-preserved
loop-e-preserved c =
    let k = c.loop-e.self in
    let m = c.loop-e.invariant.0 in
    let e = c.loop-e.e in
    let later : c.args.from ≤ e = omega arith in
    let real = there_next m (omega (arith, c.requires.1, c.loop-e-test.true)) in
    let same = job_is m.stays in
    elim c.if-not-is_calm.branch [
      | then-not-is_calm w ↦
          let d = w.spread-d-then-not-is_calm.ensures in
          rw (w.self-is, w.log-is, w.d-is) (made_between c.args.from e later m (moves_to refl refl (moves_from {k = k} refl refl w.event_rules.ensures)), d.0, d.1)
      | else-not-is_calm w ↦
          rw (w.self-is, w.log-is, w.d-is) (made_between c.args.from e later m (event_passed k c.loop-e.log refl refl {d = c.loop-e.d.0} (rw same c.loop-e.invariant.1) real (rw (c.one_cage-in-loop-e.ensures.0, c.one_cage-in-loop-e.ensures.1) at c.is_calm.ensures) w.if-not-is_calm.false), c.loop-e.invariant.1, c.loop-e.invariant.2)
    ]
