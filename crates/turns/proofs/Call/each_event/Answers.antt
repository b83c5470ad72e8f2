use mathlib.Core.List.{List}
use Prim.Native.Nat.{ℕ}
use native.Mathlib.Omega.{arith}
use Rattle.model.specs.Job.{Job as Call}
use Rattle.model.specs.Agenda.{Attempt, event_attempts}
use Rattle.turns.proofs.Turning.{events_are, done_none, done_next}
use Rattle.turns.proofs.Call.each_event.Goals as goal

abbrev event_of : ℕ → Call → List Attempt
event_of e j = event_attempts j e

pub loop-e-init : goal.loop-e-init
loop-e-init c = (omega arith, done_none event_of _ _)

pub loop-e-preserved : goal.loop-e-preserved
loop-e-preserved c =
    let r = c.stretch-e in
    let d = r.ensures.2 in
    let same = events_are d.stays in
    (omega (arith, r.ensures.1, same), done_next c.loop-e.e r.result (omega (arith, r.ensures.0)) c.loop-e.invariant.1 d)
