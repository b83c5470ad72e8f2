-- `turns::Call::each_event`: the attempts of the first e events are made. Assumes nothing.
use Prim.Native.Nat.{◌-◌, ◌≤◌}
use Rattle.model.specs.Agenda.{each_of, event_attempts}
use Rattle.turns.specs.Turns.{Done}
use Rattle.turns.proofs.Call.each_event.Given as goal

abbrev pub invariant-loop-e : goal.invariant-loop-e
invariant-loop-e l =
    (l.e ≤ l.self.events) × Done (λ j. each_of (event_attempts j) 0 l.e) l.initial.self l.initial.log l.self l.log

abbrev pub decreases-loop-e : goal.decreases-loop-e
decreases-loop-e l = l.self.events - l.e
