-- The run of the code read as the definitions'.
use Rattle.std.specs.Prelude.{◌≡◌, Bool, true, false, ℕ, zero, suc, Option, Some, None}
use Rattle.model.specs.Rounds as model
use Rattle.model.specs.Rounds.{State, running, ended, settled, conflict, stopped}
use Rattle.rounds.specs.State.{room, state_of, Grown}
use Rattle.rounds.specs.declared.Log.{Log}
use Rattle.turns.specs.Turns.{call_of, fixed}
use Rattle.turns.specs.declared.Call.{Call}
use Rattle.propagator.specs.declared.Verdict.{Verdict}
use Rattle.propagator.specs.declared.Verdict.TheVariants.{Settled, Conflict, Stopped}
use Rattle.propagator.specs.declared.Ended.{Ended}

abbrev pub verdict_of : Verdict → model.Verdict
verdict_of Settled = settled
verdict_of Conflict = conflict
verdict_of Stopped = stopped

-- How a run ends after a round that leaves this status, with whether the round wrote no slip.
abbrev pub ending_of : model.Status → Bool → Option model.Verdict
ending_of (ended v) idle = Some v
ending_of running true = Some settled
ending_of running false = None

-- The rounds that a limit lets be begun; 0 is no limit, and the room is enough.
abbrev pub fuel_of : ℕ → ℕ → ℕ
fuel_of zero room = room
fuel_of (suc k) room = suc k

-- The state of a call at hand.
abbrev pub now : Call → Log → State
now c l = state_of c.events c.windows.now c.board.now.words l

-- The run of a call at hand, with so much fuel, from one moment to its end.
pub record Ran (fuel : ℕ) (c : Call) (l : Log) (c' : Call) (l' : Log) (q : Ended) : Type 0 where
  pub is : record { verdict = verdict_of q.verdict; rounds = q.rounds; state = now c' l' } ≡ model.run (room l) (call_of c) fuel 0 (now c l)
  pub stays : fixed c' ≡ fixed c
  pub grown : Grown l l'
