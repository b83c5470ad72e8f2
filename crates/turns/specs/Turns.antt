-- What is done to a call's state, of a job with any number of cages.
use Rattle.std.specs.Prelude.{◌≡◌, List, ℕ}
use Rattle.std.specs.Borrow.{GName}
use Rattle.model.specs.Job.{Job}
use Rattle.model.specs.Agenda.{Attempt}
use Rattle.model.specs.Rounds.{made}
use Rattle.tables.specs.Job.{call}
use Rattle.rounds.specs.State.{room, Leads}
use Rattle.rounds.specs.declared.Log.{Log}
use Rattle.turns.specs.declared.Call.{Call}

-- The call's job.
abbrev pub call_of : Call → Job
call_of c = call c.horizon.0 c.cages.now c.windows.now c.lags.now c.sets.now

-- What stays of the call at hand: where its board is, its job, its number of events.
abbrev pub fixed : Call → GName × Job × ℕ
fixed c = (c.board.ghost_name, call_of c, c.events)

-- These attempts were made in turn; the room is the buffer's length. Deliveries stay deliveries.
pub record Done (todo : Job → List Attempt) (c : Call) (l : Log) (c' : Call) (l' : Log) : Type 0 where
  pub leads : Leads c.events (λ j. j ≡ call_of c) (λ j. made (room l) j (todo j)) c.board.now.words l c'.board.now.words l'
  pub stays : fixed c' ≡ fixed c
