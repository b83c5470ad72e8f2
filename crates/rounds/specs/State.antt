-- The planner's code read as the definitions' states: where a call stands, and what was made of it.
use Rattle.std.specs.Prelude.{◌≡◌, Bool, true, false, List, ℕ, ◌≤◌, ℤ, length, take, drop}
use Rattle.std.specs.Borrow.{GName}
use Rattle.model.specs.Job.{Job as Call}
use Rattle.model.specs.Agenda.{Attempt}
use Rattle.model.specs.Rounds as model
use Rattle.model.specs.Rounds.{State, running, ended, conflict, stopped, made}
use Rattle.tables.specs.Board.{board, table_of}
use Rattle.tables.specs.Job.{Kinds, Serves}
use Rattle.tables.specs.declared.Job.{Job}
use Rattle.rounds.specs.declared.Log.{Log}
use Rattle.rounds.specs.declared.CageJob.{CageJob}
use Rattle.rounds.specs.declared.Status.{Status}
use Rattle.rounds.specs.declared.Status.TheVariants.{Running, Conflict, Stopped}

abbrev pub status_of : Status → model.Status
status_of Running = running
status_of Conflict = ended conflict
status_of Stopped = ended stopped

-- Does the call go on?
abbrev pub still : model.Status → Bool
still running = true
still (ended v) = false

-- The words that the list may take.
abbrev pub room : Log → ℕ
room l = length l.buffer.now

-- The state of a window table, and the list so far at the buffer's start.
abbrev pub state_at : List ℤ → Log → State
state_at table l =
    record {
      table = table;
      log = take l.used l.buffer.now;
      slips = l.slips;
      last = l.last;
      status = status_of l.status;
    }

-- That of n events: the board's window table, with the cages of the table that was sent in.
abbrev pub state_of : ℕ → List ℤ → List ℤ → Log → State
state_of n sent b l = state_at (table_of n sent b) l

-- From one moment of a call to a later one: the list only grows in the same buffer, words after it stay as they were.
pub record Grown (l l' : Log) : Type 0 where
  pub lent : l'.buffer.ghost_name ≡ l.buffer.ghost_name
  pub same : room l' ≡ room l
  pub after : drop l'.used l'.buffer.now ≡ drop l'.used l.buffer.now
  pub longer : l.used ≤ l'.used
  pub more : l.slips ≤ l'.slips

-- What was done to the state of n events is f of every call of a kind; deliveries stay deliveries.
pub record Leads (n : ℕ) (Of : Call → Type 0) (f : Call → State → State) (b : List ℤ) (l : Log) (b' : List ℤ) (l' : Log) : Type 0 where
  pub is : (j : Call) → Of j → state_of n j.window_table b' l' ≡ f j (state_of n j.window_table b l)
  pub kinds : Kinds n (board b') (board b)
  pub grown : Grown l l'

-- What stays of the job at hand: where its board is, its lag words, its numbers.
abbrev pub fixed : CageJob → GName × List ℤ × Job
fixed k = (k.board.ghost_name, k.lags.now, k.job)

-- The calls that the job at hand is of.
abbrev pub Of : CageJob → Call → Type 0
Of k = Serves k.job k.lags.now (board k.board.now.words)

-- What was done to the state is f of every call that the job at hand is of.
pub record Moves (f : Call → State → State) (k : CageJob) (l : Log) (k' : CageJob) (l' : Log) : Type 0 where
  pub leads : Leads k.job.events (Of k) f k.board.now.words l k'.board.now.words l'
  pub stays : fixed k' ≡ fixed k

-- These attempts were made in turn; the room is the buffer's length.
abbrev pub Made : (Call → List Attempt) → CageJob → Log → CageJob → Log → Type 0
Made todo k l k' l' = Moves (λ j. made (room l) j (todo j)) k l k' l'
