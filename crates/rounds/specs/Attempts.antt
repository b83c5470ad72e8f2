-- What an effect does to the board, the window table and the call; a slip entered in the list.
use Rattle.std.specs.Prelude.{◌≡◌, Bool, true, false, cond, List, ℕ, ◌+◌, ◌*◌, ℤ, set}
use Rattle.model.specs.Job.{End, word, slot}
use Rattle.model.specs.Rules.{Rule, Effect, idle, narrows, fails}
use Rattle.model.specs.Slips.{Explanation}
use Rattle.model.specs.Rounds.{Status, running, ended, settled, conflict, stopped, still_open, recorded}
use Rattle.tables.specs.Board.{board}
use Rattle.rules.specs.Values.{Tries, Does}
use Rattle.rules.specs.declared.Effect.{Effect as Done}
use Rattle.facts.specs.Quotes.{Cites}
use Rattle.facts.specs.declared.Citing.{Citing}
use Rattle.rounds.specs.State.{status_of, room, state_at, Grown}
use Rattle.rounds.specs.declared.Log.{Log}
use Rattle.rounds.specs.declared.CageJob.{CageJob}

-- The board, and the window table, with a new end k of event y.
abbrev pub stored : End → ℕ → Effect → List ℤ → List ℤ
stored k y idle b = b
stored k y (narrows v) b = set b (64 * word k + y) v
stored k y fails b = b

abbrev pub table_after : End → ℕ → Effect → List ℤ → List ℤ
table_after k y idle table = table
table_after k y (narrows v) table = set table (slot y k) v
table_after k y fails table = table

-- How the call stands after it.
abbrev pub status_after : Effect → Status
status_after idle = running
status_after (narrows v) = running
status_after fails = ended conflict

-- ---- a slip entered

-- Was it written? The call stops where it does not fit.
abbrev pub written : Status → Bool
written running = true
written (ended settled) = true
written (ended conflict) = true
written (ended stopped) = false
written (ended still_open) = true

-- The list with one slip more, which ends at a place.
pub record Counted (end : ℕ) (next : Status) (l l' : Log) : Type 0 where
  pub lent : l'.buffer.ghost_name ≡ l.buffer.ghost_name
  pub words : l'.buffer.now ≡ l.buffer.now
  pub used : l'.used ≡ end
  pub slips : l'.slips ≡ l.slips + 1
  pub last : l'.last ≡ l.used
  pub status : status_of l'.status ≡ next

-- A slip was held against the room, and written or the call stopped: with the window table u in place of t where it was written, the state is the one that the definitions record.
pub record Entered (x : Explanation) (next : Status) (l l' : Log) : Type 0 where
  pub is : (t u : List ℤ) → state_at (cond (written (status_of l'.status)) u t) l' ≡ recorded (room l) (state_at t l) x u next
  pub grown : Grown l l'

-- ---- an attempt

-- A rule is tried in the job at hand, for a subject and a target; x is what it does to the target's window.
abbrev pub Tried : CageJob → Rule → ℕ → ℕ → Type 0
Tried k q e y = Tries k.job k.lags.now (board k.board.now.words) q e y

abbrev pub Found : CageJob → Rule → ℕ → ℕ → Done → Type 0
Found k q e y x = Does k.job k.lags.now (board k.board.now.words) q e y x

-- c decides the facts of its slip.
abbrev pub Cited : CageJob → Rule → ℕ → ℕ → Done → Citing → Type 0
Cited k q e y x c = Cites k.job k.lags.now (board k.board.now.words) q e y x c
