-- Rules 17 and 18 of a call's sets: what was made of its state, and what is known of a set and its members between their attempts.
use Rattle.std.specs.Prelude.{◌≡◌, Bool, true, false, cond, List, [], ◌∷◌, ℕ, ◌+◌, ◌*◌, ◌<◌, eqb, ℤ, pos, set}
use Rattle.std.specs.Borrow.{GName}
use Rattle.integers.specs.Range.{Within}
use Rattle.model.specs.Job.{End, t_min, t_max, h_min, h_max, word, events, any, sets, Job as Call}
use Rattle.model.specs.Standing.{span}
use Rattle.model.specs.Rules.{total, rule, finding, own_end, idle, narrows, effect}
use Rattle.model.specs.Agenda.{Attempt, try, each_of, set_attempts}
use Rattle.model.specs.Rounds.{State, made}
use Rattle.tables.specs.Board.{Whole, board}
use Rattle.totals.specs.Totals.{event_at}
use Rattle.silence.specs.Slack.{spares}
use Rattle.rules.specs.Values.{effect_of, Narrower}
use Rattle.rules.specs.declared.Effect.{Effect as Done}
use Rattle.rounds.specs.State.{room, Leads}
use Rattle.rounds.specs.declared.Log.{Log}
use Rattle.members.specs.Placed.{is_member}
use Rattle.members.specs.declared.SetJob.{SetJob}

-- ---- the calls

-- A call of n events with these set words: all that rules 17 and 18 read of it but its windows.
pub record Binds (n : ℕ) (ws : List ℤ) (j : Call) : Type 0 where
  pub events_are : events j ≡ n
  pub sets_are : j.set_table ≡ ws

-- The calls that the set at hand is of.
abbrev pub Of : SetJob → Call → Type 0
Of k = Binds k.events k.set.table.now

-- What stays of the set at hand: where the board is, the set words, the numbers.
abbrev pub fixed : SetJob → GName × ℕ × List ℤ × ℕ × ℕ
fixed k = (k.board.ghost_name, k.events, k.set.table.now, k.set.at, k.subject)

-- What was done to the state is f of every call that the set is of.
pub record Moved (f : Call → State → State) (k : SetJob) (l : Log) (k' : SetJob) (l' : Log) : Type 0 where
  pub leads : Leads k.events (Of k) f k.board.now.words l k'.board.now.words l'
  pub stays : fixed k' ≡ fixed k

-- These attempts were made in turn; the room is the buffer's length.
abbrev pub Swept : (Call → List Attempt) → SetJob → Log → SetJob → Log → Type 0
Swept todo k l k' l' = Moved (λ j. made (room l) j (todo j)) k l k' l'

-- The attempts of all sets: sets in order.
abbrev pub sets_attempts : Call → List Attempt
sets_attempts j = each_of (set_attempts j) 0 (sets j)

-- Rules 17 and 18 by their side, and both for a member y of set g.
abbrev pub number : Bool → ℕ
number false = 17
number true = 18

abbrev pub both_attempts : ℕ → ℕ → List Attempt
both_attempts g y = try 17 g y ∷ try 18 g y ∷ []

-- ---- a set's members alone

-- A board without a number.
pub record Blank (s : List ℤ) : Type 0 where
  pub whole : Whole s
  pub is : (z : ℕ) → z < 64 → (k : End) → board s z k ≡ pos 0

-- Of an event's words its amounts, if it is a member.
abbrev pub amount : Bool → End → ℤ → ℤ
amount own t_min v = pos 0
amount own t_max v = pos 0
amount own h_min v = cond own v (pos 0)
amount own h_max v = cond own v (pos 0)

-- The board s has, of the amounts on the job's board, those of the first i members of the set, and no other number.
pub record Alone (k : SetJob) (i : ℕ) (s : List ℤ) : Type 0 where
  pub whole : Whole s
  pub is : (z : ℕ) → z < 64 → (e : End) → board s z e ≡ amount (any i (λ l. eqb (event_at k.set.table.now k.set.at l) z)) e (board k.board.now.words z e)

-- Event y's amounts of the board b stored on s.
unfoldable pub shown_event : List ℤ → ℕ → List ℤ → List ℤ
shown_event b y s = set (set s (64 * word h_min + y) (board b y h_min)) (64 * word h_max + y) (board b y h_max)

-- ---- a member

-- x is what rule 17, in the mirror 18, of the set does to the window of its member y; a new end narrows it, and is in its range.
pub record Does (k : SetJob) (m : Bool) (y : ℕ) (x : Done) : Type 0 where
  pub target : y < k.events
  pub member : is_member k.set.table.now k.subject y ≡ true
  pub is : (j : Call) → Of k j → effect (own_end (rule (number m))) (board k.board.now.words) y (finding (rule (number m)) j (board k.board.now.words) k.subject y) ≡ effect_of x
  pub narrower : (w : ℤ) → effect_of x ≡ narrows w → Narrower (board k.board.now.words) y (own_end (rule (number m))) w
  pub range : (w : ℤ) → effect_of x ≡ narrows w → Within w (span (own_end (rule (number m))))

-- Rules 17 and 18 of the set leave a member as it is whose amounts the slack s spares.
pub record Spares (k : SetJob) (s : ℤ) : Type 0 where
  pub still : (j : Call) → Of k j → (m : Bool) (y : ℕ) → y < k.events → is_member k.set.table.now k.subject y ≡ true → spares s (board k.board.now.words y h_min) (board k.board.now.words y h_max) ≡ true
      → effect (own_end (total m)) (board k.board.now.words) y (finding (total m) j (board k.board.now.words) k.subject y) ≡ idle
