-- A board as the events of one cage see it, and where that cage ends.
use Rattle.std.specs.Prelude.{◌≡◌, Bool, true, false, cond, List, ℕ, ◌-◌, ◌*◌, ◌<◌, ◌≤◌, eqb, ℤ, pos, nat_abs, length, ◌≤ℤ◌}
use Rattle.model.specs.Job.{End, cage_word}
use Rattle.model.specs.View.{shown}
use Rattle.tables.specs.Board.{Whole, board}

-- By a window table's words, y is in the cage of e.
abbrev pub together : List ℤ → ℕ → ℕ → Bool
together table e y = eqb (nat_abs (cage_word table y)) (nat_abs (cage_word table e))

-- A window table of n events, no cage of it below 0.
pub record Homed (n : ℕ) (table : List ℤ) : Type 0 where
  pub few : n ≤ 64
  pub whole : length table ≡ 5 * n
  pub sign : (y : ℕ) → y < n → pos 0 ≤ℤ cage_word table y

-- The board s is b with the amounts of events of other cages than e's 0, for the first n events.
pub record Masked (n : ℕ) (table : List ℤ) (e : ℕ) (b s : List ℤ) : Type 0 where
  pub whole : Whole s
  pub is : (y : ℕ) → y < n → (k : End) → board s y k ≡ shown (together table e y) k (board b y k)

-- Events from n on have the same words on both boards.
abbrev pub Later : ℕ → List ℤ → List ℤ → Type 0
Later n b c = (y : ℕ) → n ≤ y → y < 64 → (k : End) → board c y k ≡ board b y k

-- The board c has the events of e's cage as on s, the others as on b, and so those from n on.
pub record Joined (n : ℕ) (table : List ℤ) (e : ℕ) (b s c : List ℤ) : Type 0 where
  pub whole : Whole c
  pub is : (y : ℕ) → y < n → (k : End) → board c y k ≡ cond (together table e y) (board s y k) (board b y k)
  pub later : Later n b c

-- ---- where a cage ends

-- The events e..to are those from e on that are in its cage without a gap.
pub record Stretch (n : ℕ) (table : List ℤ) (e to : ℕ) : Type 0 where
  pub some : e < to
  pub inside : to ≤ n
  pub one : (y : ℕ) → e ≤ y → y < to → together table e y ≡ true
  pub over : to < n → together table e to ≡ false

-- The last event of e's cage is the one before end.
pub record Ends (n : ℕ) (table : List ℤ) (e end : ℕ) : Type 0 where
  pub behind : e < end
  pub inside : end ≤ n
  pub last : together table e (end - 1) ≡ true
  pub away : (y : ℕ) → end ≤ y → y < n → together table e y ≡ false
