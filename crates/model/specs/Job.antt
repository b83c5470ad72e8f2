-- Document 01, "The job": events and their windows, the job, schedules (day plans) and which of them are legal; "Tables": the window table and the lag table as words.
-- Read this first: everything else in specs/ speaks of it.
use Rattle.std.specs.Prelude.{Bool, true, false, cond, ◌&&◌, ◌||◌, List, ℕ, zero, suc, ◌+◌, ◌*◌, ◌/◌, ◌<◌, T, eqb, ltb, ℤ, pos, negsuc, nat_abs, ◌+ℤ◌, ◌-ℤ◌, get_or, length, ◌≤ℤ◌}
use Rattle.std.specs.Int.Signed.{le_z, lt_z}
use Rattle.integers.specs.Sum.{sum}
use Rattle.integers.specs.Range.{eq_z}

-- ---- windows

-- The ends of an event's windows t_min..t_max and h_min..h_max.
pub data End : Type 0 where
  t_min t_max h_min h_max : End

abbrev pub opposite : End → End
opposite t_min = t_max
opposite t_max = t_min
opposite h_min = h_max
opposite h_max = h_min

-- The windows of all events: event, end, value.
abbrev pub Windows : Type 0
Windows = ℕ → End → ℤ

-- x keeps the bound v at an end: t ≥ v, t ≤ v, h ≥ v, h ≤ v.
abbrev pub meets : End → ℤ → ℤ → Bool
meets t_min v x = le_z v x
meets t_max v x = le_z x v
meets h_min v x = le_z v x
meets h_max v x = le_z x v

-- One minute before another (true): <. By it (false): ≤.
abbrev pub ahead : Bool → ℤ → ℤ → Bool
ahead true a b = lt_z a b
ahead false a b = le_z a b

-- A delivery if h > 0, a pull if h < 0, else neutral.
abbrev pub produces : ℤ → Bool
produces h = lt_z (pos 0) h

abbrev pub consumes : ℤ → Bool
consumes h = lt_z h (pos 0)

-- ---- tables

-- The word of an event's five that holds an end.
abbrev pub word : End → ℕ
word t_min = 0
word t_max = 1
word h_min = 2
word h_max = 3

abbrev pub slot : ℕ → End → ℕ
slot y k = 5 * y + word k

-- The window table: 5 words an event, t_min, t_max, h_min, h_max and its cage.
unfoldable pub windows : List ℤ → Windows
windows table y k = get_or table (slot y k) (pos 0)

-- The reservoir (cage): limits Lmin and Lmax, opening stock Q, cover.
pub record Reservoir : Type 0 where
  pub min_level : ℤ
  pub max_level : ℤ
  pub initial : ℤ
  pub cover : ℤ

-- Cover 0: goods can be pulled only from the minute after delivery, so that an event whose amount h is a delivery's counts later for the low limit. Cover 1: no event does.
abbrev pub counts_later : Reservoir → ℤ → Bool
counts_later c h = eq_z c.cover (pos 0) && produces h

-- The job: the words of a call as they are sent: horizon H, the cage table, the window table, the lag table, the set table. Every job is a call's.
-- What a call never changes, as the number of events and each event's cage, is read off the job; where its windows stand is told beside it.
pub record Job : Type 0 where
  pub horizon : ℤ
  pub cage_table : List ℤ
  pub window_table : List ℤ
  pub lag_table : List ℤ
  pub set_table : List ℤ

abbrev pub events : Job → ℕ
events j = length j.window_table / 5

-- The cage table: 4 words a cage, Lmin, Lmax, Q, cover.
abbrev pub cage_at : List ℤ → ℕ → Reservoir
cage_at ws c =
    record {
      min_level = get_or ws (4 * c) (pos 0);
      max_level = get_or ws (4 * c + 1) (pos 0);
      initial = get_or ws (4 * c + 2) (pos 0);
      cover = get_or ws (4 * c + 3) (pos 0);
    }

abbrev pub cages : Job → ℕ
cages j = length j.cage_table / 4

abbrev pub cage : Job → ℕ → Reservoir
cage j c = cage_at j.cage_table c

-- An event's cage, by its number in the window table and itself.
abbrev pub cage_word : List ℤ → ℕ → ℤ
cage_word table y = get_or table (5 * y + 4) (pos 0)

abbrev pub cage_of : Job → ℕ → ℕ
cage_of j y = nat_abs (cage_word j.window_table y)

abbrev pub home : Job → ℕ → Reservoir
home j y = cage j (cage_of j y)

-- The windows sent in.
abbrev pub sent : Job → Windows
sent j = windows j.window_table

-- The lag table: 3 words a lag, a, b, d: "t(a) − t(b) ≤ d".
abbrev pub lag_word : List ℤ → ℕ → ℕ → ℤ
lag_word ws g i = get_or ws (3 * g + i) (pos 0)

abbrev pub lags : Job → ℕ
lags j = length j.lag_table / 3

abbrev pub lag_a : Job → ℕ → ℕ
lag_a j g = nat_abs (lag_word j.lag_table g 0)

abbrev pub lag_b : Job → ℕ → ℕ
lag_b j g = nat_abs (lag_word j.lag_table g 1)

abbrev pub lag_d : Job → ℕ → ℤ
lag_d j g = lag_word j.lag_table g 2

-- Is it so for one of the first n, for all of them?
unfoldable pub any : ℕ → (ℕ → Bool) → Bool
any zero p = false
any (suc n) p = any n p || p n

unfoldable pub every : ℕ → (ℕ → Bool) → Bool
every zero p = true
every (suc n) p = every n p && p n

-- The set table: the sets one after another, each least total, most total, member count, members. A count under 1 is walked as 0.
abbrev pub to_count : ℤ → ℕ
to_count (pos n) = n
to_count (negsuc n) = 0

unfoldable pub set_begin : List ℤ → ℕ → ℕ
set_begin ws zero = 0
set_begin ws (suc g) = set_begin ws g + 3 + to_count (get_or ws (set_begin ws g + 2) (pos 0))

abbrev pub set_word : List ℤ → ℕ → ℕ → ℤ
set_word ws g i = get_or ws (set_begin ws g + i) (pos 0)

abbrev pub member_count : List ℤ → ℕ → ℕ
member_count ws g = to_count (set_word ws g 2)

abbrev pub member_word : List ℤ → ℕ → ℕ → ℤ
member_word ws g i = set_word ws g (3 + i)

-- As many sets as begin in the words, of the first k.
unfoldable pub begun : List ℤ → ℕ → ℕ
begun ws zero = 0
begun ws (suc k) = cond (ltb (set_begin ws k) (length ws)) (suc k) (begun ws k)

-- The job's sets: a seventeenth is counted, and is one too many.
abbrev pub sets : Job → ℕ
sets j = begun j.set_table 17

abbrev pub set_least : Job → ℕ → ℤ
set_least j g = set_word j.set_table g 0

abbrev pub set_most : Job → ℕ → ℤ
set_most j g = set_word j.set_table g 1

abbrev pub set_size : Job → ℕ → ℕ
set_size j g = member_count j.set_table g

abbrev pub member : Job → ℕ → ℕ → ℕ
member j g i = nat_abs (member_word j.set_table g i)

abbrev pub in_set : Job → ℕ → ℕ → Bool
in_set j g y = any (set_size j g) (λ i. eqb (member j g i) y)

-- ---- schedules

-- A schedule (day plan) gives every event a minute and an amount.
pub record Schedule : Type 0 where
  pub time : ℕ → ℤ
  pub height : ℕ → ℤ

abbrev pub value : Schedule → Windows
value p y t_min = p.time y
value p y t_max = p.time y
value p y h_min = p.height y
value p y h_max = p.height y

-- x, which is a schedule's values or other windows, lies inside the windows W.
pub record Inside (n : ℕ) (W x : Windows) : Type 0 where
  pub inside : (y : ℕ) → y < n → (k : End) → T (meets k (W y k) (x y k))

-- What y brings to the cage c: its amount, if c is its cage.
abbrev pub brings : Job → ℕ → Schedule → ℕ → ℤ
brings j c p y = cond (eqb (cage_of j y) c) (p.height y) (pos 0)

-- The stock of the cage c at the moment m: Q + (sum of h(y) of its events with t(y) ≤ m), where those that count later (s) count only with t(y) < m.
unfoldable pub stock : (ℕ → Bool) → Job → ℕ → Schedule → ℤ → ℤ
stock s j c p m =
    (cage j c).initial +ℤ sum (events j) (λ y. cond (ahead (s y) (p.time y) m) (brings j c p y) (pos 0))

-- The amount sum of a set.
unfoldable pub set_sum : Job → ℕ → Schedule → ℤ
set_sum j g p = sum (events j) (λ y. cond (in_set j g y) (p.height y) (pos 0))

-- Legal in the windows W: inside them, all lags hold, all sets keep their totals, and of every cage both limits at every whole moment, earlier than the first event too. The low limit is by cover; for the high limit no event counts later.
pub record Legal (j : Job) (W : Windows) (p : Schedule) : Type 0 where
  pub within : Inside (events j) W (value p)
  pub lagged : (g : ℕ) → g < lags j → (p.time (lag_a j g) -ℤ p.time (lag_b j g)) ≤ℤ lag_d j g
  pub least_kept : (g : ℕ) → g < sets j → set_least j g ≤ℤ set_sum j g p
  pub most_kept : (g : ℕ) → g < sets j → set_sum j g p ≤ℤ set_most j g
  pub above_min : (c : ℕ) → c < cages j → (m : ℤ) → (cage j c).min_level ≤ℤ stock (λ y. counts_later (cage j c) (p.height y)) j c p m
  pub below_max : (c : ℕ) → c < cages j → (m : ℤ) → stock (λ y. false) j c p m ≤ℤ (cage j c).max_level

-- The widest windows: 0..H; 1..9,999, −9,999..−1 or 0 for a delivery, a pull or a neutral event, of which h is an amount.
abbrev pub widest_h_min : ℤ → ℤ
widest_h_min h = cond (produces h) (pos 1) (cond (consumes h) (negsuc 9998) (pos 0))

abbrev pub widest_h_max : ℤ → ℤ
widest_h_max h = cond (produces h) (pos 9999) (cond (consumes h) (negsuc 0) (pos 0))

abbrev pub widest : Job → Windows
widest j y t_min = pos 0
widest j y t_max = j.horizon
widest j y h_min = widest_h_min (sent j y h_max)
widest j y h_max = widest_h_max (sent j y h_max)
