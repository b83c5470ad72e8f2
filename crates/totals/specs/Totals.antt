-- Rules 17 and 18 by a set's slack on a side: what the members' amounts come to at most over the limit that their sum must reach.
use Rattle.std.specs.Prelude.{◌≡◌, Bool, true, false, List, ℕ, ◌+◌, ◌<◌, ◌≤◌, T, ℤ, pos, nat_abs, neg_ℤ, ◌-ℤ◌, length, ◌≤ℤ◌}
use Rattle.integers.specs.Range.{Within}
use Rattle.integers.specs.Sum.{sum}
use Rattle.model.specs.Job.{h_min, h_max, Windows, events, in_set, set_begin, Job as Call}
use Rattle.model.specs.Standing.{SaneSet}
use Rattle.model.specs.View.{side, side_value}
use Rattle.model.specs.Rules.{bound, total, finding, own_end, Effect, effect}
use Rattle.sets.specs.Sets.{word_at, member_at, count_at}

-- ---- the set that begins at a place of the table

-- Its member i, an event.
abbrev pub event_at : List ℤ → ℕ → ℕ → ℕ
event_at ws at i = nat_abs (member_at ws at i)

-- The limit on a side: its least total, in the mirror its most negated.
abbrev pub limit_at : Bool → List ℤ → ℕ → ℤ
limit_at false ws at = word_at ws at 0
limit_at true ws at = neg_ℤ (word_at ws at 1)

-- The members' h_max on a side, added as listed.
abbrev pub total_at : Bool → List ℤ → ℕ → Windows → ℤ
total_at m ws at W = sum (count_at ws at) (λ i. side m W (event_at ws at i) h_max)

abbrev pub slack_at : Bool → List ℤ → ℕ → Windows → ℤ
slack_at m ws at W = total_at m ws at W -ℤ limit_at m ws at

-- It is whole, and its members are not negative.
pub record Listed (ws : List ℤ) (at : ℕ) : Type 0 where
  pub inside : at + 3 + count_at ws at ≤ length ws
  pub sign : (i : ℕ) → i < count_at ws at → pos 0 ≤ℤ member_at ws at i

-- Besides, its numbers on windows W are in range.
pub record Adds (ws : List ℤ) (at : ℕ) (W : Windows) : Type 0 where
  pub listed : Listed ws at
  pub few : count_at ws at ≤ 64
  pub least_range : Within (word_at ws at 0) 639936
  pub most_range : Within (word_at ws at 1) 639936
  pub real : (i : ℕ) → i < count_at ws at → event_at ws at i < 64
  pub low : (i : ℕ) → i < count_at ws at → Within (W (event_at ws at i) h_min) 9999
  pub high : (i : ℕ) → i < count_at ws at → Within (W (event_at ws at i) h_max) 9999

-- It is set g of a call, whose questions let it pass.
pub record SetOf (ws : List ℤ) (at : ℕ) (j : Call) (g : ℕ) : Type 0 where
  pub sets_are : j.set_table ≡ ws
  pub begins : at ≡ set_begin ws g
  pub sane : SaneSet (events j) ws g

-- ---- what a slack gives

-- The bound on a member y on a side: h(y) ≥ h_max(y) − slack, which is least − (sum of the other members' h_max).
abbrev pub bound_by : Bool → Windows → ℕ → ℤ → ℤ
bound_by m W y s = side_value m h_min (side m W y h_max -ℤ s)

-- What that does to y's window.
abbrev pub does_by : Bool → Windows → ℕ → ℤ → Effect
does_by m W y s = effect (own_end (total m)) W y (bound (bound_by m W y s))

-- s is the slack of set g on a side: rule 17 (in the mirror 18) gives by it what it gives for each member.
pub record Slack (j : Call) (g : ℕ) (m : Bool) (W : Windows) (s : ℤ) : Type 0 where
  pub gives : (y : ℕ) → y < events j → T (in_set j g y) → finding (total m) j W g y ≡ bound (bound_by m W y s)
