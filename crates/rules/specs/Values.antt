-- The code's values as the definitions', and what a rule is tried on.
use Rattle.std.specs.Prelude.{◌≡◌, Bool, true, false, cond, List, ℕ, ◌+◌, ◌*◌, ◌/◌, ◌<◌, ℤ, pos, nat_abs, length, ◌<ℤ◌, ◌≤ℤ◌, Option, None, Some}
use Rattle.rules.specs.declared.lags.Lag.{Lag}
use Rattle.std.specs.Int.Signed.{le_z}
use Rattle.integers.specs.Range.{Within}
use Rattle.model.specs.Job.{End, t_min, t_max, opposite, meets, Windows, lag_word, Job as Call}
use Rattle.model.specs.Standing.{SaneLag, span, Ranged}
use Rattle.tables.specs.Board.{board}
use Rattle.model.specs.View.{View}
use Rattle.model.specs.Levels.{e_min, most_in}
use Rattle.model.specs.Rules.{Finding, nothing, clash, bound, Family, level, time, height, Rule, lag_upper, lag_lower, reservoir, total, family_rule, family_end, side_finding, finding, own_end, Effect, idle, narrows, fails, effect}
use Rattle.tables.specs.Job.{Serves, Fit}
use Rattle.tables.specs.declared.Job.{Job}
use Rattle.levels.specs.Values.{as_view, seen_by}
use Rattle.levels.specs.declared.View.{View as Sight}
use Rattle.tables.specs.declared.measures.Time.{Time as Minute}
use Rattle.rules.specs.declared.Family.{Family as Kin}
use Rattle.rules.specs.declared.Family.TheVariants.{Level, Time, Height}
use Rattle.rules.specs.declared.Variant.{Variant}
use Rattle.rules.specs.declared.Rule.{Rule as Named}
use Rattle.rules.specs.declared.Rule.TheVariants.{LagUpper, LagLower, Reservoir, Total}
use Rattle.rules.specs.declared.Finding.{Finding as Found}
use Rattle.rules.specs.declared.Finding.TheVariants.{Nothing, Clash, Bound}
use Rattle.rules.specs.declared.Effect.{Effect as Done}
use Rattle.rules.specs.declared.Effect.TheVariants.{Idle, Narrows, Fails}

-- ---- what a rule gives

-- The earliest time found, if any.
abbrev pub time_found : Option Minute → Finding
time_found None = nothing
time_found (Some t) = bound t.0

-- A time found is no later than t, or no earlier.
abbrev pub is_beaten : Option Minute → ℤ → Bool
is_beaten None t = false
is_beaten (Some u) t = le_z u.0 t

abbrev pub falls_short : Option Minute → ℤ → Bool
falls_short None t = false
falls_short (Some u) t = le_z t u.0

-- The level of e, its time window ending at the time found, is below the limit.
abbrev pub Short : View → Windows → Option Minute → Type 0
Short E W None = Unit {0}
Short E W (Some t) = most_in E W (e_min E W) t.0 <ℤ E.limit

-- The code's families, and its rules.
abbrev pub family_of : Kin → Family
family_of Level = level
family_of Time = time
family_of Height = height

abbrev pub variant_of : Variant → Rule
variant_of v = reservoir v.mirror v.strict (family_of v.family)

abbrev pub rule_of : Named → Rule
rule_of LagUpper = lag_upper
rule_of LagLower = lag_lower
rule_of (Reservoir v) = variant_of v
rule_of (Total m) = total m

-- The code's finding: a bound's number.
abbrev pub finding_of : Found → Finding
finding_of Nothing = nothing
finding_of Clash = clash
finding_of (Bound w) = bound w.0

-- What a family of rules gives in a view, read back from its side.
abbrev pub seen_rule : Family → Sight → Windows → ℕ → Finding
seen_rule f v W y = side_finding v.stance.mirror (family_end f) (family_rule f (as_view v W) (seen_by v W) y)

-- ---- what that does

-- The code's effect: a new end's number.
abbrev pub effect_of : Done → Effect
effect_of Idle = idle
effect_of (Narrows w) = narrows w.0
effect_of Fails = fails

abbrev pub is_idle : Effect → Bool
is_idle idle = true
is_idle (narrows v) = false
is_idle fails = false

-- What a bound v does: does it keep the opposite end, and does the window keep it already?
abbrev pub narrowing : Bool → Bool → ℤ → Effect
narrowing keeps kept v = cond keeps (cond kept idle (narrows v)) fails

-- ---- what a rule is tried on

-- Lag g stands in a table's words, its events not negative.
pub record Placed (ws : List ℤ) (g : ℕ) : Type 0 where
  pub there : 3 * g + 2 < length ws
  pub sign_a : pos 0 ≤ℤ lag_word ws g 0
  pub sign_b : pos 0 ≤ℤ lag_word ws g 1

-- The code's lag is lag g of them.
pub record IsLag (ws : List ℤ) (g : ℕ) (l : Lag) : Type 0 where
  pub a_is : l.a ≡ nat_abs (lag_word ws g 0)
  pub b_is : l.b ≡ nat_abs (lag_word ws g 1)
  pub gap_is : l.gap.0 ≡ lag_word ws g 2

-- Lag g of a table's words, its events' times on windows W in range.
pub record Lagged (ws : List ℤ) (W : Windows) (g : ℕ) : Type 0 where
  pub there : g < length ws / 3
  pub sane : SaneLag 64 ws g
  pub early : Within (W (nat_abs (lag_word ws g 0)) t_min) 20000
  pub late : Within (W (nat_abs (lag_word ws g 1)) t_max) 20000

-- The code's lag is of events of a board, its numbers and their times on windows W in range.
pub record Timed (l : Lag) (W : Windows) : Type 0 where
  pub few_a : l.a < 64
  pub few_b : l.b < 64
  pub gap_range : Within l.gap.0 20000
  pub early : Within (W l.a t_min) 20000
  pub late : Within (W l.b t_max) 20000

-- The subjects that a rule of 1..14 has: lags, or events. Sets are no part of a job of one cage.
abbrev pub subjects_of : Rule → Job → List ℤ → ℕ
subjects_of lag_upper k ws = length ws / 3
subjects_of lag_lower k ws = length ws / 3
subjects_of (reservoir m b f) k ws = k.events
subjects_of (total m) k ws = 0

-- Rule r of 1..14 is tried on windows W, with a subject that it has and an event for target.
pub record Tries (k : Job) (ws : List ℤ) (W : Windows) (r : Rule) (e y : ℕ) : Type 0 where
  pub fit : Fit k ws
  pub windows : Ranged k.events W
  pub subject : e < subjects_of r k ws
  pub target : y < k.events

-- So is the code's rule on a board's words.
abbrev pub Tried : Job → List ℤ → List ℤ → Named → ℕ → ℕ → Type 0
Tried k ws b r e y = Tries k ws (board b) (rule_of r) e y

-- The bound v at y's end k is stricter than it, and keeps the opposite end.
abbrev pub Narrower : Windows → ℕ → End → ℤ → Type 0
Narrower W y k v = (meets (opposite k) (W y (opposite k)) v ≡ true) × (meets k v (W y k) ≡ false)

-- x is what rule r for a subject e and a target y does to y's window; a new end narrows it, and is in its range.
pub record Does (k : Job) (ws : List ℤ) (W : Windows) (r : Rule) (e y : ℕ) (x : Done) : Type 0 where
  pub is : (j : Call) → Serves k ws W j → effect_of x ≡ effect (own_end r) W y (finding r j W e y)
  pub narrower : (v : ℤ) → effect_of x ≡ narrows v → Narrower W y (own_end r) v
  pub range : (v : ℤ) → effect_of x ≡ narrows v → Within v (span (own_end r))
