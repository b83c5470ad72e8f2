-- Document 01, "The fourteen rules": what each rule gives on windows, and what that does to the target's window.
use Rattle.std.specs.Prelude.{Bool, true, false, cond, ◌&&◌, ◌||◌, List, [], ◌∷◌, ℕ, zero, suc, ◌-◌, eqb, ℤ, pos, ◌+ℤ◌, ◌-ℤ◌, neg_ℤ, get_or}
use Rattle.std.specs.Int.Signed.{le_z, lt_z}
use Rattle.model.specs.Job.{End, t_min, t_max, h_min, h_max, opposite, meets, Windows, produces, consumes, Job, events, lags, lag_a, lag_b, lag_d, set_least, set_most, in_set, sets}
use Rattle.model.specs.View.{side_value, side_end, View, view, seen, look}
use Rattle.model.specs.Levels.{Place, sure, possible, never, e_min, stands, most_in, most, sure_part}
use Rattle.integers.specs.Sum.{sum}

-- What a rule gives: nothing, a conflict of the levels, or a bound on its target.
pub data Finding : Type 0 where
  nothing : Finding
  clash : Finding
  bound : ℤ → Finding

abbrev pub given_if : Bool → Finding → Finding
given_if true f = f
given_if false f = nothing

-- ---- rules 3 to 5 ("before") and 9 to 11 ("by")

-- Rules 3 and 9: most before (by) e < Lmin is a conflict.
abbrev pub level_rule : View → Windows → Finding
level_rule E W = given_if (lt_z (most E W) E.limit) clash

-- The minute of e from which y counts: t_min(y) + 1 before e, t_min(y) by e. This is the 1 of rule 4.
abbrev pub counts_from : Bool → ℤ → ℤ
counts_from true t = t +ℤ pos 1
counts_from false t = t

-- Of two findings the one with the earlier bound.
abbrev pub earlier : Finding → Finding → Finding
earlier nothing g = g
earlier clash g = g
earlier (bound v) nothing = bound v
earlier (bound v) clash = bound v
earlier (bound v) (bound w) = cond (le_z v w) (bound v) (bound w)

abbrev pub possible_producer : Place → ℤ → Bool
possible_producer sure h = false
possible_producer possible h = produces h
possible_producer never h = false

-- Lmin is reached at the delivery y, which is possibly, not surely, before (by) e: with e no later than y counts from, the level counts the sure part and just the deliveries up to y's t_min.
abbrev pub reached_at : View → Windows → ℕ → Bool
reached_at E W y =
    possible_producer (stands E W y) (W y h_max)
    && le_z E.limit (most_in E W (e_min E W) (counts_from (E.before y) (W y t_min)))

-- The earliest such y among the first k events. Deliveries of one t_min are added together: the one at which the sum by rising t_min first reaches Lmin, whatever the order of ties, has this t_min.
unfoldable pub earliest : View → Windows → ℕ → Finding
earliest E W zero = nothing
earliest E W (suc y) =
    earlier (earliest E W y) (given_if (reached_at E W y) (bound (counts_from (E.before y) (W y t_min))))

-- Rules 4 and 10: if the surely-before (by) part with Q is below Lmin, add deliveries possibly, not surely, before (by), by rising t_min, until Lmin is reached at y; then t(e) ≥ t_min(y) + 1 (without the 1). Never reached: nothing.
abbrev pub time_rule : View → Windows → Finding
time_rule E W = given_if (lt_z (sure_part E W) E.limit) (earliest E W E.events)

-- Rules 5 and 11: target y, a pull surely before (by) or a delivery possibly before (by).
abbrev pub targeted : Place → ℤ → Bool
targeted sure h = consumes h || produces h
targeted possible h = produces h
targeted never h = false

-- h(y) ≥ Lmin − (most before (by) e − h_max(y)).
abbrev pub height_rule : View → Windows → ℕ → Finding
height_rule E W y =
    given_if
    (targeted (stands E W y) (W y h_max))
    (bound (E.limit -ℤ (most E W -ℤ W y h_max)))

-- ---- rules 17 and 18

-- The limit that a set's sum must reach: the least total, in the mirror the most negated.
abbrev pub total_limit : Bool → Job → ℕ → ℤ
total_limit false j g = set_least j g
total_limit true j g = neg_ℤ (set_most j g)

-- h(y) ≥ least − (sum of the other members' h_max), over windows that show the members only.
unfoldable pub others : ℕ → Windows → ℕ → ℤ
others n W y = sum n (λ z. cond (eqb z y) (pos 0) (W z h_max))

abbrev pub total_rule : ℤ → ℕ → Windows → ℕ → Finding
total_rule limit n W y = bound (limit -ℤ others n W y)

-- ---- the rules by number

-- The level's conflict, e's time, an amount.
pub data Family : Type 0 where
  level time height : Family

-- Rules 1 and 2; 3 to 14: the job or its mirror, before or by, the family; 17 and 18: the job or its mirror.
pub data Rule : Type 0 where
  lag_upper lag_lower : Rule
  reservoir : Bool → Bool → Family → Rule
  total : Bool → Rule

abbrev pub rules : List Rule
rules =
    lag_upper
    ∷ lag_lower
    ∷ reservoir false true level
    ∷ reservoir false true time
    ∷ reservoir false true height
    ∷ reservoir true true level
    ∷ reservoir true true time
    ∷ reservoir true true height
    ∷ reservoir false false level
    ∷ reservoir false false time
    ∷ reservoir false false height
    ∷ reservoir true false level
    ∷ reservoir true false time
    ∷ reservoir true false height
    ∷ lag_upper
    ∷ lag_upper
    ∷ total false
    ∷ total true
    ∷ []

-- Rule r of 1..14, 17 and 18; 15 and 16 are none, and their places are held.
abbrev pub known_rule : ℤ → Bool
known_rule r = (le_z (pos 1) r && le_z r (pos 14)) || (le_z (pos 17) r && le_z r (pos 18))

abbrev pub rule : ℕ → Rule
rule r = get_or rules (r - 1) lag_upper

abbrev pub family_rule : Family → View → Windows → ℕ → Finding
family_rule level E W y = level_rule E W
family_rule time E W y = time_rule E W
family_rule height E W y = height_rule E W y

-- The end a family's bound is about; the level's has none, and no bound.
abbrev pub family_end : Family → End
family_end level = t_min
family_end time = t_min
family_end height = h_min

-- A bound of a side read back: in the mirror an amount's is negated, a time's is not.
abbrev pub side_finding : Bool → End → Finding → Finding
side_finding m k nothing = nothing
side_finding m k clash = clash
side_finding m k (bound v) = bound (side_value m k v)

-- What a rule gives for a subject (a lag number in rules 1 and 2, a set in 17 and 18, else the event e at hand) and a target on windows.
-- Rule 1, lag: t(a) ≤ t_max(b) + d, target a. Rule 2: t(b) ≥ t_min(a) − d, target b.
unfoldable pub finding : Rule → Job → Windows → ℕ → ℕ → Finding
finding lag_upper j W g y = bound (W (lag_b j g) t_max +ℤ lag_d j g)
finding lag_lower j W g y = bound (W (lag_a j g) t_min -ℤ lag_d j g)
finding (reservoir m b f) j W e y =
    side_finding m (family_end f) (family_rule f (view j m b e) (seen j m e W) y)
finding (total m) j W g y =
    side_finding m h_min (total_rule (total_limit m j g) (events j) (look (in_set j g) m W) y)

-- The end a rule's bound is about.
abbrev pub own_end : Rule → End
own_end lag_upper = t_max
own_end lag_lower = t_min
own_end (reservoir m b f) = side_end m (family_end f)
own_end (total m) = side_end m h_min

-- The subjects that a rule has, from 0: lags in rules 1 and 2, sets in 17 and 18, else events.
abbrev pub subjects : Rule → Job → ℕ
subjects lag_upper j = lags j
subjects lag_lower j = lags j
subjects (reservoir m b f) j = events j
subjects (total m) j = sets j

-- The target fits the rule: a, b, or e; any event in 5, 8, 11, 14; a member in 17 and 18.
abbrev pub target_fits : Rule → Job → ℕ → ℕ → Bool
target_fits lag_upper j g y = eqb y (lag_a j g)
target_fits lag_lower j g y = eqb y (lag_b j g)
target_fits (reservoir m b level) j e y = eqb y e
target_fits (reservoir m b time) j e y = eqb y e
target_fits (reservoir m b height) j e y = true
target_fits (total m) j g y = in_set j g y

-- ---- what a finding does

-- Nothing; the target's end becomes v; a conflict.
pub data Effect : Type 0 where
  idle : Effect
  narrows : ℤ → Effect
  fails : Effect

-- A bound narrows if it is stricter than the window's end. If it would pass the opposite end it is a conflict.
abbrev pub effect : End → Windows → ℕ → Finding → Effect
effect k W y nothing = idle
effect k W y clash = fails
effect k W y (bound v) =
    cond (meets (opposite k) (W y (opposite k)) v) (cond (meets k v (W y k)) idle (narrows v)) fails

abbrev pub failed : Effect → Bool
failed idle = false
failed (narrows v) = false
failed fails = true

abbrev pub is_narrowing : Effect → Bool
is_narrowing idle = false
is_narrowing (narrows v) = true
is_narrowing fails = false
