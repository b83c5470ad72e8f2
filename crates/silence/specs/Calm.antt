-- Sums that show rules to do nothing: 3 and 4 at an event, 3 to 14 at an event or at all; and lags that are kept.
use Rattle.std.specs.Prelude.{Bool, true, false, not, cond, ◌&&◌, ◌||◌, ℕ, zero, suc, ℤ, pos, ◌+ℤ◌, ◌-ℤ◌}
use Rattle.std.specs.Int.Signed.{le_z, lt_z}
use Rattle.integers.specs.Sum.{sum}
use Rattle.model.specs.Job.{End, t_min, t_max, h_min, h_max, meets, Windows, produces, Reservoir}
use Rattle.model.specs.View.{side_value, side, side_limit, View}
use Rattle.model.specs.Levels.{e_min, e_max, most_in}
use Rattle.rules.specs.declared.lags.Lag.{Lag}

-- The level of e reaches the limit already with e at its earliest minute: then rules 3 and 4 (9 and 10) do nothing.
abbrev pub reaches_early : View → Windows → Bool
reaches_early E X = le_z (e_min E X) (e_max E X) && le_z E.limit (most_in E X (e_min E X) (e_min E X))

-- What y adds at least to that level, before or by: a delivery that begins before the minute u, all else that ends by u.
abbrev pub floor_gain : Windows → ℤ → ℕ → ℤ
floor_gain X u y =
    cond ((produces (X y h_max) && lt_z (X y t_min) u) || (not (produces (X y h_max)) && le_z (X y t_max) u)) (X y h_max) (pos 0)

-- What y takes at most.
abbrev pub drain : Windows → ℕ → ℤ
drain X y = cond (produces (X y h_max)) (pos 0) (X y h_max)

-- A floor under that level, before and by: the opening stock q, what all add at least, and e's own amount where it takes.
abbrev pub floor_of : ℕ → ℤ → Windows → ℕ → ℤ
floor_of n q X e = (q +ℤ sum n (floor_gain X (X e t_min))) +ℤ drain X e

-- The largest width of an amount window, at least 0.
abbrev pub larger : ℤ → ℤ → ℤ
larger a b = cond (lt_z a b) b a

unfoldable pub spread_of : ℕ → Windows → ℤ
spread_of zero W = pos 0
spread_of (suc y) W = larger (spread_of y W) (W y h_max -ℤ W y h_min)

-- The floor lies over the limit of a side by d.
abbrev pub floored : Bool → ℕ → Reservoir → Windows → ℕ → ℤ → Bool
floored m n c W e d = le_z (side_limit m c +ℤ d) (floor_of n (side_value m h_max c.initial) (side m W) e)

-- It does so on both sides: with d no less than any width, rules 3 to 14 do nothing at e.
abbrev pub calm : ℕ → Reservoir → Windows → ℕ → ℤ → Bool
calm n c W e d = floored false n c W e d && (floored true n c W e d && le_z (W e t_min) (W e t_max))

-- The opening stock less all that events can take lies over the limit of a side by d.
abbrev pub deep : Bool → ℕ → Reservoir → Windows → ℤ → Bool
deep m n c W d = le_z (side_limit m c +ℤ d) (side_value m h_max c.initial +ℤ sum n (drain (side m W)))

-- No event ends before it begins.
unfoldable pub ordered : ℕ → Windows → Bool
ordered zero W = true
ordered (suc y) W = ordered y W && le_z (W y t_min) (W y t_max)

-- It does so on both sides by d and the largest amount, which e's own may take once more: every event is calm.
abbrev pub all_calm : ℕ → Reservoir → Windows → ℤ → Bool
all_calm n c W d = deep false n c W (d +ℤ pos 9999) && (deep true n c W (d +ℤ pos 9999) && ordered n W)

-- Both ends of a time window keep the bound v at an end k.
abbrev pub keeps : End → ℤ → (End → ℤ) → Bool
keeps k v w = meets k v (w t_min) && meets k v (w t_max)

-- Rules 1 and 2 of a lag leave both windows as they are.
abbrev pub lag_kept : Lag → Windows → Bool
lag_kept l W = keeps t_max (W l.b t_max +ℤ l.gap.0) (W l.a) && keeps t_min (W l.a t_min -ℤ l.gap.0) (W l.b)
