-- Document 01, "Facts on a slip": which ends a slip quotes, and what it says of them. Each (event, kind) is quoted at most once.
use Rattle.std.specs.Prelude.{Bool, true, false, not, cond, ◌&&◌, ◌||◌, ℕ, eqb, ℤ, pos, ◌+ℤ◌, ◌-ℤ◌}
use Rattle.model.specs.Job.{End, t_min, t_max, h_min, h_max, Windows, Job, produces, consumes, lag_a, lag_b, any, in_set}
use Rattle.model.specs.View.{side_value, side_end, View, view, seen, look}
use Rattle.model.specs.Levels.{Place, sure, possible, never, place, e_min, e_max}
use Rattle.model.specs.Rules.{Family, level, time, height, Rule, lag_upper, lag_lower, reservoir, targeted, Effect, idle, narrows, fails, failed, is_narrowing, total}

-- A delivery not counted comes no earlier than t_max(e) ("by": t_max(e) + 1).
abbrev pub first_late : Bool → ℤ → ℤ
first_late true v = v
first_late false v = v +ℤ pos 1

-- A pull surely counted comes no later than t_min(e) − 1 ("by": t_min(e)).
abbrev pub last_early : Bool → ℤ → ℤ
last_early true u = u -ℤ pos 1
last_early false u = u

abbrev pub left_out : Place → ℤ → Bool
left_out sure h = false
left_out possible h = false
left_out never h = produces h

abbrev pub surely_consumed : Place → ℤ → Bool
surely_consumed sure h = consumes h
surely_consumed possible h = false
surely_consumed never h = false

-- Rules 3 to 5 and 9 to 11 at e, whose time window is u..v.
module _ (E : View) (W : Windows) (u v : ℤ) where
  -- A delivery other than e that is not counted; a pull other than e that surely is.
  abbrev pub late : ℕ → Bool
  late y = not (eqb y E.subject) && left_out (place E W u v y) (W y h_max)

  abbrev pub early : ℕ → Bool
  early y = not (eqb y E.subject) && surely_consumed (place E W u v y) (W y h_max)

  -- A delivery not counted: t(y) ≥ and t(e) ≤. A pull surely counted: t(y) ≤, t(e) ≥ and h ≤. A delivery counted, and by e itself unless neutral: h ≤.
  -- Is e's own t ≤ quoted at all (top), is y's h ≤ left out (dropped y)?
  abbrev pub cites : Bool → (ℕ → Bool) → ℕ → End → Bool
  cites top dropped y t_min = cond (eqb y E.subject) (any E.events early) (late y)
  cites top dropped y t_max = cond (eqb y E.subject) (top && any E.events late) (early y)
  cites top dropped y h_min = false
  cites top dropped y h_max = not (dropped y) && targeted (place E W u v y) (W y h_max)

  abbrev pub says : ℕ → End → ℤ
  says y t_min = cond (eqb y E.subject) u (first_late (E.before y) v)
  says y t_max = cond (eqb y E.subject) v (last_early (E.before y) u)
  says y h_min = W y h_min
  says y h_max = W y h_max

-- Rule 4 with bound v: e's time window ends at v − 1. So deliveries with t_min < v − 1 give h ≤, the rest t(y) ≥ v − 1; rule 10: split at v.
abbrev pub latest : Family → ℤ → Effect → ℤ
latest level t x = t
latest time t idle = t
latest time t (narrows v) = v -ℤ pos 1
latest time t fails = t
latest height t x = t

abbrev pub quotes_top : Family → Bool
quotes_top level = true
quotes_top time = false
quotes_top height = true

-- Rules 5 and 11: as rule 3 without the target's h ≤. A conflict of theirs quotes the opposite end too, which is just that.
abbrev pub spares : Family → Effect → Bool
spares level x = false
spares time x = false
spares height x = is_narrowing x

abbrev pub drops : Family → Effect → ℕ → ℕ → Bool
drops f x y z = spares f x && eqb z y

abbrev pub family_cites : Family → View → Windows → ℕ → Effect → ℕ → End → Bool
family_cites f E W y x =
    cites E W (e_min E W) (latest f (e_max E W) x) (quotes_top f) (drops f x y)

abbrev pub family_says : Family → View → Windows → Effect → ℕ → End → ℤ
family_says f E W x = says E W (e_min E W) (latest f (e_max E W) x)

-- Rules 1 and 2: the end read, t_max(b) or t_min(a); of a conflict also the opposite end of the target.
abbrev pub lag_cites : Bool → Bool → Job → ℕ → ℕ → End → Bool
lag_cites a b j g z t_min = a && eqb z (lag_a j g)
lag_cites a b j g z t_max = b && eqb z (lag_b j g)
lag_cites a b j g z h_min = false
lag_cites a b j g z h_max = false

-- Rules 17 and 18: the ends used of others not neutral; of a conflict also the opposite end of the target.
abbrev pub total_cites : Windows → ℕ → Bool → ℕ → End → Bool
total_cites W y f z t_min = false
total_cites W y f z t_max = false
total_cites W y f z h_min = false
total_cites W y f z h_max = cond (eqb z y) f (consumes (W z h_max) || produces (W z h_max))

-- Does the slip of a rule, subject e and target y with this effect quote the end k of event z, and what does it say of it?
-- Mirrors take h ≥ h_min and exchange delivery and pull.
unfoldable pub quotes : Rule → Job → Windows → ℕ → ℕ → Effect → ℕ → End → Bool
quotes lag_upper j W e y x z k = lag_cites (failed x) true j e z k
quotes lag_lower j W e y x z k = lag_cites true (failed x) j e z k
quotes (reservoir m b f) j W e y x z k = family_cites f (view j m b e) (seen j m e W) y x z (side_end m k)
quotes (total m) j W g y x z k = total_cites (look (in_set j g) m W) y (failed x) z (side_end m k)

unfoldable pub quoted : Rule → Job → Windows → ℕ → ℕ → Effect → ℕ → End → ℤ
quoted lag_upper j W e y x z k = W z k
quoted lag_lower j W e y x z k = W z k
quoted (reservoir m b f) j W e y x z k =
    side_value m k (family_says f (view j m b e) (seen j m e W) x z (side_end m k))
quoted (total m) j W g y x z k = W z k
