-- Document 01, "The fourteen rules": surely and possibly before or by, most and least before or by, over a view and the windows seen in it.
use Rattle.std.specs.Prelude.{Bool, true, false, cond, ℕ, eqb, ℤ, pos, neg_ℤ, ◌+ℤ◌}
use Rattle.integers.specs.Sum.{sum}
use Rattle.model.specs.Job.{t_min, t_max, h_max, Windows, ahead, produces, Job}
use Rattle.model.specs.View.{View, view, seen}

-- Where y stands to e: surely before (by), possibly and not surely, or neither.
pub data Place : Type 0 where
  sure possible never : Place

-- Is it e itself; before or by; the test for surely; the test for possibly. e itself is never before, and always surely by.
abbrev pub placed : Bool → Bool → Bool → Bool → Place
placed true true a b = never
placed true false a b = sure
placed false s true b = sure
placed false s false true = possible
placed false s false false = never

-- Surely before: t_max(y) < t_min(e). Possibly before: t_min(y) < t_max(e). By: ≤. Here t_min(e) is u and t_max(e) is v.
abbrev pub place : View → Windows → ℤ → ℤ → ℕ → Place
place E W u v y =
    placed (eqb y E.subject) (E.before y) (ahead (E.before y) (W y t_max) u) (ahead (E.before y) (W y t_min) v)

-- t_min(e) and t_max(e), and where y stands to e by these.
abbrev pub e_min : View → Windows → ℤ
e_min E W = W E.subject t_min

abbrev pub e_max : View → Windows → ℤ
e_max E W = W E.subject t_max

abbrev pub stands : View → Windows → ℕ → Place
stands E W y = place E W (e_min E W) (e_max E W) y

-- What an event adds at most, with h for its h_max: where only possible, a delivery's.
abbrev pub gain : Place → ℤ → ℤ
gain sure h = h
gain possible h = cond (produces h) h (pos 0)
gain never h = pos 0

abbrev pub gains : View → Windows → ℤ → ℤ → ℕ → ℤ
gains E W u v y = gain (place E W u v y) (W y h_max)

-- Most before (by) e = Q + h_max of all surely before (by) + h_max of deliveries possibly, not surely, before (by); e's time window is u..v.
unfoldable pub most_in : View → Windows → ℤ → ℤ → ℤ
most_in E W u v = E.opening +ℤ sum E.events (gains E W u v)

abbrev pub most : View → Windows → ℤ
most E W = most_in E W (e_min E W) (e_max E W)

-- The surely-before (by) part with Q.
abbrev pub sure_gain : Place → ℤ → ℤ
sure_gain sure h = h
sure_gain possible h = pos 0
sure_gain never h = pos 0

unfoldable pub sure_part : View → Windows → ℤ
sure_part E W = E.opening +ℤ sum E.events (λ y. sure_gain (stands E W y) (W y h_max))

-- Least before (by) e: h_min, and pulls in place of deliveries; so it is, negated, most before (by) e in the mirror.
abbrev pub least : Job → Bool → Windows → ℕ → ℤ
least j b W e = neg_ℤ (most (view j true b e) (seen j true e W))
