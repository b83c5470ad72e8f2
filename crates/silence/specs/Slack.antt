-- What a level leaves over its limit, and whether a target of rules 5, 8, 11 and 14 can be moved by it.
-- E is a view, X the windows seen in it, W the windows that they show.
use Rattle.std.specs.Prelude.{Bool, not, cond, ◌&&◌, ◌||◌, ℕ, zero, suc, ◌+◌, ltb, ℤ, pos, ◌-ℤ◌}
use Rattle.std.specs.Int.Signed.{le_z}
use Rattle.model.specs.Job.{t_min, t_max, h_min, h_max, Windows, ahead, produces}
use Rattle.model.specs.View.{View}
use Rattle.model.specs.Levels.{e_min, e_max, stands, most}
use Rattle.model.specs.Rules.{targeted}

-- Most before (by) e less the limit.
abbrev pub slack_of : View → Windows → ℤ
slack_of E X = most E X -ℤ E.limit

-- A slack k spares amounts low..high: it is not negative and no less than their width.
abbrev pub spares : ℤ → ℤ → ℤ → Bool
spares k low high = le_z (pos 0) k && le_z (high -ℤ low) k

-- y is a target at e that the slack k does not spare.
abbrev pub moves : View → Windows → Windows → ℤ → ℕ → Bool
moves E X W k y = not (spares k (W y h_min) (W y h_max)) && targeted (stands E X y) (X y h_max)

-- The same of y as another event than e, whose time window is u..v; s says before or by; neutral events are let pass.
abbrev pub may_move : (ℕ → Bool) → Windows → Windows → ℤ → ℤ → ℤ → ℕ → Bool
may_move s X W u v k y =
    not (spares k (W y h_min) (W y h_max))
    && (ahead (s y) (X y t_max) u || (ahead (s y) (X y t_min) v && produces (X y h_max)))

-- How many of the first n pass a test.
unfoldable pub count : ℕ → (ℕ → Bool) → ℕ
count zero p = 0
count (suc n) p = count n p + cond (p n) 1 0

-- Some other event than e may be moved, or e itself.
abbrev pub may_be_moved : View → Windows → Windows → ℤ → ℕ → Bool
may_be_moved E X W k y = may_move E.before X W (e_min E X) (e_max E X) k y

abbrev pub some_move : View → Windows → Windows → ℤ → Bool
some_move E X W k =
    ltb (cond (may_be_moved E X W k E.subject) 1 0) (count E.events (may_be_moved E X W k))
    || (not (E.before E.subject) && not (spares k (W E.subject h_min) (W E.subject h_max)))
