-- What the families of reservoir rules give in a view, as `rules::bounds` computes it.
-- Assumes nothing.
use mathlib.Core.Path.{◌≡◌, refl, sym, subst}
use mathlib.Core.Bool.{Bool, true, false, ◌&&◌, ◌||◌}
use Prim.Native.Nat.{ℕ, ◌+◌}
use Rattle.std.specs.Prelude.{Option, None, Some}
use native.Mathlib.Numerals.{add-one}
use lib.Dec.{T}
use lib.IntN.{ℤ}
use lib.Signed.{le_z, ◌≤ℤ◌, le_z_yes}
use Rattle.integers.proofs.Linear.{ints}
use Rattle.integers.proofs.Tests.{true_is}
use Rattle.model.specs.Job.{t_min, h_max, Windows}
use Rattle.model.specs.View.{View}
use Rattle.model.specs.Levels.{e_min, stands, most_in}
use Rattle.model.specs.Rules.{Finding, nothing, bound, given_if, counts_from, earlier, possible_producer, reached_at, earliest}
use Rattle.model.proofs.Levels.{most_later}
use Rattle.rules.specs.Values.{time_found, falls_short, Short}
use Rattle.tables.specs.declared.measures.Time.{Time}

or_false : (b : Bool) → (b || false) ≡ b
or_false true = refl
or_false false = refl

-- ---- the earlier of two times: the best found, if any, and w, if reached (h)

pub best_alone : (o : Option Time) (h : Bool) (w : ℤ) → false ≡ h → time_found o ≡ earlier (time_found o) (given_if h (bound w))
best_alone None h w e = rw (← e)
best_alone (Some v) h w e = rw (← e)

-- ---- the search

module _ (E : View) (W : Windows) where
  pub earliest_none : nothing ≡ earliest E W 0
  unfolding earliest
  earliest_none = refl

  pub earliest_more : (y : ℕ) {x r : Finding} → x ≡ earliest E W y → r ≡ earlier x (given_if (reached_at E W y) (bound (counts_from (E.before y) (W y t_min)))) → r ≡ earliest E W (y + 1)
  unfolding earliest
  earliest_more y p q = rw (add-one y) (cc)

-- ---- between the times that reach the limit and those that fall short

and_false : (a b : Bool) → b ≡ false → (a && b) ≡ false
and_false true b e = e
and_false false b e = refl

module _ (E : View) (W : Windows) (y : ℕ) where
  -- y's time falls short, as a later one does.
  pub short_unreached : (o : Option Time) {t : ℤ} → Short E W o → t ≡ counts_from (E.before y) (W y t_min) → falls_short o t ≡ true → false ≡ reached_at E W y
  short_unreached None short p q = absurd (subst T (sym q) tt)
  short_unreached (Some k) {t} short p q =
      let v = counts_from (E.before y) (W y t_min) in
      let up = most_later E W (e_min E W) v k.0 (subst (λ (x : ℤ). x ≤ℤ k.0) p (le_z_yes (true_is q))) in
      let none : le_z E.limit (most_in E W (e_min E W) v) ≡ false = omega ints in
      sym (and_false (possible_producer (stands E W y) (W y h_max)) (le_z E.limit (most_in E W (e_min E W) v)) none)
