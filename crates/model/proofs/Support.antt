-- What a slip of rules 3 to 14 quotes is true, and it suffices: windows that keep the ends quoted, however wide elsewhere, give no higher level and the same targets.
-- Assumes nothing.
use mathlib.Core.Path.{◌≡◌, refl, sym, subst}
use mathlib.Core.Bool.{Bool, true, false, not, cond, ◌&&◌}
use mathlib.Core.Logic.{⊎_elim}
use Prim.Native.Nat.{ℕ, ◌<◌}
use native.Mathlib.Omega.{arith}
use lib.Dec.{T, eqb, eqb→eq, eqb_refl}
use lib.IntN.{ℤ, pos, ◌+ℤ◌, ◌-ℤ◌}
use lib.Signed.{le_z, ◌≤ℤ◌}
use Rattle.integers.specs.Sum.{sum}
use Rattle.integers.proofs.Linear.{ints, add_law, sub_law}
use Rattle.integers.proofs.Sums.{sum_le, sum_le_but}
use Rattle.integers.proofs.Tests.{decide, true_is, and_out, and_in, or_left, or_right, or_out}
use Rattle.model.specs.Job.{End, t_min, t_max, h_min, h_max, meets, Windows, Inside, produces, consumes, ahead, any}
use Rattle.model.specs.View.{View}
use Rattle.model.specs.Levels.{Place, sure, possible, never, placed, place, gain, gains, most_in, most, e_min, e_max, stands}
use Rattle.model.specs.Rules.{targeted}
use Rattle.model.specs.Facts.{first_late, last_early, left_out, surely_consumed, late, early, cites, says}
use Rattle.model.proofs.Order.{meets_refl}
use Rattle.model.proofs.Levels.{ahead_le, gain_le, gain_possible, Weaker, Wider, place_weaker, target_gain, Signed, same_producer, same_consumer}
use Rattle.model.proofs.Premises.{Keeps, any_in}

-- ---- kinds of events, read off h_max

-- Two amounts of one kind: both a producer's, both a consumer's, or both neutral.
record SameKind (h g : ℤ) : Type 0 where
  produced : produces g ≡ produces h
  consumed : consumes g ≡ consumes h

-- ---- what one event adds

gain_none : (k : Place) (m : ℤ) → m ≤ℤ pos 0 → gain k m ≤ℤ pos 0
gain_none sure m h = h
gain_none possible m h = go (produces m)
  where
    go : (b : Bool) → cond b m (pos 0) ≤ℤ pos 0
    go true = h
    go false = omega ints
gain_none never m h = omega ints

gain_some : (k : Place) (m : ℤ) → pos 0 ≤ℤ m → pos 0 ≤ℤ gain k m
gain_some sure m h = h
gain_some possible m h = (gain_possible m).0
gain_some never m h = omega ints

-- An event at k with h_max m in the one windows, at l with h_max g in the others, which keep what is quoted of it.
gain_backed : (k l : Place) (m g : ℤ) → SameKind m g → (T (targeted k m) → g ≤ℤ m) → (T (left_out k m) → l ≡ never) → (T (surely_consumed k m) → l ≡ sure) → gain l g ≤ℤ gain k m
gain_backed k l m g same a b c = go k (produces m) (consumes m) refl refl same.produced same.consumed a b c
  where
    go : (k : Place) (p q : Bool) → produces m ≡ p → consumes m ≡ q → produces g ≡ p → consumes g ≡ q → (T (targeted k m) → g ≤ℤ m) → (T (left_out k m) → l ≡ never) → (T (surely_consumed k m) → l ≡ sure) → gain l g ≤ℤ gain k m
    go k true true d e i j a b c = absurd (omega ints)
    go sure true false d e i j a b c =
        let x = a (or_right (consumes m) (produces m) (true_is d)) in
        let y = gain_le l g (true_is i) in
        omega ints
    go possible true false d e i j a b c =
        let x = a (true_is d) in
        let y = gain_le l g (true_is i) in
        rw d (omega ints)
    go never true false d e i j a b c = rw (b (true_is d)) (omega ints)
    go sure false true d e i j a b c = rw (c (true_is e)) (a (or_left (consumes m) (produces m) (true_is e)))
    go possible false true d e i j a b c = rw d (gain_none l g (omega ints))
    go never false true d e i j a b c = gain_none l g (omega ints)
    go k false false d e i j a b c =
        let x = gain_none l g (omega ints) in
        let y = gain_some k m (omega ints) in
        omega ints

-- A target of the one windows is a target of the others.
target_backed : (k l : Place) (m g : ℤ) → SameKind m g → Weaker k l → (T (surely_consumed k m) → l ≡ sure) → T (targeted k m) → T (targeted l g)
target_backed sure l m g same w c t = ⊎_elim pulled (delivered l w) (or_out (consumes m) (produces m) t)
  where
    pulled : T (consumes m) → T (targeted l g)
    pulled h = rw (c h) (or_left (consumes g) (produces g) (subst T (sym same.consumed) h))

    delivered : (l : Place) → Weaker sure l → T (produces m) → T (targeted l g)
    delivered sure w h = or_right (consumes g) (produces g) (subst T (sym same.produced) h)
    delivered possible w h = subst T (sym same.produced) h
    delivered never w h = w
target_backed possible sure m g same w c t = absurd w
target_backed possible possible m g same w c t = subst T (sym same.produced) t
target_backed possible never m g same w c t = w
target_backed never l m g same w c t = absurd t

-- ---- times quoted

late_not : (s : Bool) (v v' t : ℤ) → T (le_z (first_late s v) t) → v' ≤ℤ v → T (ahead s t v') → ⊥
late_not true v v' t h l a = omega ints
late_not false v v' t h l a = omega (ints, add_law v (pos 1))

early_ahead : (s : Bool) (u u' t : ℤ) → T (le_z t (last_early s u)) → T (le_z u u') → T (ahead s t u')
early_ahead true u u' t h l = omega (ints, sub_law u (pos 1))
early_ahead false u u' t h l = omega ints

late_true : (s : Bool) (v t : ℤ) → ahead s t v ≡ false → T (le_z (first_late s v) t)
late_true true v t h = omega ints
late_true false v t h = omega (ints, add_law v (pos 1))

early_true : (s : Bool) (u t : ℤ) → T (ahead s t u) → T (le_z t (last_early s u))
early_true true u t h = omega (ints, sub_law u (pos 1))
early_true false u t h = omega ints

-- ---- places

-- What is left out is never, what is surely consumed is sure.
left_never : (k : Place) (h : ℤ) → T (left_out k h) → k ≡ never
left_never sure h t = absurd t
left_never possible h t = absurd t
left_never never h t = refl

consumed_sure : (k : Place) (h : ℤ) → T (surely_consumed k h) → k ≡ sure
consumed_sure sure h t = refl
consumed_sure possible h t = absurd t
consumed_sure never h t = absurd t

-- A place other than e's own tells of the tests.
never_not : (q s a b : Bool) → T (not q) → placed q s a b ≡ never → b ≡ false
never_not true s a b n e = absurd n
never_not false s true b n e = absurd (let z : ◌≡◌ {A = ℕ} 0 1 = cc in omega arith)
never_not false s false true n e = absurd (let z : ◌≡◌ {A = ℕ} 0 1 = cc in omega arith)
never_not false s false false n e = refl

sure_is : (q s a b : Bool) → T (not q) → placed q s a b ≡ sure → T a
sure_is true s a b n e = absurd n
sure_is false s true b n e = tt
sure_is false s false true n e = absurd (let z : ◌≡◌ {A = ℕ} 0 1 = cc in omega arith)
sure_is false s false false n e = absurd (let z : ◌≡◌ {A = ℕ} 0 1 = cc in omega arith)

-- The tests tell of the place; e's own is one and the same in all windows.
placed_never : (q s a b c d : Bool) → (T c → T a) → (T (not q) → T d → ⊥) → placed q s a b ≡ never → placed q s c d ≡ never
placed_never true true a b c d f g e = refl
placed_never true false a b c d f g e = e
placed_never false s true b c d f g e = absurd (let z : ◌≡◌ {A = ℕ} 0 1 = cc in omega arith)
placed_never false s false b true d f g e = absurd (f tt)
placed_never false s false b false true f g e = absurd (g tt tt)
placed_never false s false b false false f g e = refl

placed_sure : (q s a b c d : Bool) → (T (not q) → T c) → placed q s a b ≡ sure → placed q s c d ≡ sure
placed_sure true true a b c d f e = e
placed_sure true false a b c d f e = refl
placed_sure false s a b true d f e = refl
placed_sure false s a b false d f e = absurd (f tt)

-- ---- e's own facts and the others'

at_other : (q a c : Bool) (k : End) (x z w : ℤ) → T (not q) → (T (cond q a c) → T (meets k (cond q x z) w)) → T c → T (meets k z w)
at_other true a c k x z w n f t = absurd n
at_other false a c k x z w n f t = f t

at_self : (q a c : Bool) (k : End) (x z w : ℤ) → T q → (T (cond q a c) → T (meets k (cond q x z) w)) → T a → T (meets k x w)
at_self true a c k x z w n f t = f t
at_self false a c k x z w n f t = absurd n

at_either : (q a c : Bool) (k : End) (x z w : ℤ) → (T q → T a → T (meets k x w)) → (T (not q) → T c → T (meets k z w)) → T (cond q a c) → T (meets k (cond q x z) w)
at_either true a c k x z w f g t = f tt t
at_either false a c k x z w f g t = g tt t

-- Question 15: what is quoted is true of the windows that it is read off; e's t ≤ only where v is no earlier than its t_max.
module _ (E : View) (W : Windows) (v : ℤ) (top : Bool) (dropped : ℕ → Bool) where
  pub cites_true : (T top → e_max E W ≤ℤ v) → Keeps E.events (cites E W (e_min E W) v top dropped) (says E W (e_min E W) v) W
  cites_true h y m t_min t =
      at_either (eqb y E.subject) (any E.events (early E W (e_min E W) v)) (late E W (e_min E W) v y) t_min (e_min E W) (first_late (E.before y) v) (W y t_min)
      (λ q _. rw (eqb→eq y E.subject q) (meets_refl t_min (e_min E W)))
      (λ q c. late_true (E.before y) v (W y t_min) (never_not (eqb y E.subject) (E.before y) (ahead (E.before y) (W y t_max) (e_min E W)) (ahead (E.before y) (W y t_min) v) q (left_never (place E W (e_min E W) v y) (W y h_max) (and_out (not (eqb y E.subject)) (left_out (place E W (e_min E W) v y) (W y h_max)) c).1)))
      t
  cites_true h y m t_max t =
      at_either (eqb y E.subject) (top && any E.events (late E W (e_min E W) v)) (early E W (e_min E W) v y) t_max v (last_early (E.before y) (e_min E W)) (W y t_max)
      (λ q c. rw (eqb→eq y E.subject q) (h (and_out top (any E.events (late E W (e_min E W) v)) c).0).le)
      (λ q c. early_true (E.before y) (e_min E W) (W y t_max) (sure_is (eqb y E.subject) (E.before y) (ahead (E.before y) (W y t_max) (e_min E W)) (ahead (E.before y) (W y t_min) v) q (consumed_sure (place E W (e_min E W) v y) (W y h_max) (and_out (not (eqb y E.subject)) (surely_consumed (place E W (e_min E W) v y) (W y h_max)) c).1)))
      t
  cites_true h y m h_min t = absurd t
  cites_true h y m h_max t = meets_refl h_max (W y h_max)

-- ---- the level

-- The windows X are no narrower than W, of which none is empty, and of the same signs.
pub record Opened (n : ℕ) (W X : Windows) : Type 0 where
  pub wider : Inside n X W
  pub times : (y : ℕ) → y < n → W y t_min ≤ℤ W y t_max
  pub heights : (y : ℕ) → y < n → W y h_min ≤ℤ W y h_max
  pub signs : Signed n X

pub opened_wider : (E : View) {W X : Windows} → Opened E.events W X → E.subject < E.events → Wider E.events W X (e_min E W) (e_max E W) (e_min E X) (e_max E X)
opened_wider E o l =
    record {
      windows = o.wider;
      times = o.times;
      from = record { le = o.wider.inside E.subject l t_min };
      range = o.times E.subject l;
      to = record { le = o.wider.inside E.subject l t_max };
    }

-- X keeps what is quoted of W at e with v for e's latest minute; in X that is v'.
pub record Grounds (E : View) (W X : Windows) (v v' : ℤ) (top : Bool) (dropped : ℕ → Bool) : Type 0 where
  pub opened : Opened E.events W X
  pub subject : E.subject < E.events
  pub kept : Keeps E.events (cites E W (e_min E W) v top dropped) (says E W (e_min E W) v) X
  pub to_top : T top → v' ≡ e_max E X
  pub to_bound : T (not top) → v' ≡ v

module _ {E : View} {W X : Windows} {v v' : ℤ} {top : Bool} {dropped : ℕ → Bool} (g : Grounds E W X v v' top dropped) where
  -- Where y stands to e in W and in X; is it quoted for coming late, or early.
  abbrev at_w : ℕ → Place
  at_w y = place E W (e_min E W) v y

  abbrev at_x : ℕ → Place
  at_x y = place E X (e_min E X) v' y

  abbrev lates : ℕ → Bool
  lates = late E W (e_min E W) v

  abbrev earlies : ℕ → Bool
  earlies = early E W (e_min E W) v

  kinds : (y : ℕ) → y < E.events → SameKind (W y h_max) (X y h_max)
  kinds y l =
      record {
        produced = sym (same_producer g.opened.wider g.opened.signs g.opened.heights y l);
        consumed = sym (same_consumer g.opened.wider g.opened.signs g.opened.heights y l);
      }

  lo : T (le_z (e_min E X) (e_min E W))
  lo = g.opened.wider.inside E.subject g.subject t_min

  up_to : (y : ℕ) → y < E.events → T (lates y) → v' ≤ℤ v
  up_to y l t = ⊎_elim quoted_top (λ d. rw (g.to_bound d) (omega ints)) (decide top)
    where
      quoted_top : T top → v' ≤ℤ v
      quoted_top d =
          rw (g.to_top d)
          (record {
            le = at_self (eqb E.subject E.subject) (top && any E.events lates) (earlies E.subject) t_max v (last_early (E.before E.subject) (e_min E W)) (e_max E X) (eqb_refl E.subject) (g.kept E.subject g.subject t_max) (and_in top (any E.events lates) d (any_in E.events y lates l t));
          })

  from : (y : ℕ) → y < E.events → T (earlies y) → T (le_z (e_min E W) (e_min E X))
  from y l t = at_self (eqb E.subject E.subject) (any E.events earlies) (lates E.subject) t_min (e_min E W) (first_late (E.before E.subject) v) (e_min E X) (eqb_refl E.subject) (g.kept E.subject g.subject t_min) (any_in E.events y earlies l t)

  stays_never : (y : ℕ) → y < E.events → T (left_out (at_w y) (W y h_max)) → at_x y ≡ never
  stays_never y l t =
      placed_never (eqb y E.subject) (E.before y) (ahead (E.before y) (W y t_max) (e_min E W)) (ahead (E.before y) (W y t_min) v) (ahead (E.before y) (X y t_max) (e_min E X)) (ahead (E.before y) (X y t_min) v')
      (ahead_le (E.before y) (X y t_max) (e_min E X) (W y t_max) (e_min E W) (record { le = g.opened.wider.inside y l t_max }) (record { le = lo }))
      (λ q h. let c = and_in (not (eqb y E.subject)) (left_out (at_w y) (W y h_max)) q t in
      late_not (E.before y) v v' (X y t_min) (at_other (eqb y E.subject) (any E.events earlies) (lates y) t_min (e_min E W) (first_late (E.before y) v) (X y t_min) q (g.kept y l t_min) c) (up_to y l c) h)
      (left_never (at_w y) (W y h_max) t)

  stays_sure : (y : ℕ) → y < E.events → T (surely_consumed (at_w y) (W y h_max)) → at_x y ≡ sure
  stays_sure y l t =
      placed_sure (eqb y E.subject) (E.before y) (ahead (E.before y) (W y t_max) (e_min E W)) (ahead (E.before y) (W y t_min) v) (ahead (E.before y) (X y t_max) (e_min E X)) (ahead (E.before y) (X y t_min) v')
      (λ q. let c = and_in (not (eqb y E.subject)) (surely_consumed (at_w y) (W y h_max)) q t in
      early_ahead (E.before y) (e_min E W) (e_min E X) (X y t_max) (at_other (eqb y E.subject) (top && any E.events lates) (earlies y) t_max v (last_early (E.before y) (e_min E W)) (X y t_max) q (g.kept y l t_max) c) (from y l c))
      (consumed_sure (at_w y) (W y h_max) t)

  -- What a target adds is quoted, but where it is left out.
  pub amount_kept : (y : ℕ) → y < E.events → T (not (dropped y)) → T (targeted (at_w y) (W y h_max)) → X y h_max ≤ℤ W y h_max
  amount_kept y l d t = record { le = g.kept y l h_max (and_in (not (dropped y)) (targeted (at_w y) (W y h_max)) d t) }

  gains_backed : (y : ℕ) → y < E.events → T (not (dropped y)) → gains E X (e_min E X) v' y ≤ℤ gains E W (e_min E W) v y
  gains_backed y l d = gain_backed (at_w y) (at_x y) (W y h_max) (X y h_max) (kinds y l) (amount_kept y l d) (stays_never y l) (stays_sure y l)

  pub most_backed : ((y : ℕ) → y < E.events → T (not (dropped y))) → most_in E X (e_min E X) v' ≤ℤ most_in E W (e_min E W) v
  unfolding most_in
  most_backed d =
      let f = gains E X (e_min E X) v' in
      let h = gains E W (e_min E W) v in
      let a = sum_le E.events f h (λ y l. gains_backed y l (d y l)) in
      omega (ints, add_law E.opening (sum E.events f), add_law E.opening (sum E.events h))

-- ---- targets

needs_le : (low m h k g : ℤ) → (k +ℤ h) ≤ℤ (m +ℤ g) → (low -ℤ (m -ℤ h)) ≤ℤ (low -ℤ (k -ℤ g))
needs_le low m h k g l = go (m -ℤ h) (k -ℤ g) (low -ℤ (m -ℤ h)) (low -ℤ (k -ℤ g)) refl refl refl refl
  where
    go : (a b x z : ℤ) → a ≡ m -ℤ h → b ≡ k -ℤ g → x ≡ low -ℤ a → z ≡ low -ℤ b → x ≤ℤ z
    go a b x z p q r t = omega (ints, add_law k h, add_law m g)

module _ {E : View} {W X : Windows} {top : Bool} {dropped : ℕ → Bool} (g : Grounds E W X (e_max E W) (e_max E X) top dropped) where
  module _ (y : ℕ) (l : y < E.events) (t : T (targeted (stands E W y) (W y h_max))) where
    pub targets_backed : T (targeted (stands E X y) (X y h_max))
    targets_backed =
        target_backed (stands E W y) (stands E X y) (W y h_max) (X y h_max) (kinds g y l)
        (place_weaker E (opened_wider E g.opened g.subject) y l)
        (stays_sure g y l)
        t

    -- The bound on a target is no weaker, also where its own amount is not quoted.
    pub needs_backed : ((z : ℕ) → z < E.events → (z ≡ y → ⊥) → T (not (dropped z))) → (E.limit -ℤ (most E W -ℤ W y h_max)) ≤ℤ (E.limit -ℤ (most E X -ℤ X y h_max))
    unfolding most_in
    needs_backed d =
        let f = gains E X (e_min E X) (e_max E X) in
        let h = gains E W (e_min E W) (e_max E W) in
        let a = sum_le_but E.events y f h l (λ z m i. gains_backed g z m (d z m i)) in
        let p : h y ≡ W y h_max = target_gain (stands E W y) (W y h_max) t in
        let q : f y ≡ X y h_max = target_gain (stands E X y) (X y h_max) targets_backed in
        needs_le E.limit (most E W) (W y h_max) (most E X) (X y h_max)
        (omega (ints, add_law E.opening (sum E.events f), add_law E.opening (sum E.events h), add_law (sum E.events f) (h y), add_law (sum E.events h) (f y), add_law (most E X) (W y h_max), add_law (most E W) (X y h_max)))
