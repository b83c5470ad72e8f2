-- What an effect tells of the finding that it comes from, and findings, bounds and effects read on a side.
-- Assumes nothing.
use mathlib.Core.Path.{◌≡◌, refl, sym, ap, ap₂, subst, ◌∙◌}
use mathlib.Core.Bool.{Bool, true, false, not, cond}
use Prim.Native.Nat.{ℕ}
use native.Mathlib.Omega.{arith}
use lib.Dec.{T, eqb, T_not}
use lib.IntN.{ℤ, pos, ◌-ℤ◌}
use Rattle.integers.proofs.Tests.{is_false}
use Rattle.model.specs.Job.{End, t_min, t_max, h_min, h_max, opposite, meets, Windows, Job}
use Rattle.model.specs.View.{side_value, side_end, side, View, seen, here, look}
use Rattle.model.specs.Levels.{Place, sure, possible, never, most, stands}
use Rattle.model.specs.Rules.{Finding, nothing, clash, bound, given_if, side_finding, Effect, idle, narrows, fails, effect, failed, Family, level, time, height, reservoir, target_fits, targeted, family_rule, family_end}
use Rattle.model.specs.Reader.{as_strict}
use Rattle.model.proofs.Sides.{side_value_twice, side_meets, amount, shown_is}

-- ---- an effect and its finding

-- A bound that fails passes the opposite end.
pub fails_past : (k : End) (W : Windows) (y : ℕ) (v : ℤ) → fails ≡ effect k W y (bound v) → meets (opposite k) (W y (opposite k)) v ≡ false
fails_past k W y v e = go (meets (opposite k) (W y (opposite k)) v) (meets k v (W y k)) e
  where
    go : (a b : Bool) → fails ≡ cond a (cond b idle (narrows v)) fails → a ≡ false
    go true true e = absurd (let z : ◌≡◌ {A = ℕ} 0 1 = cc in omega arith)
    go true false e = absurd (let z : ◌≡◌ {A = ℕ} 0 1 = cc in omega arith)
    go false b e = refl

pub past_fails : (k : End) (X : Windows) (y : ℕ) (v : ℤ) → meets (opposite k) (X y (opposite k)) v ≡ false → T (failed (effect k X y (bound v)))
past_fails k X y v e = rw e tt

-- What has an effect is given.
pub effect_given : (k : End) (W : Windows) (y : ℕ) (b : Bool) (f : Finding) (x : Effect) → x ≡ effect k W y (given_if b f) → (x ≡ idle → ⊥) → T b × (x ≡ effect k W y f)
effect_given k W y true f x e i = (tt, e)
effect_given k W y false f x e i = absurd (i e)

-- ---- on a side

-- A bound turned to the other side, against a value as it stands: the value turned instead.
pub across : (m : Bool) (k : End) (v x : ℤ) → meets (side_end m k) (side_value m k v) x ≡ meets k v (side_value m k x)
across m k v x =
    sym (side_meets m k (side_value m k v) x) ∙ ap (λ z. meets k z (side_value m k x)) (side_value_twice m k v)

across_opposite : (m : Bool) (k : End) (W : Windows) (y : ℕ) (v : ℤ) → meets (opposite (side_end m k)) (W y (opposite (side_end m k))) (side_value m k v) ≡ meets (opposite k) (side m W y (opposite k)) v
across_opposite false k W y v = refl
across_opposite true t_min W y v = refl
across_opposite true t_max W y v = refl
across_opposite true h_min W y v = across true h_min v (W y h_min)
across_opposite true h_max W y v = across true h_max v (W y h_max)

-- An effect told on the other side.
abbrev pub side_effect : Bool → End → Effect → Effect
side_effect m k idle = idle
side_effect m k (narrows v) = narrows (side_value m k v)
side_effect m k fails = fails

pub effect_side : (m : Bool) (k : End) (W : Windows) (y : ℕ) (f : Finding) → effect (side_end m k) W y (side_finding m k f) ≡ side_effect m k (effect k (side m W) y f)
effect_side m k W y nothing = refl
effect_side m k W y clash = refl
effect_side m k W y (bound v) =
    rw (across_opposite m k W y v, across m k v (W y (side_end m k))) (go (meets (opposite k) (side m W y (opposite k)) v) (meets k v (side m W y k)))
  where
    go : (a b : Bool) → cond a (cond b idle (narrows (side_value m k v))) fails ≡ side_effect m k (cond a (cond b idle (narrows v)) fails)
    go true true = refl
    go true false = refl
    go false b = refl

pub failed_side : (m : Bool) (k : End) (x : Effect) → failed (side_effect m k x) ≡ failed x
failed_side m k idle = refl
failed_side m k (narrows v) = refl
failed_side m k fails = refl

pub strict_side : (m : Bool) (k : End) (v : ℤ) (f : Finding) → as_strict (side_end m k) (side_value m k v) (side_finding m k f) ≡ as_strict k v f
strict_side m k v nothing = refl
strict_side m k v clash = refl
strict_side m k v (bound w) = across m k v (side_value m k w) ∙ ap (meets k v) (side_value_twice m k w)

-- ---- targets

-- The targets of a family at e.
abbrev pub aims : Family → ℕ → ℕ → Bool
aims level e y = eqb y e
aims time e y = eqb y e
aims height e y = true

pub fits_aims : (m b : Bool) (f : Family) (j : Job) (e y : ℕ) → T (target_fits (reservoir m b f) j e y) → T (aims f e y)
fits_aims m b level j e y t = t
fits_aims m b time j e y t = t
fits_aims m b height j e y t = tt

-- ---- what another cage's event may be told

-- Shown as neutral it is no target.
pub target_here : (k : Place) (b : Bool) (v : ℤ) → T (targeted k (cond b v (pos 0))) → T b
target_here k true v t = tt
target_here sure false v t = t
target_here possible false v t = t
target_here never false v t = t

-- A finding about an amount of another cage's event is nothing.
abbrev pub Quiet : Bool → End → Finding → Type 0
Quiet b k g = T (amount k) → T (not b) → g ≡ nothing

pub quiet_here : (b : Bool) (k : End) (v : ℤ) → Quiet b k (bound v) → T (amount k) → T b
quiet_here true k v q a = tt
quiet_here false k v q a = absurd (let p = q a tt in let z : ◌≡◌ {A = ℕ} 0 1 = cc in omega arith)

pub family_quiet : (j : Job) (m : Bool) (e : ℕ) (E : View) (W : Windows) (y : ℕ) (f : Family) → Quiet (here j e y) (family_end f) (family_rule f E (seen j m e W) y)
family_quiet j m e E W y level a h = absurd a
family_quiet j m e E W y time a h = absurd a
family_quiet j m e E W y height a h =
    ap (λ b. given_if b (bound (E.limit -ℤ (most E (seen j m e W) -ℤ seen j m e W y h_max))))
    (is_false (targeted (stands E (seen j m e W) y) (seen j m e W y h_max)) (λ t. T_not (here j e y) h (target_here (stands E (seen j m e W) y) (here j e y) (side m W y h_max) t)))

same_amount : (k : End) → amount (opposite k) ≡ amount k
same_amount t_min = refl
same_amount t_max = refl
same_amount h_min = refl
same_amount h_max = refl

-- The effect of a finding, told in the windows that the rule sees.
pub effect_look : (own : ℕ → Bool) (m : Bool) (k : End) (W : Windows) (y : ℕ) (g : Finding) → Quiet (own y) k g → effect (side_end m k) W y (side_finding m k g) ≡ side_effect m k (effect k (look own m W) y g)
effect_look own m k W y nothing q = refl
effect_look own m k W y clash q = refl
effect_look own m k W y (bound v) q =
    let b = own y in
    let f = quiet_here b k v q in
    effect_side m k W y (bound v)
    ∙ ap₂ (λ u w. side_effect m k (cond (meets (opposite k) u v) (cond (meets k v w) idle (narrows v)) fails))
    (sym (shown_is b (opposite k) (side m W y (opposite k)) (λ t. f (subst T (same_amount k) t))))
    (sym (shown_is b k (side m W y k) f))
