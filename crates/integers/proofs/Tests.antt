-- Tests as propositions.
-- Assumes nothing.
use mathlib.Core.Path.{◌≡◌, refl, sym, subst}
use mathlib.Core.Bool.{Bool, true, false, not, ◌&&◌, ◌||◌}
use mathlib.Core.Logic.{◌⊎◌, inl, inr}
use lib.Dec.{T}

pub decide : (b : Bool) → T b ⊎ T (not b)
decide true = inl tt
decide false = inr tt

pub is_true : (b : Bool) → T b → b ≡ true
is_true true t = refl
is_true false t = absurd t

pub is_false : (b : Bool) → (T b → ⊥) → b ≡ false
is_false true f = absurd (f tt)
is_false false f = refl

pub not_true : (b : Bool) → T (not b) → b ≡ false
not_true true t = absurd t
not_true false t = refl

pub true_is : {b : Bool} → b ≡ true → T b
true_is e = subst T (sym e) tt

pub and_out : (a b : Bool) → T (a && b) → T a × T b
and_out true true t = (tt, tt)
and_out true false t = absurd t
and_out false true t = absurd t
and_out false false t = absurd t

pub and_in : (a b : Bool) → T a → T b → T (a && b)
and_in true b s t = t
and_in false b s t = absurd s

pub or_left : (a b : Bool) → T a → T (a || b)
or_left true b t = tt
or_left false b t = absurd t

pub or_right : (a b : Bool) → T b → T (a || b)
or_right true b t = tt
or_right false b t = t

pub or_out : (a b : Bool) → T (a || b) → T a ⊎ T b
or_out true b t = inl tt
or_out false b t = inr t

-- two tests that agree
pub same_test : (a b : Bool) → (T a → T b) → (T b → T a) → a ≡ b
same_test true true f g = refl
same_test true false f g = absurd (f tt)
same_test false true f g = absurd (g tt)
same_test false false f g = refl
