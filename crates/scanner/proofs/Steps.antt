-- A byte more, and a text that is otherwise formed.
-- Assumes nothing.
use mathlib.Core.Path.{◌≡◌, refl, ap, ◌∙◌}
use mathlib.Core.Bool.{Bool, true, false, cond}
use mathlib.Core.List.{List, [], ◌∷◌}
use Prim.Native.Nat.{ℕ}
use lib.IntN.{ℤ}
use Rattle.model.specs.Text.{blank, minus, digit}
use Rattle.scanner.specs.Scanning.{State, state, step, fed}
use Rattle.scanner.specs.declared.scan.Scan.TheVariants.{Malformed}

pub case : {P : Type 0} (b : Bool) → (b ≡ true → P) → (b ≡ false → P) → P
case true f g = f refl
case false f g = g refl

-- A text that is otherwise formed stays so.
pub step_malformed : (t : List ℤ) (b : ℕ) → step (state Malformed t) b ≡ state Malformed t
unfolding step
step_malformed t b = go (blank b) (minus b) (digit b)
  where
    go : (x y z : Bool) → cond x (state Malformed t) (state (cond y Malformed (cond z Malformed Malformed)) t) ≡ state Malformed t
    go true y z = refl
    go false true z = refl
    go false false true = refl
    go false false false = refl

pub fed_malformed : (t : List ℤ) (p : List ℕ) → fed (state Malformed t) p ≡ state Malformed t
fed_malformed t [] = refl
fed_malformed t (b ∷ p) = ap (λ (s : State). fed s p) (step_malformed t b) ∙ fed_malformed t p
