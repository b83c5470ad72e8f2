-- Sums over 0 .. n - 1, compared term by term, and but for one term.
-- Assumes nothing.
use mathlib.Core.Path.{◌≡◌, refl, ap, ap₂}
use Prim.Native.Nat.{ℕ, zero, suc, ◌*◌, ◌<◌}
use native.Mathlib.Decide.{ℕ_discrete}
use native.Mathlib.Omega.{arith}
use lib.IntN.{ℤ, neg_ℤ, ◌+ℤ◌}
use lib.Signed.{◌≤ℤ◌}
use Rattle.integers.specs.Range.{Within}
use Rattle.integers.specs.Sum.{sum}
use Rattle.integers.proofs.Linear.{ints, add_law, neg_law}

pub sum_le : (n : ℕ) (f g : ℕ → ℤ) → ((y : ℕ) → y < n → f y ≤ℤ g y) → sum n f ≤ℤ sum n g
unfolding sum
sum_le zero f g h = omega ints
sum_le (suc n) f g h =
    let a = sum_le n f g (λ y l. h y (omega arith)) in
    let b = h n (omega arith) in
    omega (ints, add_law (sum n f) (f n), add_law (sum n g) (g n))

pub sum_ext : (n : ℕ) (f g : ℕ → ℤ) → ((y : ℕ) → y < n → f y ≡ g y) → sum n f ≡ sum n g
unfolding sum
sum_ext zero f g h = refl
sum_ext (suc n) f g h = ap₂ ◌+ℤ◌ (sum_ext n f g (λ y l. h y (omega arith))) (h n (omega arith))

pub sum_neg : (n : ℕ) (f : ℕ → ℤ) → sum n (λ y. neg_ℤ (f y)) ≡ neg_ℤ (sum n f)
unfolding sum
sum_neg zero f = refl
sum_neg (suc n) f =
    let a = sum_neg n f in
    omega (ints, add_law (sum n (λ y. neg_ℤ (f y))) (neg_ℤ (f n)), add_law (sum n f) (f n), neg_law (f n), neg_law (sum n f), neg_law (sum n f +ℤ f n))

-- term by term but for one term, whose difference is then between the sums
pub sum_le_but : (n k : ℕ) (f g : ℕ → ℤ) → k < n → ((y : ℕ) → y < n → (y ≡ k → ⊥) → f y ≤ℤ g y) → (sum n f +ℤ g k) ≤ℤ (sum n g +ℤ f k)
unfolding sum
sum_le_but zero k f g l h = absurd (omega arith)
sum_le_but (suc n) k f g l h = go (ℕ_discrete n k) (λ m. sum_le_but n k f g m (λ y b. h y (omega arith)))
  where
    go : Dec (n ≡ k) → (k < n → (sum n f +ℤ g k) ≤ℤ (sum n g +ℤ f k)) → ((sum n f +ℤ f n) +ℤ g k) ≤ℤ ((sum n g +ℤ g n) +ℤ f k)
    go (yes e) rec =
        let a = sum_le n f g (λ y b. h y (omega arith) (omega arith)) in
        let p : f n ≡ f k = ap f e in
        let q : g n ≡ g k = ap g e in
        omega (ints, add_law (sum n f) (f n), add_law (sum n g) (g n), add_law (sum n f +ℤ f n) (g k), add_law (sum n g +ℤ g n) (f k))
    go (no d) rec =
        let a = rec (omega arith) in
        let b = h n (omega arith) d in
        omega (ints, add_law (sum n f) (g k), add_law (sum n g) (f k), add_law (sum n f) (f n), add_law (sum n g) (g n), add_law (sum n f +ℤ f n) (g k), add_law (sum n g +ℤ g n) (f k))

-- where each term is in a range, so is the sum
pub sum_within : (n k : ℕ) (f : ℕ → ℤ) → ((y : ℕ) → y < n → Within (f y) k) → Within (sum n f) (n * k)
unfolding sum
sum_within zero k f h = record { most = omega arith; least = omega arith }
sum_within (suc n) k f h =
    let a = sum_within n k f (λ y l. h y (omega arith)) in
    let b = h n (omega arith) in
    let m = native.Mathlib.Nat.suc-mul n k in
    record { most = omega (ints, add_law (sum n f) (f n)); least = omega (ints, add_law (sum n f) (f n)) }
