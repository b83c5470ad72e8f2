-- Linear arithmetic over ℤ by `omega`, which reads native natural numbers alone.
--     add-law …       what a sum, a difference, a negation and a product by a natural number say of `up` and `dn`
--     ints            `omega`'s kit with rules for `◌≤ℤ◌`, `◌<ℤ◌`, `≡` on ℤ, the tests `lt_z` and `le_z` and their flags, `SFits` and casts, as hypotheses and as goals: `omega ints`
--     rng32, rng64    the range of a signed value, and that `to_z w (of_z w z)`, which is what a signed local reads as, is z: for `omega`'s list
--     back32, back64  that same as an equation
--     lt32, le32      a test on two signed locals as the test on the numbers. lt_back, le-back and eq-back at any width
--     add_back …      what a sum of two signed locals reads as
-- Assumes nothing.
use mathlib.Core.Path.{◌≡◌, refl, sym, ap, subst, ◌∙◌}
use mathlib.Core.Bool.{Bool, true, false, not, cond}
use Prim.Native.Nat.{ℕ, zero, suc, ◌+◌, ◌-◌, ◌<◌, ◌≤◌, ◌^◌, max}
use native.Mathlib.Omega.{arith}
use borrow.Author.Tests.{eqb-true, eqb-false, eq-eqb, ne_eqb}
use lib.Dec.{T, eqb, ltb, leb, ltb→lt, nltb→le, leb→le, nleb→lt, le→leb, lt→ltb}
use lib.IntN.{ℤ, pos, negsuc, ◌+ℤ◌, ◌-ℤ◌, neg_ℤ, sub_ℕ, nat_abs}
use lib.Signed.{le_z, lt_z, mag, non_neg}
use mir.Val.{Fits, SFits, to_z, of_z, hbits, bits}
use mir.Syntax.{Width, w32, w64}
use mir.Facts.{to_z-of_z}
use Rattle.integers.specs.Range.{up, dn, eq_z}
use Rattle.integers.proofs.Tests.{is_true, is_false}

-- z ≡ u - d
abbrev pub Dif : ℤ → ℕ → ℕ → Type 0
Dif z u d = up z + d ≡ u + dn z

dif_cond : (a b : ℕ) (c : Bool) → (T c → a < b) → (T (not c) → b ≤ a) → Dif (cond c (negsuc (b - suc a)) (pos (a - b))) a b
dif_cond a b true f g = let h : a < b = f tt in omega arith
dif_cond a b false f g = let h : b ≤ a = g tt in omega arith

pub dif_sub : (a b : ℕ) → Dif (sub_ℕ a b) a b
dif_sub a b = dif_cond a b (ltb a b) (ltb→lt a b) (nltb→le a b)

pub add_law : (a b : ℤ) → Dif (a +ℤ b) (up a + up b) (dn a + dn b)
add_law (pos a) (pos b) = omega arith
add_law (pos a) (negsuc b) = omega (arith, dif_sub a (suc b))
add_law (negsuc a) (pos b) = omega (arith, dif_sub b (suc a))
add_law (negsuc a) (negsuc b) = omega arith

pub neg_law : (a : ℤ) → Dif (neg_ℤ a) (dn a) (up a)
neg_law (pos zero) = refl
neg_law (pos (suc n)) = omega arith
neg_law (negsuc n) = omega arith

pub sub_law : (a b : ℤ) → Dif (a -ℤ b) (up a + dn b) (dn a + up b)
sub_law a b = omega (arith, add_law a (neg_ℤ b), neg_law b)

-- ---- the tests, as `omega` rules
pub le_z→ : (a b : ℤ) → T (le_z a b) → up a + dn b ≤ up b + dn a
le_z→ (pos a) (pos b) t = omega (arith, leb→le a b t)
le_z→ (pos a) (negsuc b) t = absurd t
le_z→ (negsuc a) (pos b) t = omega arith
le_z→ (negsuc a) (negsuc b) t = omega (arith, leb→le b a t)

pub lt_z→ : (a b : ℤ) → T (lt_z a b) → up a + dn b < up b + dn a
lt_z→ (pos a) (pos b) t = omega (arith, ltb→lt a b t)
lt_z→ (pos a) (negsuc b) t = absurd t
lt_z→ (negsuc a) (pos b) t = omega arith
lt_z→ (negsuc a) (negsuc b) t = omega (arith, ltb→lt b a t)

pub →le_z : (a b : ℤ) → up a + dn b ≤ up b + dn a → T (le_z a b)
→le_z (pos a) (pos b) h = le→leb a b (omega arith)
→le_z (pos a) (negsuc b) h = omega arith
→le_z (negsuc a) (pos b) h = tt
→le_z (negsuc a) (negsuc b) h = le→leb b a (omega arith)

pub →lt_z : (a b : ℤ) → up a + dn b < up b + dn a → T (lt_z a b)
→lt_z (pos a) (pos b) h = lt→ltb a b (omega arith)
→lt_z (pos a) (negsuc b) h = omega arith
→lt_z (negsuc a) (pos b) h = tt
→lt_z (negsuc a) (negsuc b) h = lt→ltb b a (omega arith)

-- a flag's equation
pub lt_z_true : (a b : ℤ) → lt_z a b ≡ true → up a + dn b < up b + dn a
lt_z_true a b e = lt_z→ a b (subst T (sym e) tt)

pub le_z_true : (a b : ℤ) → le_z a b ≡ true → up a + dn b ≤ up b + dn a
le_z_true a b e = le_z→ a b (subst T (sym e) tt)

dec_lt : (a b : ℕ) → (a < b → ⊥) → b ≤ a
dec_lt a b f = nltb→le a b (lib.Dec.not_T (ltb a b) (λ t. f (ltb→lt a b t)))

dec_le : (a b : ℕ) → (a ≤ b → ⊥) → b < a
dec_le a b f = nleb→lt a b (lib.Dec.not_T (leb a b) (λ t. f (leb→le a b t)))

pub lt_z_false : (a b : ℤ) → lt_z a b ≡ false → up b + dn a ≤ up a + dn b
lt_z_false a b e = dec_lt (up a + dn b) (up b + dn a) (λ h. subst T e (→lt_z a b h))

pub le_z_false : (a b : ℤ) → le_z a b ≡ false → up b + dn a < up a + dn b
le_z_false a b e = dec_le (up a + dn b) (up b + dn a) (λ h. subst T e (→le_z a b h))

pub true_lt_z : (a b : ℤ) → up a + dn b < up b + dn a → lt_z a b ≡ true
true_lt_z a b h = is_true (lt_z a b) (→lt_z a b h)

pub true_le_z : (a b : ℤ) → up a + dn b ≤ up b + dn a → le_z a b ≡ true
true_le_z a b h = is_true (le_z a b) (→le_z a b h)

pub false_lt_z : (a b : ℤ) → up b + dn a ≤ up a + dn b → lt_z a b ≡ false
false_lt_z a b h = is_false (lt_z a b) (λ t. let k : up a + dn b < up b + dn a = lt_z→ a b t in omega arith)

pub false_le_z : (a b : ℤ) → up b + dn a < up a + dn b → le_z a b ≡ false
false_le_z a b h = is_false (le_z a b) (λ t. let k : up a + dn b ≤ up b + dn a = le_z→ a b t in omega arith)

-- equality
pub eqℤ→ : (a b : ℤ) → a ≡ b → up a + dn b ≡ up b + dn a
eqℤ→ a b e = subst (λ (z : ℤ). up a + dn z ≡ up z + dn a) e refl

pub →eqℤ : (a b : ℤ) → up a + dn b ≡ up b + dn a → a ≡ b
→eqℤ (pos a) (pos b) h = ap pos (omega arith)
→eqℤ (pos a) (negsuc b) h = absurd (omega arith)
→eqℤ (negsuc a) (pos b) h = absurd (omega arith)
→eqℤ (negsuc a) (negsuc b) h = ap negsuc (omega arith)

-- ---- the range of a signed width
-- what SFits w z says, with what the machine reads back from z's bits
pub record Rng (w : Width) (z : ℤ) : Type 0 where
  pub below : up z < 2 ^ hbits w
  pub above : dn z ≤ 2 ^ hbits w
  pub up_back : up (to_z w (of_z w z)) ≡ up z
  pub dn_back : dn (to_z w (of_z w z)) ≡ dn z

below' : (z : ℤ) (H : ℕ) → mag z < H → up z < H
below' (pos n) H h = omega arith
below' (negsuc n) H h = omega arith

above' : (z : ℤ) (H : ℕ) → mag z < H → dn z ≤ H
above' (pos n) H h = omega arith
above' (negsuc n) H h = omega arith

pub rng : {w : Width} {z : ℤ} → SFits w z → Rng w z
rng {w} {z} h = record { below = below' z (2 ^ hbits w) h.sfits; above = above' z (2 ^ hbits w) h.sfits; up_back = ap up (to_z-of_z h); dn_back = ap dn (to_z-of_z h) }

-- the same from the bare bound, as a call's `.ok` and a slice read's `.given` state it
pub rng32 : (z : ℤ) → mag z < 2 ^ 31 → Rng w32 z
rng32 z h = rng (record { sfits = h })

pub rng64 : (z : ℤ) → mag z < 2 ^ 63 → Rng w64 z
rng64 z h = rng (record { sfits = h })

pub back32 : (z : ℤ) → mag z < 2 ^ 31 → to_z w32 (of_z w32 z) ≡ z
back32 z h = to_z-of_z {w = w32} (record { sfits = h })

pub back64 : (z : ℤ) → mag z < 2 ^ 63 → to_z w64 (of_z w64 z) ≡ z
back64 z h = to_z-of_z {w = w64} (record { sfits = h })

pub sfits→ : (w : Width) (z : ℤ) → SFits w z → max (suc (up z + up z)) (dn z + dn z) ≤ 2 ^ hbits w + (up z + dn z)
sfits→ w z h = omega (arith, rng h)

pub →sfits : (w : Width) (z : ℤ) → max (suc (up z + up z)) (dn z + dn z) ≤ 2 ^ hbits w + (up z + dn z) → SFits w z
→sfits w (pos n) h = record { sfits = omega arith }
→sfits w (negsuc n) h = record { sfits = omega arith }

-- at a sum and a difference
pub →sfits_add : (w : Width) (a b : ℤ) → max (suc (up a + up b + (up a + up b))) (dn a + dn b + (dn a + dn b)) ≤ 2 ^ hbits w + (up a + up b + (dn a + dn b)) → SFits w (a +ℤ b)
→sfits_add w a b h = →sfits w (a +ℤ b) (omega (arith, add_law a b))

pub →sfits_sub : (w : Width) (a b : ℤ) → max (suc (up a + dn b + (up a + dn b))) (dn a + up b + (dn a + up b)) ≤ 2 ^ hbits w + (up a + dn b + (dn a + up b)) → SFits w (a -ℤ b)
→sfits_sub w a b h = →sfits w (a -ℤ b) (omega (arith, sub_law a b))

-- ---- casts to an unsigned type
pub non_neg→ : (z : ℤ) → T (non_neg z) → nat_abs z + dn z ≡ up z
non_neg→ (pos n) t = omega arith
non_neg→ (negsuc n) t = absurd t

pub →non_neg : (z : ℤ) → dn z ≤ up z → T (non_neg z)
→non_neg (pos n) h = tt
→non_neg (negsuc n) h = omega arith

nat_abs_is : (z : ℤ) → nat_abs z ≡ up z + dn z
nat_abs_is (pos n) = omega arith
nat_abs_is (negsuc n) = omega arith

pub →fits_nat_abs : (w : Width) (z : ℤ) → up z + dn z < 2 ^ bits w → Fits w (nat_abs z)
→fits_nat_abs w z h = record { fits = omega (arith, nat_abs_is z) }

-- the bare bound as the record
pub sfits32 : (z : ℤ) → mag z < 2 ^ 31 → SFits w32 z
sfits32 z h = record { sfits = h }

-- a test on two signed locals, which reads their bits, is the test on the numbers
pub lt_back : {w : Width} {a b : ℤ} {t : Bool} → SFits w a → SFits w b → lt_z (to_z w (of_z w a)) (to_z w (of_z w b)) ≡ t → lt_z a b ≡ t
lt_back f g e = rw (to_z-of_z f, to_z-of_z g) at e

pub le_back : {w : Width} {a b : ℤ} {t : Bool} → SFits w a → SFits w b → le_z (to_z w (of_z w a)) (to_z w (of_z w b)) ≡ t → le_z a b ≡ t
le_back f g e = rw (to_z-of_z f, to_z-of_z g) at e

pub le32 : (a b : ℤ) {t : Bool} → mag a < 2 ^ 31 → mag b < 2 ^ 31 → le_z (to_z w32 (of_z w32 a)) (to_z w32 (of_z w32 b)) ≡ t → le_z a b ≡ t
le32 a b f g e = le_back (sfits32 a f) (sfits32 b g) e

-- what a sum of two signed locals reads as
pub add_back : {w : Width} {a b : ℤ} → SFits w a → SFits w b → SFits w (to_z w (of_z w a) +ℤ to_z w (of_z w b)) → to_z w (of_z w (to_z w (of_z w a) +ℤ to_z w (of_z w b))) ≡ a +ℤ b
add_back f g h = to_z-of_z h ∙ rw (to_z-of_z f, to_z-of_z g)

pub sub_back : {w : Width} {a b : ℤ} → SFits w a → SFits w b → SFits w (to_z w (of_z w a) -ℤ to_z w (of_z w b)) → to_z w (of_z w (to_z w (of_z w a) -ℤ to_z w (of_z w b))) ≡ a -ℤ b
sub_back f g h = to_z-of_z h ∙ rw (to_z-of_z f, to_z-of_z g)

-- a value by cases on a test
pub if_yes {ℓ} : {A : Type ℓ} (t : Bool) (x y : A) → t ≡ true → x ≡ cond t x y
if_yes t x y e = rw e

pub if_no {ℓ} : {A : Type ℓ} (t : Bool) (x y : A) → t ≡ false → y ≡ cond t x y
if_no t x y e = rw e

-- ---- division by a positive number: what `/` and `%` ask
-- ---- the same at a sum or a difference, so that its law need not be listed. A rule is tried in the order of the set, and the first that fits is taken: these stand first
pub eqℤ_add→ : (z a b : ℤ) → z ≡ a +ℤ b → up z + (dn a + dn b) ≡ up a + up b + dn z
eqℤ_add→ z a b e = omega (arith, eqℤ→ z (a +ℤ b) e, add_law a b)

pub eqℤ_sub→ : (z a b : ℤ) → z ≡ a -ℤ b → up z + (dn a + up b) ≡ up a + dn b + dn z
eqℤ_sub→ z a b e = omega (arith, eqℤ→ z (a -ℤ b) e, sub_law a b)

pub →eqℤ_add : (z a b : ℤ) → up z + (dn a + dn b) ≡ up a + up b + dn z → z ≡ a +ℤ b
→eqℤ_add z a b h = →eqℤ z (a +ℤ b) (omega (arith, add_law a b))

pub →eqℤ_sub : (z a b : ℤ) → up z + (dn a + up b) ≡ up a + dn b + dn z → z ≡ a -ℤ b
→eqℤ_sub z a b h = →eqℤ z (a -ℤ b) (omega (arith, sub_law a b))

pub le_z_add→ : (a b z : ℤ) → T (le_z (a +ℤ b) z) → up a + up b + dn z ≤ up z + (dn a + dn b)
le_z_add→ a b z t = omega (arith, le_z→ (a +ℤ b) z t, add_law a b)

pub le_z→add : (z a b : ℤ) → T (le_z z (a +ℤ b)) → up z + (dn a + dn b) ≤ up a + up b + dn z
le_z→add z a b t = omega (arith, le_z→ z (a +ℤ b) t, add_law a b)

pub →le_z_add : (a b z : ℤ) → up a + up b + dn z ≤ up z + (dn a + dn b) → T (le_z (a +ℤ b) z)
→le_z_add a b z h = →le_z (a +ℤ b) z (omega (arith, add_law a b))

pub →le_z_with_add : (z a b : ℤ) → up z + (dn a + dn b) ≤ up a + up b + dn z → T (le_z z (a +ℤ b))
→le_z_with_add z a b h = →le_z z (a +ℤ b) (omega (arith, add_law a b))

-- ---- `==` on signed locals, which compares their bits
eqb_iff : (a b m n : ℕ) → (a ≡ b → m ≡ n) → (m ≡ n → a ≡ b) → eqb a b ≡ eqb m n
eqb_iff a b m n f g = by_case (eqb m n) (eqb-true m n) (eqb-false m n)
  where
    by_case : (t : Bool) → (t ≡ true → m ≡ n) → (t ≡ false → m ≡ n → ⊥) → eqb a b ≡ t
    by_case true p q = eq-eqb a b (g (p refl))
    by_case false p q = ne_eqb a b (λ e. q refl (f e))

pub eq32 : (a b : ℤ) → mag a < 2 ^ 31 → mag b < 2 ^ 31 → eqb (of_z w32 a) (of_z w32 b) ≡ eq_z a b
eq32 (pos a) (pos b) f g = refl
eq32 (pos a) (negsuc b) f g = ne_eqb a (4294967296 - suc b) (λ e. omega arith)
eq32 (negsuc a) (pos b) f g = ne_eqb (4294967296 - suc a) b (λ e. omega arith)
eq32 (negsuc a) (negsuc b) f g = eqb_iff (4294967296 - suc a) (4294967296 - suc b) a b (λ e. omega arith) (λ e. omega arith)

pub eq_z→ : (a b : ℤ) → eq_z a b ≡ true → a ≡ b
eq_z→ (pos a) (pos b) e = ap pos (eqb-true a b e)
eq_z→ (pos a) (negsuc b) e = absurd (subst T (sym e) tt)
eq_z→ (negsuc a) (pos b) e = absurd (subst T (sym e) tt)
eq_z→ (negsuc a) (negsuc b) e = ap negsuc (eqb-true a b e)

-- ---- `-x`, which is 0 - x
pub neg_is : (a : ℤ) → pos 0 -ℤ a ≡ neg_ℤ a
neg_is a = →eqℤ (pos 0 -ℤ a) (neg_ℤ a) (omega (arith, sub_law (pos 0) a, neg_law a))

pub ruleset ints = (arith, le_z_add→, le_z→add, le_z→, lt_z→, →le_z_add, →le_z_with_add, →le_z, →lt_z, lt_z_true, le_z_true, lt_z_false, le_z_false, true_lt_z, true_le_z, false_lt_z, false_le_z, eqℤ_sub→, eqℤ_add→, eqℤ→, →eqℤ_sub, →eqℤ_add, →eqℤ, sfits→, →sfits_sub, →sfits_add, →sfits, non_neg→, →non_neg, →fits_nat_abs)
