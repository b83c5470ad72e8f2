-- Rules 17 and 18, over windows that show a set's members only: the sum of the others, and how far it bounds a set's sum.
-- Assumes nothing.
use mathlib.Core.Path.{◌≡◌, refl, sym, ap, ap₂, subst, ◌∙◌}
use mathlib.Core.Bool.{Bool, true, false, not, cond, ◌||◌, or-true, or-false}
use mathlib.Core.List.{List}
use Prim.Native.Nat.{ℕ, zero, suc, ◌≤◌, ◌<◌}
use native.Mathlib.Omega.{arith}
use lib.Dec.{T, eqb, eqb→eq, eqb_refl}
use lib.IntN.{ℤ, pos, nat_abs, neg_ℤ, ◌+ℤ◌}
use lib.Signed.{◌≤ℤ◌}
use Rattle.integers.specs.Sum.{sum}
use Rattle.integers.proofs.Linear.{ints, add_law, neg_law}
use Rattle.integers.proofs.Sums.{sum_le, sum_le_but, sum_ext, sum_neg}
use Rattle.integers.proofs.Tests.{is_true, is_false, or_left, or_right}
use Rattle.model.specs.Job.{h_min, Windows, Inside, h_max, consumes, produces, Job, Schedule, Legal, sets, events, in_set, value, set_sum, set_most, any, member_count, member_word}
use Rattle.model.specs.Standing.{SaneSet}
use Rattle.model.specs.View.{look, side_end}
use Rattle.model.specs.Rules.{others, total_limit}
use Rattle.model.specs.Facts.{total_cites}
use Rattle.model.proofs.Support.{Opened}
use Rattle.model.proofs.Levels.{same_producer}
use Rattle.model.proofs.Premises.{Keeps}
use Rattle.model.proofs.Sides.{shown_meets, neg_le}

-- What one of the others adds.
other_same : (q : Bool) (a : ℤ) → (T q → ⊥) → a ≡ cond q (pos 0) a
other_same true a f = absurd (f tt)
other_same false a f = refl

other_le : (q : Bool) (a b : ℤ) → (T (not q) → a ≤ℤ b) → cond q (pos 0) a ≤ℤ cond q (pos 0) b
other_le true a b f = omega ints
other_le false a b f = f tt

other_in : (q : Bool) (a b : ℤ) → (T q → ⊥) → a ≤ℤ b → a ≤ℤ cond q (pos 0) b
other_in true a b f l = absurd (f tt)
other_in false a b f l = l

-- Sums that differ in one term.
pub sum_but : (n k : ℕ) (f g : ℕ → ℤ) → k < n → ((y : ℕ) → y < n → (y ≡ k → ⊥) → f y ≡ g y) → sum n f +ℤ g k ≡ sum n g +ℤ f k
sum_but n k f g l h =
    let a = sum_le_but n k f g l (λ y b d. let e = h y b d in omega ints) in
    let b = sum_le_but n k g f l (λ y b d. let e = h y b d in omega ints) in
    omega (ints, add_law (sum n f) (g k), add_law (sum n g) (f k))

-- The sum of all is that of the others and one's own: so code adds a set up once.
pub others_and_own : (n : ℕ) (W : Windows) (y : ℕ) → y < n → others n W y +ℤ W y h_max ≡ sum n (λ z. W z h_max)
unfolding others
others_and_own n W y l =
    let f : ℕ → ℤ = λ z. W z h_max in
    let g : ℕ → ℤ = λ z. cond (eqb z y) (pos 0) (W z h_max) in
    let own : g y ≡ pos 0 = ap (λ b. cond b (pos 0) (W y h_max)) (is_true (eqb y y) (eqb_refl y)) in
    let a = sum_but n y f g l (λ z b d. other_same (eqb z y) (W z h_max) (λ t. d (eqb→eq z y t))) in
    omega (ints, add_law (sum n f) (g y), add_law (sum n g) (W y h_max))

-- A schedule's sum is at most the others of the windows that it is in, with its own amount of y.
pub others_bound : (n : ℕ) {W x : Windows} → Inside n W x → (y : ℕ) → y < n → sum n (λ z. x z h_max) ≤ℤ (others n W y +ℤ x y h_max)
unfolding others
others_bound n {W} {x} i y l =
    let f : ℕ → ℤ = λ z. x z h_max in
    let g : ℕ → ℤ = λ z. cond (eqb z y) (pos 0) (W z h_max) in
    let a = sum_le_but n y f g l (λ z b d. other_in (eqb z y) (x z h_max) (W z h_max) (λ t. d (eqb→eq z y t)) (record { le = i.inside z b h_max })) in
    let own : g y ≡ pos 0 = ap (λ b. cond b (pos 0) (W y h_max)) (is_true (eqb y y) (eqb_refl y)) in
    omega (ints, add_law (sum n f) (g y), add_law (sum n g) (x y h_max))

-- Wider windows of the same kinds that keep what is quoted give no higher sum of the others.
pub others_backed : (n : ℕ) {W X : Windows} → Opened n W X → (y : ℕ) (f : Bool) → ((z : ℕ) → z < n → T (total_cites W y f z h_max) → X z h_max ≤ℤ W z h_max) → others n X y ≤ℤ others n W y
unfolding others
others_backed n {W} {X} o y f kept =
    sum_le n (λ z. cond (eqb z y) (pos 0) (X z h_max)) (λ z. cond (eqb z y) (pos 0) (W z h_max)) (λ z l. other_le (eqb z y) (X z h_max) (W z h_max) (one z l))
  where
    quoted : (z : ℕ) → T (not (eqb z y)) → T (consumes (W z h_max) || produces (W z h_max)) → T (total_cites W y f z h_max)
    quoted z q t = go (eqb z y) q
      where
        go : (b : Bool) → T (not b) → T (cond b f (consumes (W z h_max) || produces (W z h_max)))
        go true n = absurd n
        go false n = t

    one : (z : ℕ) → z < n → T (not (eqb z y)) → X z h_max ≤ℤ W z h_max
    one z l q = go (produces (W z h_max)) (consumes (W z h_max)) refl refl
      where
        go : (p c : Bool) → produces (W z h_max) ≡ p → consumes (W z h_max) ≡ c → X z h_max ≤ℤ W z h_max
        go true c e d = kept z l (quoted z q (or_right (consumes (W z h_max)) (produces (W z h_max)) (rw e tt)))
        go false true e d = kept z l (quoted z q (or_left (consumes (W z h_max)) (produces (W z h_max)) (rw d tt)))
        go false false e d =
            let a : produces (X z h_max) ≡ false = sym (same_producer o.wider o.signs o.heights z l) ∙ e in
            omega ints

-- A set's sum on a side.
turned : (c : Bool) (h : ℤ) → cond c (neg_ℤ h) (pos 0) ≡ neg_ℤ (cond c h (pos 0))
turned true h = refl
turned false h = refl

pub total_low : (m : Bool) {j : Job} {W : Windows} {p : Schedule} → Legal j W p → (g : ℕ) → g < sets j → total_limit m j g ≤ℤ sum (events j) (λ z. look (in_set j g) m (value p) z h_max)
unfolding set_sum
total_low false h g l = h.least_kept g l
total_low true {j} {W} {p} h g l =
    let f : ℕ → ℤ = λ z. cond (in_set j g z) (p.height z) (pos 0) in
    let a = h.most_kept g l in
    let b = sum_ext (events j) (λ z. look (in_set j g) true (value p) z h_max) (λ z. neg_ℤ (f z)) (λ z l. turned (in_set j g z) (p.height z)) in
    let c = sum_neg (events j) f in
    omega (ints, neg_law (sum (events j) f), neg_law (set_most j g))

-- The facts of a set's slip, as they are seen.
pub total_kept : (own : ℕ → Bool) (m : Bool) (n : ℕ) (W X : Windows) (y : ℕ) (f : Bool) → Keeps n (λ z k. total_cites (look own m W) y f z (side_end m k)) W X → (z : ℕ) → z < n → T (total_cites (look own m W) y f z h_max) → look own m X z h_max ≤ℤ look own m W z h_max
total_kept own false n W X y f h z l t = record { le = shown_meets (own z) h_max (W z h_max) (X z h_max) (h z l h_max t) }
total_kept own true n W X y f h z l t = record { le = shown_meets (own z) h_max (neg_ℤ (W z h_min)) (neg_ℤ (X z h_min)) (subst T (sym (neg_le (X z h_min) (W z h_min))) (h z l h_min t)) }

-- ---- members as listed

-- The first k of a list m of events, none of them twice: added as listed they come to the sum over all events that are among them.
module _ (n : ℕ) (m : ℕ → ℕ) (f : ℕ → ℤ) where
  abbrev among : ℕ → ℕ → Bool
  among k y = any k (λ i. eqb (m i) y)

  abbrev taken : ℕ → ℕ → ℤ
  taken k y = cond (among k y) (f y) (pos 0)

  not_among : (k : ℕ) (y : ℕ) → ((i : ℕ) → i < k → m i ≡ y → ⊥) → among k y ≡ false
  unfolding any
  not_among zero y h = refl
  not_among (suc k) y h =
      let a = not_among k y (λ i l. h i (omega arith)) in
      let b = is_false (eqb (m k) y) (λ t. h k (omega arith) (eqb→eq (m k) y t)) in
      ap₂ ◌||◌ a b

  one_more : (k : ℕ) → m k < n → ((i : ℕ) → i < k → m i ≡ m k → ⊥) → sum n (taken (suc k)) ≡ sum n (taken k) +ℤ f (m k)
  unfolding any
  one_more k l d =
      let g = taken k in
      let h = taken (suc k) in
      let off : (y : ℕ) → (y ≡ m k → ⊥) → g y ≡ h y = λ y e. ap (λ b. cond b (f y) (pos 0)) (sym (ap (λ b. among k y || b) (is_false (eqb (m k) y) (λ t. e (sym (eqb→eq (m k) y t)))) ∙ or-false (among k y))) in
      let i = sum_le_but n (m k) g h l (λ y b e. let o = off y e in omega ints) in
      let j = sum_le_but n (m k) h g l (λ y b e. let o = off y e in omega ints) in
      let gm : g (m k) ≡ pos 0 = ap (λ b. cond b (f (m k)) (pos 0)) (not_among k (m k) d) in
      let hm : h (m k) ≡ f (m k) = ap (λ b. cond b (f (m k)) (pos 0)) (ap (λ b. among k (m k) || b) (is_true (eqb (m k) (m k)) (eqb_refl (m k))) ∙ or-true (among k (m k))) in
      omega (ints, add_law (sum n g) (h (m k)), add_law (sum n h) (g (m k)), add_law (sum n g) (f (m k)))

  pub listed_sum : (k : ℕ) → ((i : ℕ) → i < k → m i < n) → ((i l : ℕ) → l < i → i < k → m l ≡ m i → ⊥) → sum k (λ i. f (m i)) ≡ sum n (taken k)
  unfolding sum any
  listed_sum zero real once = none_taken n
    where
      none_taken : (n : ℕ) → pos 0 ≡ sum n (λ y. pos 0)
      none_taken zero = refl
      none_taken (suc n) = let a = none_taken n in omega (ints, add_law (sum n (λ y. pos 0)) (pos 0))
  listed_sum (suc k) real once =
      ap (λ x. x +ℤ f (m k)) (listed_sum k (λ i l. real i (omega arith)) (λ i l o p. once i l o (omega arith)))
      ∙ sym (one_more k (real k (omega arith)) (λ i l. once k i l (omega arith)))

-- The members of a sane set added as listed come to its sum over all events.
pub members_sum : {n : ℕ} {ws : List ℤ} {g : ℕ} → SaneSet n ws g → (f : ℕ → ℤ) →
    sum (member_count ws g) (λ i. f (nat_abs (member_word ws g i))) ≡ sum n (λ y. cond (any (member_count ws g) (λ i. eqb (nat_abs (member_word ws g i)) y)) (f y) (pos 0))
members_sum {n} {ws} {g} sane f =
    listed_sum n (λ i. nat_abs (member_word ws g i)) f (member_count ws g) sane.member_real (λ i k o l. sane.member_distinct i k l o)

ones : (n : ℕ) → sum n (λ y. pos 1) ≡ pos n
unfolding sum
ones zero = refl
ones (suc n) = let a = ones n in omega (ints, add_law (sum n (λ y. pos 1)) (pos 1))

-- So it has no more members than there are events.
pub few_members : {n : ℕ} {ws : List ℤ} {g : ℕ} → SaneSet n ws g → member_count ws g ≤ n
few_members {n} {ws} {g} sane =
    let own : ℕ → Bool = λ y. any (member_count ws g) (λ i. eqb (nat_abs (member_word ws g i)) y) in
    let a = members_sum sane (λ y. pos 1) in
    let b = sum_le n (λ y. cond (own y) (pos 1) (pos 0)) (λ y. pos 1) (λ y l. at_most (own y)) in
    let c = ones n in
    let d = ones (member_count ws g) in
    let e : pos (member_count ws g) ≤ℤ pos n = omega ints in
    omega (arith, ints)
  where
    at_most : (b : Bool) → cond b (pos 1) (pos 0) ≤ℤ pos 1
    at_most true = omega ints
    at_most false = omega ints
