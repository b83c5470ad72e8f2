-- A set's members added up as the loop of `totals::total` adds them, and the set's numbers in range.
-- Assumes nothing.
use mathlib.Core.Path.{◌≡◌, refl, sym, ap, subst, ◌∙◌}
use mathlib.Core.Bool.{Bool, true, false}
use mathlib.Core.List.{List, [], ◌∷◌, ◌++◌}
use Prim.Native.Nat.{ℕ, zero, suc, ◌+◌, ◌<◌, ◌≤◌}
use native.Mathlib.Omega.{arith}
use mathlib.Core.Bool.{or-false}
use Rattle.std.proofs.Common.{add-zero, zero-add}
use Rattle.std.specs.List.{list_any, range_with_len}
use Rattle.std.proofs.lemmas.List.Folds.{list_any-append}
use lib.Dec.{T, eqb, eqb_refl}
use lib.IntN.{ℤ, nat_abs}
use Rattle.integers.specs.Range.{Within}
use Rattle.integers.specs.Sum.{sum}
use Rattle.integers.proofs.Linear.{ints, neg_law}
use Rattle.integers.proofs.Sums.{sum_within}
use Rattle.model.specs.Job.{any, h_min, h_max, Windows, events, in_set, set_size, member, set_begin, member_word, Job as Call}
use Rattle.model.specs.Standing.{Ranged, SaneSet}
use Rattle.model.specs.View.{side}
use Rattle.model.proofs.Totals.{few_members}
use Rattle.model.proofs.Premises.{any_in}
use Rattle.sets.specs.Sets.{word_at, count_at}
use Rattle.totals.specs.Totals.{event_at, limit_at, Listed, Adds, SetOf}

-- ---- ranges

pub side_ends : (m : Bool) (W : Windows) (y : ℕ) → Within (W y h_min) 9999 → Within (W y h_max) 9999 → Within (side m W y h_max) 9999
side_ends true W y a b = omega (ints, neg_law (W y h_min))
side_ends false W y a b = b

module _ {ws : List ℤ} {at : ℕ} {W : Windows} (a : Adds ws at W) where
  pub side_within : (m : Bool) (i : ℕ) → i < count_at ws at → Within (side m W (event_at ws at i) h_max) 9999
  side_within m i l = side_ends m W (event_at ws at i) (a.low i l) (a.high i l)

  -- The first k of them.
  pub part_within : (m : Bool) (k : ℕ) → k ≤ count_at ws at → Within (sum k (λ i. side m W (event_at ws at i) h_max)) 639936
  part_within m k l =
      let s = sum_within k 9999 (λ i. side m W (event_at ws at i) h_max) (λ i n. side_within m i (omega arith)) in
      let few = a.few in
      record { most = omega arith; least = omega arith }

-- ---- a set that the questions let pass

listed_at : {n : ℕ} {ws : List ℤ} {g : ℕ} → SaneSet n ws g → Listed ws (set_begin ws g)
unfolding set_begin
listed_at s = record { inside = s.inside; sign = s.member_sign }

pub adds_at : {n : ℕ} {ws : List ℤ} {g : ℕ} {W : Windows} → SaneSet n ws g → Ranged n W → Adds ws (set_begin ws g) W
adds_at {n} {ws} {g} {W} s r =
    let few = few_members s in
    record {
      listed = listed_at s;
      few = omega (arith, r.few);
      least_range = s.least_range;
      most_range = s.most_range;
      real = λ i l. omega (arith, s.member_real i l, r.few);
      low = λ i l. r.range (nat_abs (member_word ws g i)) (s.member_real i l) h_min;
      high = λ i l. r.range (nat_abs (member_word ws g i)) (s.member_real i l) h_max;
    }

-- Its members can be read, and added up.
pub reads : {n : ℕ} {ws : List ℤ} {at g : ℕ} → at ≡ set_begin ws g → SaneSet n ws g → Listed ws at
reads {n} {ws} e s = subst (Listed ws) (sym e) (listed_at s)

pub adds : {ws : List ℤ} {at : ℕ} {j : Call} {g : ℕ} {W : Windows} → SetOf ws at j g → Ranged (events j) W → Adds ws at W
adds {ws} {at} {j} {g} {W} s r = subst (λ at. Adds ws at W) (sym s.begins) (adds_at s.sane r)

-- ---- a member looked for

-- A walk over the first n numbers.
range_more : (a n : ℕ) → range_with_len a (suc n) ≡ range_with_len a n ++ (a + n) ∷ []
range_more a zero = rw add-zero
range_more a (suc n) = let e : a + suc n ≡ a + 1 + n = omega arith in rw e (ap (λ xs. a ∷ xs) (range_more (a + 1) n))

pub any_listed : (p : ℕ → Bool) (n : ℕ) → list_any p (range_with_len 0 n) ≡ any n p
unfolding any
any_listed p zero = refl
any_listed p (suc n) = ap (list_any p) (range_more 0 n) ∙ list_any-append p (range_with_len 0 n) ((0 + n) ∷ []) ∙ rw (any_listed p n, zero-add n, or-false (p n))

-- What is listed is a member.
pub listed : (j : Call) (g i : ℕ) → i < set_size j g → T (in_set j g (member j g i))
listed j g i l = any_in (set_size j g) i (λ k. eqb (member j g k) (member j g i)) l (eqb_refl (member j g i))

-- ---- the limit on a side

pub limit_within : {ws : List ℤ} {at : ℕ} {W : Windows} (m : Bool) → Adds ws at W → Within (limit_at m ws at) 639936
limit_within {ws} {at} true a = let h = a.most_range in omega (ints, neg_law (word_at ws at 1))
limit_within false a = a.least_range
