-- A test of the first so many numbers, asked by `all` over a range.
-- Assumes nothing.
use Rattle.std.proofs.Common.{◌≡◌, refl, ap, ◌∙◌, Bool, true, false, ◌&&◌, List, [], ◌∷◌, ◌++◌, ℕ, zero, suc, ◌+◌, arith, Option}
use Rattle.std.specs.Option.{MatchOption}
use Rattle.std.specs.Fn.{Called}
use Rattle.std.specs.Iterator.{YieldsThen}
use Rattle.std.specs.List.{FoldsTo, list_all, range_with_len}
use Rattle.std.specs.declared.ops.Range.{Range}
use Rattle.std.proofs.iter.Yields.{nat_range_steps}
use Rattle.std.proofs.lemmas.Iterator.{YieldsList-from_range}
use Rattle.std.proofs.lemmas.Iterator.Search.{all_from_yields_List}
use Rattle.std.proofs.lemmas.List.Folds.{list_all-append}
use denote.Param.Members.{Mut}
use Rattle.model.specs.Job.{every}

range_more : (a n m : ℕ) → a + n ≡ m → range_with_len a (suc n) ≡ range_with_len a n ++ m ∷ []
range_more a zero m e = ap (λ k. k ∷ []) (omega (arith, e))
range_more a (suc n) m e = ap (λ xs. a ∷ xs) (range_more (a + 1) n m (omega (arith, e)))

and_true : (a : Bool) → (a && true) ≡ a
and_true true = refl
and_true false = refl

every_all : (n : ℕ) (p : ℕ → Bool) → list_all p (range_with_len 0 n) ≡ every n p
unfolding every
every_all zero p = refl
every_all (suc n) p =
    ap (list_all p) (range_more 0 n n (omega arith)) ∙ list_all-append p (range_with_len 0 n) (n ∷ []) ∙ rw (every_all n p, and_true (p n))

-- What `all` answers over 0..n, where the closure tells p.
pub all_below : {F : Type 0} {g : Mut F (ℕ × Unit {0}) Bool} (n : ℕ) (p : ℕ → Bool) (u : Range ℕ) (f : F) (r : Bool)
    → (xs : List ℕ)
    × (o : Option ℕ)
    × (j : F)
    × YieldsThen nat_range_steps (record { start = 0; end = n }) xs o u
    × FoldsTo (λ q x t. Called g q (x, tt) true t) f xs j
    × MatchOption o (r ≡ true) (λ x. (r ≡ false) × ((h : F) × Called g j (x, tt) false h))
    → ((x : ℕ) (b : Bool) (q : F) → Called g f (x, tt) b q → (q ≡ f) × (b ≡ p x))
    → r ≡ every n p
all_below n p u f r ran h =
    all_from_yields_List p u f r ran (YieldsList-from_range 0 n n refl (omega arith)) h ∙ every_all n p
