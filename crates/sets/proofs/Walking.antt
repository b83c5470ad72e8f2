-- The sets of a table one after another.
-- Assumes nothing.
use Rattle.std.proofs.Common.{◌≡◌, ap, ◌∙◌, List, ℕ, zero, suc, ◌+◌, ◌-◌, ◌≤◌, ℤ, length, add-one, arith}
use borrow.Author.Tests.{le-ltb}
use Rattle.model.specs.Job.{set_begin, begun}
use Rattle.sets.specs.Sets.{count_at}

-- The next set.
pub begin_next : (ws : List ℤ) (k : ℕ) {at next : ℕ} → at ≡ set_begin ws k → next ≡ at + 3 + count_at ws at → next ≡ set_begin ws (k + 1)
unfolding set_begin
begin_next ws k {at} e f = f ∙ ap (λ z. z + 3 + count_at ws z) e ∙ rw (add-one k)

-- A set begins behind the one before it.
begin_rises : (ws : List ℤ) (k : ℕ) → set_begin ws k ≤ set_begin ws (k + 1)
unfolding set_begin
begin_rises ws k = rw (add-one k) (omega arith)

-- Where the table has ended no more sets begin, of however many.
module _ (ws : List ℤ) (k : ℕ) (ended : length ws ≤ set_begin ws k) where
  past : (d : ℕ) → length ws ≤ set_begin ws (k + d)
  past zero = let e : k + 0 ≡ k = omega arith in rw e ended
  past (suc d) = let n = past d in let r = begin_rises ws (k + d) in let s : k + suc d ≡ k + d + 1 = omega arith in rw s (omega arith)

  none_more : (d : ℕ) → begun ws (k + d) ≡ begun ws k
  unfolding begun
  none_more zero = ap (begun ws) (omega arith)
  none_more (suc d) =
      let s : k + suc d ≡ suc (k + d) = omega arith in
      rw (s, le-ltb (set_begin ws (k + d)) (length ws) (past d)) (none_more d)

  pub begun_all : (n : ℕ) → k ≤ n → begun ws n ≡ begun ws k
  begun_all n l = let e : n ≡ k + (n - k) = omega arith in ap (begun ws) e ∙ none_more (n - k)
