-- A question to each of i, .., n − 1 where i is the next: all asked, the answer is no, the answer is yes.
-- Assumes nothing.
use Rattle.std.proofs.Common.{◌≡◌, Bool, true, false, ℕ, zero, suc, ◌+◌, ◌-◌, ◌≤◌, ◌<◌, arith}
use Rattle.model.specs.Questions.{Check, pass, refuse, each}

module _ (q : ℕ) (ok : ℕ → Bool) (i n : ℕ) {r : Check} where
  pub each_end : n ≤ i → each q ok i (n - i) ≡ r → pass ≡ r
  unfolding each
  each_end h e = let k : n - i ≡ zero = omega arith in rw k at e

  pub each_no : {t : Bool} → i < n → t ≡ ok i → t ≡ false → each q ok i (n - i) ≡ r → refuse q i ≡ r
  unfolding each
  each_no h p f e = let k : n - i ≡ suc (n - (i + 1)) = omega arith in let e' = rw k at e in cc

  pub each_yes : {t : Bool} → i < n → t ≡ ok i → t ≡ true → each q ok i (n - i) ≡ r → each q ok (i + 1) (n - (i + 1)) ≡ r
  unfolding each
  each_yes h p f e = let k : n - i ≡ suc (n - (i + 1)) = omega arith in let e' = rw k at e in cc
