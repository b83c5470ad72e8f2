-- A whole number as a difference of two natural numbers, which `omega` reads; ranges around 0; the test for equality.
use Rattle.std.specs.Prelude.{Bool, false, eqb, ℕ, suc, ◌+◌, ◌≤◌, ℤ, pos, negsuc}

-- z is `up z - dn z`, and one of the two is 0
abbrev pub up : ℤ → ℕ
up (pos n) = n
up (negsuc n) = 0

abbrev pub dn : ℤ → ℕ
dn (pos n) = 0
dn (negsuc n) = suc n

-- z is at most n from 0
pub record Within (z : ℤ) (n : ℕ) : Type 0 where
  pub most : up z ≤ n + dn z
  pub least : dn z ≤ n + up z

abbrev pub eq_z : ℤ → ℤ → Bool
eq_z (pos a) (pos b) = eqb a b
eq_z (pos a) (negsuc b) = false
eq_z (negsuc a) (pos b) = false
eq_z (negsuc a) (negsuc b) = eqb a b
