-- Words appended to those of a buffer.
use Rattle.std.specs.Prelude.{◌≡◌, List, ◌++◌, ℕ, ◌+◌, ℤ, length, take, drop}

-- Words were appended to the first words of a buffer, up to a new place; the words after it keep what they held.
pub record Appended (at : ℕ) (words before after : List ℤ) (end : ℕ) : Type 0 where
  pub is : take end after ≡ take at before ++ words
  pub rest : drop end after ≡ drop end before
  pub same : length after ≡ length before
  pub place : end ≡ at + length words
