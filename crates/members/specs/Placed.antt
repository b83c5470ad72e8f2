-- The sets of a job: which words are let pass, where a set stands in them, its members.
use Rattle.std.specs.Prelude.{◌≡◌, Bool, List, ℕ, ◌≤◌, ◌<◌, eqb, ℤ, nat_abs}
use Rattle.model.specs.Job.{set_begin, begun, member_count, member_word, any}
use Rattle.model.specs.Standing.{SaneSet}

-- The set words of a job of n events that questions 31 to 33 let pass.
pub record SaneSets (n : ℕ) (ws : List ℤ) : Type 0 where
  pub few : begun ws 17 ≤ 16
  pub set_sane : (g : ℕ) → g < begun ws 17 → SaneSet n ws g

-- Set g stands in them, from a word on.
pub record Placed (n : ℕ) (ws : List ℤ) (g at : ℕ) : Type 0 where
  pub there : g < begun ws 17
  pub few : begun ws 17 ≤ 16
  pub begins : at ≡ set_begin ws g
  pub sane : SaneSet n ws g

-- y is a member of set g.
abbrev pub is_member : List ℤ → ℕ → ℕ → Bool
is_member ws g y = any (member_count ws g) (λ i. eqb (nat_abs (member_word ws g i)) y)
