-- The sets of a table walked from its first word on.
-- Assumes nothing.
use mathlib.Core.Path.{◌≡◌, refl, ap}
use mathlib.Core.List.{List}
use mathlib.Core.Bool.{Bool, true, false, cond}
use Prim.Native.Nat.{ℕ, zero, suc, ◌+◌, ◌-◌, ◌*◌, ◌≤◌, ◌<◌}
use borrow.Author.Tests.{lt-ltb}
use Rattle.std.proofs.Common.{add-one, ltb, length}
use native.Mathlib.Omega.{arith}
use lib.IntN.{ℤ}
use Rattle.model.specs.Job.{set_begin, begun, member_count}
use Rattle.model.proofs.Questions.{begun_most}
use Rattle.model.proofs.Totals.{few_members}
use Rattle.sets.specs.Sets.{count_at}
use Rattle.sets.proofs.Walking.{begin_next}
use Rattle.members.specs.Placed.{SaneSets}

-- The place of set g.
pub record Reached (ws : List ℤ) (at g : ℕ) : Type 0 where
  pub begins : at ≡ set_begin ws g
  pub near : at ≤ 67 * g

pub reached_first : (ws : List ℤ) → Reached ws 0 0
unfolding set_begin
reached_first ws = record { begins = refl; near = omega arith }

-- More sets begin among more.
begun_grows : (ws : List ℤ) (k : ℕ) → begun ws k ≤ begun ws (suc k)
unfolding begun
begun_grows ws k = go (ltb (set_begin ws k) (length ws))
  where
    go : (b : Bool) → begun ws k ≤ cond b (suc k) (begun ws k)
    go true = omega (arith, begun_most ws k)
    go false = omega arith

begun_rises : (ws : List ℤ) (k d : ℕ) → begun ws k ≤ begun ws (k + d)
begun_rises ws k zero = let e : k + 0 ≡ k = omega arith in rw e (omega arith)
begun_rises ws k (suc d) =
    let s : k + suc d ≡ suc (k + d) = omega arith in rw s (omega (arith, begun_rises ws k d, begun_grows ws (k + d)))

-- A set that begins in the table is counted, and it is one of those that do.
module _ {ws : List ℤ} {at g : ℕ} (r : Reached ws at g) (so_far : begun ws g ≡ g) (inside : at < length ws) where
  pub begun_more : begun ws (g + 1) ≡ g + 1
  unfolding begun
  begun_more =
      let i : set_begin ws g < length ws = rw r.begins at inside in
      rw (add-one g, lt-ltb (set_begin ws g) (length ws) i) refl

  pub reached_there : g < 17 → g < begun ws 17
  reached_there l =
      let b = begun_more in
      let e : g + 1 + (16 - g) ≡ 17 = omega arith in
      let m = rw e at (begun_rises ws (g + 1) (16 - g)) in
      omega arith

module _ {n : ℕ} {ws : List ℤ} (few : n ≤ 64) (s : SaneSets n ws) {at g : ℕ} (r : Reached ws at g) (there : g < begun ws 17) where
  few_here : count_at ws at ≤ 64
  few_here =
      let m = few_members (s.set_sane g there) in
      let e : count_at ws at ≡ member_count ws g = ap (count_at ws) r.begins in
      omega arith

  pub reached_next : {next : ℕ} → next ≡ at + 3 + count_at ws at → Reached ws next (g + 1)
  reached_next e =
      record { begins = begin_next ws g r.begins (omega (arith, e)); near = omega (arith, r.near, few_here, e) }
