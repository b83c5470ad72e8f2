-- A new end narrows its window, and is in its range.
-- Assumes nothing.
use mathlib.Core.Path.{◌≡◌, refl}
use mathlib.Core.Bool.{Bool, true, false}
use Prim.Native.Nat.{ℕ, ◌<◌}
use native.Mathlib.Omega.{arith}
use lib.IntN.{ℤ}
use lib.Signed.{le_z}
use Rattle.integers.specs.Range.{Within}
use Rattle.integers.proofs.Linear.{ints}
use Rattle.model.specs.Job.{End, t_min, t_max, h_min, h_max, opposite, meets, Windows}
use Rattle.model.specs.Standing.{span, Ranged}
use Rattle.model.specs.Rules.{Finding, nothing, clash, bound, narrows, effect}
use Rattle.rules.specs.Values.{narrowing, Narrower}

between : (a b : Bool) (w v : ℤ) → narrowing a b w ≡ narrows v → (a ≡ true) × (b ≡ false) × (w ≡ v)
between true true w v e = let z : ◌≡◌ {A = ℕ} 0 1 = cc in absurd (omega arith)
between true false w v e = (refl, refl, cc)
between false b w v e = let z : ◌≡◌ {A = ℕ} 0 1 = cc in absurd (omega arith)

bound_range : {n : ℕ} {W : Windows} (k : End) (y : ℕ) (w v : ℤ) → Ranged n W → y < n → effect k W y (bound w) ≡ narrows v → Within v (span k)
bound_range {n} {W} t_min y w v r l e =
    let p = between (le_z w (W y t_max)) (le_z w (W y t_min)) w v e in
    let a = r.range y l t_min in
    let b = r.range y l t_max in
    omega ints
bound_range {n} {W} t_max y w v r l e =
    let p = between (le_z (W y t_min) w) (le_z (W y t_max) w) w v e in
    let a = r.range y l t_min in
    let b = r.range y l t_max in
    omega ints
bound_range {n} {W} h_min y w v r l e =
    let p = between (le_z w (W y h_max)) (le_z w (W y h_min)) w v e in
    let a = r.range y l h_min in
    let b = r.range y l h_max in
    omega ints
bound_range {n} {W} h_max y w v r l e =
    let p = between (le_z (W y h_min) w) (le_z (W y h_max) w) w v e in
    let a = r.range y l h_min in
    let b = r.range y l h_max in
    omega ints

pub new_narrower : (W : Windows) (k : End) (y : ℕ) (f : Finding) (v : ℤ) → effect k W y f ≡ narrows v → Narrower W y k v
new_narrower W k y nothing v e = let z : ◌≡◌ {A = ℕ} 0 1 = cc in absurd (omega arith)
new_narrower W k y clash v e = let z : ◌≡◌ {A = ℕ} 0 1 = cc in absurd (omega arith)
new_narrower W k y (bound w) v e =
    let p = between (meets (opposite k) (W y (opposite k)) w) (meets k w (W y k)) w v e in
    (rw p.2 at p.0, rw p.2 at p.1)

pub new_range : {n : ℕ} {W : Windows} (k : End) (y : ℕ) (f : Finding) (v : ℤ) → Ranged n W → y < n → effect k W y f ≡ narrows v → Within v (span k)
new_range k y nothing v r l e = let z : ◌≡◌ {A = ℕ} 0 1 = cc in absurd (omega arith)
new_range k y clash v r l e = let z : ◌≡◌ {A = ℕ} 0 1 = cc in absurd (omega arith)
new_range k y (bound w) v r l e = bound_range k y w v r l e
