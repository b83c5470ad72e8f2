-- One word stored into a window table: what the windows then are, and that a narrowing keeps them standing.
-- Assumes nothing.
use mathlib.Core.Path.{◌≡◌, refl, ap, subst, fun_ext}
use mathlib.Core.Bool.{Bool, true, false, not, cond, ◌&&◌}
use mathlib.Core.List.{List}
use Prim.Native.Nat.{ℕ, ◌*◌, ◌≤◌, ◌<◌}
use native.Mathlib.Omega.{arith}
use borrow.Author.Tests.{eqb-true, eqb-false}
use lib.Dec.{T, eqb, eqb→eq}
use lib.IntN.{ℤ, pos}
use lib.ListN.{length, set}
use lib.Seq.{get_or-set_same, get_or-set_other}
use lib.Signed.{◌≤ℤ◌, le_z_yes}
use Rattle.integers.proofs.Tests.{is_true, not_true, and_out}
use Rattle.model.specs.Job.{End, t_min, t_max, h_min, h_max, opposite, meets, word, slot, Windows, windows, widest, Job, events}
use Rattle.model.specs.Standing.{Standing}
use Rattle.model.specs.Rules.{Finding, nothing, clash, bound, idle, narrows, fails, effect}
use Rattle.model.specs.Reader.{same_end}
use Rattle.model.proofs.Order.{meets_trans, meets_not, same_end_is}

-- ---- one word stored

-- The windows W with v at the end k of event y.
abbrev pub store : Windows → ℕ → End → ℤ → Windows
store W y k v z l = cond (same_end l k && eqb z y) v (W z l)

word_small : (k : End) → word k ≤ 3
word_small t_min = omega arith
word_small t_max = omega arith
word_small h_min = omega arith
word_small h_max = omega arith

-- The slot of another end or event is another.
slot_other : (y z : ℕ) (k l : End) → (word l ≡ word k → z ≡ y → ⊥) → slot z l ≡ slot y k → ⊥
slot_other y z k l n e = n (omega (arith, word_small k, word_small l)) (omega (arith, word_small k, word_small l))

-- An event's slots lie in its table.
pub slot_inside : (n y : ℕ) (k : End) → y < n → slot y k < 5 * n
slot_inside n y k l = omega (arith, word_small k)

-- The windows of a table with one word stored: v at (y, k), as before elsewhere.
pub windows_set : (table : List ℤ) (y : ℕ) (k : End) (v : ℤ) → slot y k < length table → (z : ℕ) (l : End) → windows (set table (slot y k) v) z l ≡ store (windows table) y k v z l
unfolding windows
windows_set table y k v there z l = go (same_end l k) (eqb z y) (eqb-true (word l) (word k)) (eqb-false (word l) (word k)) (eqb-true z y) (eqb-false z y)
  where
    go : (a b : Bool) → (a ≡ true → word l ≡ word k) → (a ≡ false → word l ≡ word k → ⊥) → (b ≡ true → z ≡ y) → (b ≡ false → z ≡ y → ⊥)
        → windows (set table (slot y k) v) z l ≡ cond (a && b) v (windows table z l)
    go true true p _ q _ =
        let e : slot z l ≡ slot y k = omega (arith, p refl, q refl) in
        rw e (get_or-set_same table (slot y k) v (pos 0) there)
    go true false p _ _ q = get_or-set_other table (slot y k) (slot z l) v (pos 0) (slot_other y z k l (λ _. q refl))
    go false b _ p _ _ = get_or-set_other table (slot y k) (slot z l) v (pos 0) (slot_other y z k l (λ e _. p refl e))

-- The same of the windows as a whole.
pub windows_stored : (table : List ℤ) (y : ℕ) (k : End) (v : ℤ) → slot y k < length table → windows (set table (slot y k) v) ≡ store (windows table) y k v
windows_stored table y k v there = fun_ext (λ z. fun_ext (λ l. windows_set table y k v there z l))

-- ---- a narrowing

-- A bound v on the end k of y is stricter than the windows W and does not pass the opposite end.
pub record Narrows (W : Windows) (y : ℕ) (k : End) (v : ℤ) : Type 0 where
  pub room : T (meets (opposite k) (W y (opposite k)) v)
  pub stricter : T (not (meets k v (W y k)))

effect_apart : (a b : Bool) (w v : ℤ) → cond a (cond b idle (narrows w)) fails ≡ narrows v → T a × T (not b) × (w ≡ v)
effect_apart true true w v e = absurd (let z : ◌≡◌ {A = ℕ} 0 1 = cc in omega arith)
effect_apart true false w v e = (tt, tt, cc)
effect_apart false b w v e = absurd (let z : ◌≡◌ {A = ℕ} 0 1 = cc in omega arith)

-- What an effect that narrows says of its finding and of the windows.
pub narrows_bound : (k : End) (W : Windows) (y : ℕ) (f : Finding) (v : ℤ) → effect k W y f ≡ narrows v → (f ≡ bound v) × Narrows W y k v
narrows_bound k W y nothing v e = absurd (let z : ◌≡◌ {A = ℕ} 0 1 = cc in omega arith)
narrows_bound k W y clash v e = absurd (let z : ◌≡◌ {A = ℕ} 0 1 = cc in omega arith)
narrows_bound k W y (bound w) v e =
    let a = effect_apart (meets (opposite k) (W y (opposite k)) w) (meets k w (W y k)) w v e in
    (ap bound a.2, subst (λ u. Narrows W y k u) a.2 (record { room = a.0; stricter = a.1 }))

-- And such a bound has that effect.
pub bound_narrows : (k : End) (W : Windows) (y : ℕ) (v : ℤ) → Narrows W y k v → effect k W y (bound v) ≡ narrows v
bound_narrows k W y v n = rw (is_true (meets (opposite k) (W y (opposite k)) v) n.room, not_true (meets k v (W y k)) n.stricter)

-- ---- standing

stored_is : (b : Bool) (v w : ℤ) (P : ℤ → Type 0) → (T b → P v) → P w → P (cond b v w)
stored_is true v w P f g = f tt
stored_is false v w P f g = g

-- Between a wider bound and a value that does not meet it.
inward : (k : End) (u v w : ℤ) → T (meets k u w) → T (not (meets k v w)) → T (meets k u v)
inward k u v w a b = meets_trans k u w v a (meets_not k v w b)

-- A narrowing keeps the windows standing.
module _ (j : Job) (W : Windows) (std : Standing j W) (y : ℕ) (event : y < events j) (v : ℤ) where
  times_kept : (k : End) → Narrows W y k v → (z : ℕ) → W z t_min ≤ℤ W z t_max → store W y k v z t_min ≤ℤ store W y k v z t_max
  times_kept t_min n z h = stored_is (eqb z y) v (W z t_min) (λ x. x ≤ℤ W z t_max) (λ t. rw (eqb→eq z y t) (le_z_yes n.room)) h
  times_kept t_max n z h = stored_is (eqb z y) v (W z t_max) (λ x. W z t_min ≤ℤ x) (λ t. rw (eqb→eq z y t) (le_z_yes n.room)) h
  times_kept h_min n z h = h
  times_kept h_max n z h = h

  heights_kept : (k : End) → Narrows W y k v → (z : ℕ) → W z h_min ≤ℤ W z h_max → store W y k v z h_min ≤ℤ store W y k v z h_max
  heights_kept t_min n z h = h
  heights_kept t_max n z h = h
  heights_kept h_min n z h = stored_is (eqb z y) v (W z h_min) (λ x. x ≤ℤ W z h_max) (λ t. rw (eqb→eq z y t) (le_z_yes n.room)) h
  heights_kept h_max n z h = stored_is (eqb z y) v (W z h_max) (λ x. W z h_min ≤ℤ x) (λ t. rw (eqb→eq z y t) (le_z_yes n.room)) h

  hit : (k : End) → Narrows W y k v → (z : ℕ) (l : End) → T (same_end l k && eqb z y) → T (meets l (widest j z l) v)
  hit k n z l t =
      let a = and_out (same_end l k) (eqb z y) t in
      rw (same_end_is l k a.0, eqb→eq z y a.1) (inward k (widest j y k) v (W y k) (std.within.inside y event k) n.stricter)

  pub standing_store : (k : End) → Narrows W y k v → Standing j (store W y k v)
  standing_store k n = record {
    within = record { inside = λ z m l. stored_is (same_end l k && eqb z y) v (W z l) (λ x. T (meets l (widest j z l) x)) (hit k n z l) (std.within.inside z m l) };
    times = λ z m. times_kept k n z (std.times z m);
    heights = λ z m. heights_kept k n z (std.heights z m);
  }

-- The same of a table, from the effect that a rule has on it.
pub standing_narrow : (j : Job) (table : List ℤ) (y : ℕ) (k : End) (f : Finding) (v : ℤ) → length table ≡ 5 * events j → y < events j →
    Standing j (windows table) → effect k (windows table) y f ≡ narrows v → Standing j (windows (set table (slot y k) v))
standing_narrow j table y k f v long event std e =
    let n = (narrows_bound k (windows table) y f v e).1 in
    let there : slot y k < length table = omega (arith, slot_inside (events j) y k event) in
    rw (windows_stored table y k v there) (standing_store j (windows table) std y event v k n)
