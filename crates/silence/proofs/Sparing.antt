-- Which targets of rules 5, 8, 11 and 14 the slack of a level can move, as `silence::slack` tests it; at the others the rule does nothing.
-- Assumes nothing.
use mathlib.Core.Path.{◌≡◌, refl, sym, ap, subst, ◌∙◌}
use mathlib.Core.Bool.{Bool, true, false, not, cond, ◌&&◌, ◌||◌}
use mathlib.Core.List.{List}
use Prim.Native.Nat.{ℕ, zero, suc, ◌+◌, ◌<◌, ◌≤◌}
use native.Mathlib.Decide.{ℕ_discrete}
use native.Mathlib.Numerals.{add-one}
use native.Mathlib.Omega.{arith}
use borrow.Author.Tests.{eq-eqb, ne_eqb, ltb-false}
use lib.Dec.{T, ltb}
use mir.Val.{bool_byte}
use lib.IntN.{ℤ, pos, neg_ℤ, ◌-ℤ◌}
use lib.Signed.{le_z, ◌≤ℤ◌, le_z_yes}
use Rattle.integers.proofs.Linear.{ints, neg_law}
use Rattle.integers.proofs.Tests.{true_is, and_out}
use Rattle.model.specs.Job.{t_min, t_max, h_min, h_max, Windows, ahead, produces, Job, events}
use Rattle.model.specs.View.{side, View, view, seen}
use Rattle.model.specs.Levels.{placed, e_min, e_max, stands}
use Rattle.model.specs.Rules.{targeted, Family, height, reservoir, family_rule, family_end, effect, idle, height_rule}
use Rattle.model.proofs.Agree.{effect_agree}
use Rattle.model.proofs.Silence.{Idle, seen_idle, untargeted_idle, spared_idle}
use Rattle.tables.specs.Job.{Serves}
use Rattle.tables.specs.declared.Job.{Job as Code}
use Rattle.levels.proofs.Viewing.{here_view, seen_here, rule_here}
use Rattle.silence.specs.Slack.{slack_of, spares, moves, count, may_be_moved, some_move}

-- ---- counting

-- A test as a number.
pub byte_cond : (t : Bool) → bool_byte t ≡ cond t 1 0
byte_cond true = refl
byte_cond false = refl

pub byte_small : (t : Bool) → bool_byte t ≤ 1
byte_small true = omega arith
byte_small false = omega arith

pub count_none : (p : ℕ → Bool) → 0 ≡ count 0 p
unfolding count
count_none p = refl

pub count_more : (p : ℕ → Bool) (i : ℕ) {c h : ℕ} {t : Bool} → c ≡ count i p → t ≡ p i → h ≡ cond t 1 0 → c + h ≡ count (i + 1) p
unfolding count
count_more p i a b d = rw (add-one i, a, d, b)

one_counts : (n : ℕ) (p : ℕ → Bool) (y : ℕ) → y < n → cond (p y) 1 0 ≤ count n p
unfolding count
one_counts zero p y l = absurd (omega arith)
one_counts (suc n) p y l = go (ℕ_discrete y n) (λ m. one_counts n p y m)
  where
    go : Dec (y ≡ n) → (y < n → cond (p y) 1 0 ≤ count n p) → cond (p y) 1 0 ≤ count n p + cond (p n) 1 0
    go (yes i) rec = let q : ◌≡◌ {A = ℕ} (cond (p y) 1 0) (cond (p n) 1 0) = ap (λ z. cond (p z) 1 0) i in omega arith
    go (no d) rec = let q = rec (omega arith) in omega arith

-- Two events are counted apart.
both_count : (n : ℕ) (p : ℕ → Bool) (y e : ℕ) → y < n → e < n → (y ≡ e → ⊥) → cond (p y) 1 0 + cond (p e) 1 0 ≤ count n p
unfolding count
both_count zero p y e a b d = absurd (omega arith)
both_count (suc n) p y e a b d = go (ℕ_discrete y n) (ℕ_discrete e n) (λ l m. both_count n p y e l m d)
  where
    go : Dec (y ≡ n) → Dec (e ≡ n) → (y < n → e < n → cond (p y) 1 0 + cond (p e) 1 0 ≤ count n p) → cond (p y) 1 0 + cond (p e) 1 0 ≤ count n p + cond (p n) 1 0
    go (yes i) (yes k) rec = absurd (d (i ∙ sym k))
    go (yes i) (no k) rec =
        let q : ◌≡◌ {A = ℕ} (cond (p y) 1 0) (cond (p n) 1 0) = ap (λ z. cond (p z) 1 0) i in
        let o = one_counts n p e (omega arith) in
        omega arith
    go (no i) (yes k) rec =
        let q : ◌≡◌ {A = ℕ} (cond (p e) 1 0) (cond (p n) 1 0) = ap (λ z. cond (p z) 1 0) k in
        let o = one_counts n p y (omega arith) in
        omega arith
    go (no i) (no k) rec = let o = rec (omega arith) (omega arith) in omega arith

-- ---- no target moves

not_hit : (t : Bool) → cond t 1 0 ≤ 0 → t ≡ false
not_hit true l = absurd (omega arith)
not_hit false l = refl

or_apart : (a b : Bool) → (a || b) ≡ false → (a ≡ false) × (b ≡ false)
or_apart true b e = absurd (subst T e tt)
or_apart false b e = (refl, e)

module _ (E : View) (X W : Windows) (k : ℤ) where
  -- As another event than e.
  other_still : (y : ℕ) → (y ≡ E.subject → ⊥) → may_be_moved E X W k y ≡ false → moves E X W k y ≡ false
  other_still y d h =
      rw (ne_eqb y E.subject d)
      (go (spares k (W y h_min) (W y h_max)) (E.before y) (ahead (E.before y) (X y t_max) (e_min E X)) (ahead (E.before y) (X y t_min) (e_max E X)) (X y h_max) h)
    where
      go : (t s a b : Bool) (h : ℤ) → (not t && (a || (b && produces h))) ≡ false → (not t && targeted (placed false s a b) h) ≡ false
      go true s a b h e = refl
      go false s true b h e = absurd (subst T e tt)
      go false s false true h e = e
      go false s false false h e = refl

  -- As e itself.
  own_still : (not (E.before E.subject) && not (spares k (W E.subject h_min) (W E.subject h_max))) ≡ false → moves E X W k E.subject ≡ false
  own_still h =
      let e = E.subject in
      rw (eq-eqb e e refl)
      (go (E.before e) (spares k (W e h_min) (W e h_max)) (ahead (E.before e) (X e t_max) (e_min E X)) (ahead (E.before e) (X e t_min) (e_max E X)) (X e h_max) h)
    where
      go : (s t a b : Bool) (h : ℤ) → (not s && not t) ≡ false → (not t && targeted (placed true s a b) h) ≡ false
      go true true a b h e = refl
      go true false a b h e = refl
      go false true a b h e = refl
      go false false a b h e = absurd (subst T e tt)

  pub none_moves : E.subject < E.events → some_move E X W k ≡ false → (y : ℕ) → y < E.events → moves E X W k y ≡ false
  none_moves l h y b =
      let test = may_be_moved E X W k in
      let both = or_apart (ltb (cond (test E.subject) 1 0) (count E.events test)) (not (E.before E.subject) && not (spares k (W E.subject h_min) (W E.subject h_max))) h in
      go (ℕ_discrete y E.subject) both.0 both.1
    where
      go : Dec (y ≡ E.subject) → ltb (cond (may_be_moved E X W k E.subject) 1 0) (count E.events (may_be_moved E X W k)) ≡ false
          → (not (E.before E.subject) && not (spares k (W E.subject h_min) (W E.subject h_max))) ≡ false → moves E X W k y ≡ false
      go (yes i) few own = rw i (own_still own)
      go (no d) few own =
          let test = may_be_moved E X W k in
          let less = ltb-false (cond (test E.subject) 1 0) (count E.events test) few in
          let two = both_count E.events test y E.subject b l d in
          other_still y d (not_hit (test y) (omega arith))

-- ---- what does not move is left as it is

-- The width of an amount's window is the same in the mirror.
width_mirror : (a b : ℤ) {x y d f k : ℤ} → x ≡ neg_ℤ a → y ≡ neg_ℤ b → d ≡ a -ℤ b → f ≡ y -ℤ x → d ≤ℤ k → f ≤ℤ k
width_mirror a b p q r s l = omega (ints, neg_law a, neg_law b)

pub width_side : (m : Bool) (W : Windows) (y : ℕ) {k : ℤ} → (W y h_max -ℤ W y h_min) ≤ℤ k → (side m W y h_max -ℤ side m W y h_min) ≤ℤ k
width_side true W y l = width_mirror (W y h_max) (W y h_min) refl refl refl refl l
width_side false W y l = l

over_limit : {a b k : ℤ} → k ≡ a -ℤ b → pos 0 ≤ℤ k → b ≤ℤ a
over_limit e l = omega ints

module _ {j : Job} {c : Code} {ws : List ℤ} (m b : Bool) (W : Windows) (e y : ℕ) (s : Serves c ws W j) (l : e < events j) (n : y < events j) where
  abbrev E : View
  E = here_view m b e W s l

  abbrev X : Windows
  X = side m W

  -- What a family does on a side, told by the amounts at hand, tells what the rule does.
  pub idle_here : (f : Family) → effect (family_end f) X y (family_rule f E X y) ≡ idle → Idle (reservoir m b f) j W e y
  idle_here f h =
      seen_idle m b f j W e y
      (effect_agree j (seen j m e W) X (seen_here m b e W s l) (family_end f) y n (family_rule f (view j m b e) (seen j m e W) y)
      ∙ ap (effect (family_end f) X y) (rule_here m b e W s l f y n)
      ∙ h)

  -- At a target that the level's slack does not move the rule does nothing.
  pub still_idle : {k : ℤ} → k ≡ slack_of E X → moves E X W k y ≡ false → Idle (reservoir m b height) j W e y
  still_idle {k} i h = idle_here height (go (spares k (W y h_min) (W y h_max)) refl h)
    where
      go : (t : Bool) → spares k (W y h_min) (W y h_max) ≡ t → (not t && targeted (stands E X y) (X y h_max)) ≡ false → effect h_min X y (height_rule E X y) ≡ idle
      go true q f =
          let both = and_out (le_z (pos 0) k) (le_z (W y h_max -ℤ W y h_min) k) (true_is q) in
          let w = width_side m W y (le_z_yes both.1) in
          spared_idle E X y (over_limit i (le_z_yes both.0)) (rw i at w)
      go false q f = untargeted_idle E X y f
