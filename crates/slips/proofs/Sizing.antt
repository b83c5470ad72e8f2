-- What the tests of question 13 come to, and the facts that stand in words.
-- Assumes nothing.
use mathlib.Core.Path.{◌≡◌, refl, ap}
use mathlib.Core.Bool.{true, false}
use mathlib.Core.List.{List, [], ◌∷◌}
use Prim.Native.Nat.{ℕ, zero, suc, ◌+◌, ◌*◌, ◌-◌, ◌<◌, ◌≤◌}
use native.Mathlib.Omega.{arith}
use borrow.Author.Tests.{le-leb, lt-leb}
use lib.IntN.{ℤ, pos}
use lib.ListN.{length, take, drop}
use lib.Seq.{drop-cons, take_all}
use native.Mathlib.Numerals.{add-one}
use Rattle.integers.specs.Range.{eq_z}
use Rattle.model.specs.Questions.{in_range}
use Rattle.model.specs.Rules.{known_rule}
use Rattle.model.specs.Slips.{Premise, slip_length, at, premise_count, premises_at, slip_at}
use Rattle.model.specs.Reader.{slip, cut, whole, reading}
use Rattle.slips.specs.Slip.{premise_at, premises_in}

-- ---- facts in words

pub none_in : (ws : List ℤ) → length ws < 3 → premises_in ws ≡ []
unfolding premises_in
none_in [] h = refl
none_in (y ∷ []) h = refl
none_in (y ∷ k ∷ []) h = refl
none_in (y ∷ k ∷ v ∷ ws) h = absurd (omega arith)

pub one_in : (ws : List ℤ) → 3 ≤ length ws → premises_in ws ≡ premise_at ws 0 ∷ premises_in (take (length ws - 3) (drop 3 ws))
unfolding premises_in
one_in [] h = absurd (omega arith)
one_in (y ∷ []) h = absurd (omega arith)
one_in (y ∷ k ∷ []) h = absurd (omega arith)
one_in (y ∷ k ∷ v ∷ ws) h =
    let e : suc (suc (suc (length ws))) - 3 ≡ length ws = omega arith in
    rw (e, take_all (length ws) ws (omega arith))

next : (list : List ℤ) (i j : ℕ) → i < length list → j ≡ i + 1 → drop i list ≡ at list i ∷ drop j list
next list i j h e = rw (e, add-one i) (drop-cons list i (pos 0) h)

-- The facts of a slip stand in the words between its header and its last word.
pub part_in : (list : List ℤ) (i m : ℕ) → i + 3 * m ≤ length list → premises_in (take (3 * m) (drop i list)) ≡ premises_at list i m
unfolding premises_in premises_at
part_in list i zero h = refl
part_in list i (suc m) h =
    let long : 3 * suc m ≡ suc (suc (suc (3 * m))) = omega arith in
    rw (long, next list i (i + 1) (omega arith) refl, next list (i + 1) (i + 2) (omega arith) (omega arith), next list (i + 2) (i + 3) (omega arith) (omega arith))
    (ap (λ (fs : List Premise). premise_at list i ∷ fs) (part_in list (i + 3) m (omega arith)))

-- ---- 13, test by test

module _ (list : List ℤ) (stop p : ℕ) where
  pub not_room : stop - p ≤ 6 → cut ≡ reading list stop p
  unfolding reading whole
  not_room h = rw (lt-leb (p + 7) stop (omega arith))

  module _ (room : 6 < stop - p) where
    pub not_rule : known_rule (at list p) ≡ false → cut ≡ reading list stop p
    unfolding reading whole
    not_rule e = rw (le-leb (p + 7) stop (omega arith), e)

    module _ (rule : known_rule (at list p) ≡ true) where
      pub not_count : in_range (pos 0) (pos 256) (at list (p + 5)) ≡ false → cut ≡ reading list stop p
      unfolding reading whole
      not_count e = rw (le-leb (p + 7) stop (omega arith), rule, e)

      module _ (count : in_range (pos 0) (pos 256) (at list (p + 5)) ≡ true) where
        pub not_all : {size : ℕ} → size ≡ slip_length (premise_count list p) → stop - p < size → cut ≡ reading list stop p
        unfolding reading whole
        not_all e h = rw (le-leb (p + 7) stop (omega arith), rule, count, lt-leb (p + slip_length (premise_count list p)) stop (omega arith))

        module _ {size last : ℕ} (is : size ≡ slip_length (premise_count list p)) (place : last ≡ p + size - 1) (ends : size ≤ stop - p) where
          -- the slip's last word
          last_is : last ≡ p + (6 + 3 * premise_count list p)
          last_is = omega arith

          pub not_length : eq_z (at list last) (pos size) ≡ false → cut ≡ reading list stop p
          unfolding reading whole
          not_length e = rw (le-leb (p + 7) stop (omega arith), rule, count, le-leb (p + slip_length (premise_count list p)) stop (omega arith), rw (last_is, is) at e)

          -- the slip read
          pub slip_is : {r e y k v : ℤ} {ws : List ℤ} → stop ≤ length list → eq_z (at list last) (pos size) ≡ true →
              r ≡ at list p → e ≡ at list (p + 1) → y ≡ at list (p + 2) → k ≡ at list (p + 3) → v ≡ at list (p + 4) → ws ≡ take (last - (p + 6)) (drop (p + 6) list) →
              slip (record { rule = r; subject = e; target = y; kind = k; value = v; premises = premises_in ws }) (p + size) ≡ reading list stop p
          unfolding reading whole slip_at
          slip_is l t a b c d f w =
              let m = premise_count list p in
              let long : last - (p + 6) ≡ 3 * m = omega arith in
              rw (le-leb (p + 7) stop (omega arith), rule, count, le-leb (p + slip_length m) stop (omega arith), rw (last_is, is) at t, is, a, b, c, d, f, w, long, part_in list (p + 6) m (omega arith))
