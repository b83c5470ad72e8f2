-- One word stored on a board: what its windows then are.
-- Assumes nothing.
use mathlib.Core.Path.{◌≡◌, refl, sym}
use mathlib.Core.Bool.{Bool, true, false, not, cond, ◌&&◌}
use mathlib.Core.List.{List}
use Prim.Native.Nat.{ℕ, ◌+◌, ◌*◌, ◌<◌}
use borrow.Author.Tests.{eqb-true, eqb-false}
use lib.Dec.{T, eqb}
use lib.IntN.{ℤ}
use lib.ListN.{set}
use Rattle.model.specs.Job.{End, meets, word, Windows}
use Rattle.model.specs.Reader.{same_end, narrow}
use Rattle.model.proofs.Order.{same_end_is}
use Rattle.model.proofs.Table.{store}
use Rattle.tables.specs.Board.{board, Whole}
use Rattle.tables.proofs.Boarding.{board_set_same, board_set_event, board_set_end}

pub board_store : (b : List ℤ) {b' : List ℤ} → Whole b → (y : ℕ) (k : End) (v : ℤ) → y < 64 → b' ≡ set b (64 * word k + y) v → (z : ℕ) → z < 64 → (l : End) → board b' z l ≡ store (board b) y k v z l
board_store b full y k v near e z far l = rw e (go (same_end l k) (eqb z y) (same_end_is l k) (eqb-false (word l) (word k)) (eqb-true z y) (eqb-false z y))
  where
    go : (s t : Bool) → (T s → l ≡ k) → (s ≡ false → word l ≡ word k → ⊥) → (t ≡ true → z ≡ y) → (t ≡ false → z ≡ y → ⊥) → board (set b (64 * word k + y) v) z l ≡ cond (s && t) v (board b z l)
    go true true p _ q _ = rw (p tt, q refl) (board_set_same b full v y k near)
    go true false _ _ _ q = board_set_event b full v y z k l near far (λ i. q refl (sym i))
    go false true _ p q _ = rw (q refl) (board_set_end b full v y k l near (λ i. p refl (sym i)))
    go false false _ _ _ q = board_set_event b full v y z k l near far (λ i. q refl (sym i))

-- A bound that the window does not keep is stored.
pub narrow_store : (W : Windows) (y : ℕ) (k : End) (v : ℤ) → meets k v (W y k) ≡ false → (z : ℕ) (l : End) → store W y k v z l ≡ narrow W y k v z l
narrow_store W y k v miss z l = go (same_end l k) (eqb z y) (same_end_is l k) (eqb-true z y)
  where
    go : (s t : Bool) → (T s → l ≡ k) → (t ≡ true → z ≡ y) → cond (s && t) v (W z l) ≡ cond (s && t && not (meets k v (W z l))) v (W z l)
    go true true p q = rw (p tt, q refl, miss)
    go true false p q = refl
    go false t p q = refl
