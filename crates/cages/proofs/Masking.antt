-- Boards masked and joined event by event.
-- Assumes nothing.
use mathlib.Core.Path.{◌≡◌, sym, ap, ◌∙◌}
use mathlib.Core.Bool.{Bool, true, false, cond}
use mathlib.Core.List.{List}
use Prim.Native.Nat.{ℕ, ◌+◌, ◌<◌, ◌≤◌}
use native.Mathlib.Decide.{ℕ_discrete}
use native.Mathlib.Omega.{arith}
use lib.IntN.{ℤ}
use lib.ListN.{length}
use Rattle.model.specs.Job.{End}
use Rattle.model.specs.View.{shown}
use Rattle.tables.specs.Board.{board}
use Rattle.tables.specs.Windows.{at_end, Event, windows_set}
use Rattle.tables.specs.declared.windows.Windows.{Windows}
use Rattle.tables.proofs.Boarding.{length_windows_set, windows_set_own, windows_set_other}
use Rattle.cages.specs.Masking.{together}

-- The first y events are masked.
abbrev pub MaskedTo : ℕ → List ℤ → ℕ → List ℤ → List ℤ → Type 0
MaskedTo y table e b s =
    (length s ≡ 256) × ((z : ℕ) → z < y → (k : End) → board s z k ≡ shown (together table e z) k (board b z k))

pub masked_more : (y : ℕ) (table : List ℤ) (e : ℕ) (b s : List ℤ) {own : Bool} {v w : Windows} {s' : List ℤ} → y < 64 → own ≡ together table e y → MaskedTo y table e b s → Event (board b) y v → ((k : End) → at_end w k ≡ shown own k (at_end v k)) → s' ≡ windows_set w y s → MaskedTo (y + 1) table e b s'
masked_more y table e b s {own} {v} {w} {s'} p o m r h q =
    (ap length q ∙ length_windows_set w y s ∙ m.0, λ z l k. ap (λ x. board x z k) q ∙ go z l k (ℕ_discrete z y))
  where
    go : (z : ℕ) → z < y + 1 → (k : End) → Dec (z ≡ y) → board (windows_set w y s) z k ≡ shown (together table e z) k (board b z k)
    go z l k (yes f) = rw f (windows_set_own w y s m.0 p k ∙ h k ∙ ap (λ x. shown own k x) (r k) ∙ ap (λ t. shown t k (board b y k)) o)
    go z l k (no d) = windows_set_other w y s m.0 p z k (omega arith) (λ f. d (sym f)) ∙ m.1 z (omega arith) k

-- Of the first y events those of e's cage are put back; all others are as at entry.
abbrev pub JoinedTo : ℕ → List ℤ → ℕ → List ℤ → List ℤ → List ℤ → Type 0
JoinedTo y table e b s c =
    (length c ≡ 256)
    × ((z : ℕ) → z < y → (k : End) → board c z k ≡ cond (together table e z) (board s z k) (board b z k))
    × ((z : ℕ) → y ≤ z → z < 64 → (k : End) → board c z k ≡ board b z k)

-- Event y is put back, if it is in e's cage; else the board stays.
pub joined_own : (y : ℕ) (table : List ℤ) (e : ℕ) (b s c : List ℤ) {w : Windows} {c' : List ℤ} → y < 64 → together table e y ≡ true → JoinedTo y table e b s c → Event (board s) y w → c' ≡ windows_set w y c → JoinedTo (y + 1) table e b s c'
joined_own y table e b s c {w} {c'} p o m r q = (
  ap length q ∙ length_windows_set w y c ∙ m.0,
  λ z l k. ap (λ x. board x z k) q ∙ go z l k (ℕ_discrete z y),
  λ z l h k. ap (λ x. board x z k) q ∙ windows_set_other w y c m.0 p z k h (λ f. omega arith) ∙ m.2 z (omega arith) h k,
)
  where
    go : (z : ℕ) → z < y + 1 → (k : End) → Dec (z ≡ y) → board (windows_set w y c) z k ≡ cond (together table e z) (board s z k) (board b z k)
    go z l k (yes f) = rw f (windows_set_own w y c m.0 p k ∙ r k ∙ ap (λ t. cond t (board s y k) (board b y k)) (sym o))
    go z l k (no d) = windows_set_other w y c m.0 p z k (omega arith) (λ f. d (sym f)) ∙ m.1 z (omega arith) k

pub joined_other : (y : ℕ) (table : List ℤ) (e : ℕ) (b s c : List ℤ) → y < 64 → together table e y ≡ false → JoinedTo y table e b s c → JoinedTo (y + 1) table e b s c
joined_other y table e b s c p o m = (m.0, λ z l k. go z l k (ℕ_discrete z y), λ z l h k. m.2 z (omega arith) h k)
  where
    go : (z : ℕ) → z < y + 1 → (k : End) → Dec (z ≡ y) → board c z k ≡ cond (together table e z) (board s z k) (board b z k)
    go z l k (yes f) = rw f (m.2 y (omega arith) p k ∙ ap (λ t. cond t (board s y k) (board b y k)) (sym o))
    go z l k (no d) = m.1 z (omega arith) k
