-- The widest windows set on a board, event by event.
-- Assumes nothing.
use mathlib.Core.Path.{◌≡◌, sym, ap, ◌∙◌}
use mathlib.Core.List.{List}
use Prim.Native.Nat.{ℕ, ◌+◌, ◌<◌}
use native.Mathlib.Decide.{ℕ_discrete}
use native.Mathlib.Omega.{arith}
use lib.IntN.{ℤ}
use lib.ListN.{length}
use Rattle.model.specs.Job.{End, h_max}
use Rattle.tables.specs.Board.{board}
use Rattle.model.specs.Job as model
use Rattle.tables.specs.Windows.{at_end, windows_set}
use Rattle.tables.specs.declared.windows.Windows.{Windows}
use Rattle.tables.proofs.Boarding.{length_windows_set, windows_set_own, windows_set_other}
use Rattle.judging.specs.Wide.{widest_of, opened, Wide}

pub wide_more : {h : ℤ} {W : model.Windows} {b b' : List ℤ} {w : Windows} {v : ℤ} (y : ℕ) → y < 64 → Wide y h W b → v ≡ W y h_max → ((k : End) → at_end w k ≡ widest_of h v k) → b' ≡ windows_set w y b → Wide (y + 1) h W b'
wide_more {h} {W} {b} {b'} {w} {v} y near wide top is e =
    record {
      whole = ap length e ∙ length_windows_set w y b ∙ wide.whole;
      is = λ z l k. ap (λ x. board x z k) e ∙ go z l k (ℕ_discrete z y);
    }
  where
    go : (z : ℕ) → z < y + 1 → (k : End) → Dec (z ≡ y) → board (windows_set w y b) z k ≡ opened h W z k
    go z l k (yes f) = rw f (windows_set_own w y b wide.whole near k ∙ is k ∙ ap (λ x. widest_of h x k) top)
    go z l k (no d) = windows_set_other w y b wide.whole near z k (omega arith) (λ f. d (sym f)) ∙ wide.is z (omega arith) k
