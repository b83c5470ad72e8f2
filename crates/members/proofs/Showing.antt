-- A board with the amounts of a set's members alone.
-- Assumes nothing.
use mathlib.Core.Path.{◌≡◌, refl, sym, ◌∙◌}
use mathlib.Core.Bool.{true, false, ◌||◌, or-true, or-false}
use mathlib.Core.List.{List}
use Prim.Native.Nat.{ℕ, ◌+◌, ◌*◌, ◌<◌}
use native.Mathlib.Decide.{ℕ_discrete}
use native.Mathlib.Numerals.{add-one}
use native.Mathlib.Omega.{arith}
use borrow.Author.Tests.{eq-eqb, ne_eqb}
use lib.Dec.{eqb}
use lib.IntN.{ℤ, pos}
use lib.ListN.{length, set, replicate, length-set, get_or-replicate}
use Rattle.model.specs.Job.{End, t_min, t_max, h_min, h_max, word, any}
use Rattle.tables.specs.Board.{board}
use Rattle.tables.proofs.Boarding.{board_set_same, board_set_event, board_set_end}
use Rattle.totals.specs.Totals.{event_at}
use Rattle.members.specs.declared.SetJob.{SetJob}
use Rattle.members.specs.Members.{Blank, amount, Alone, shown_event}

-- ---- one event's amounts

module _ (b : List ℤ) (y : ℕ) (s : List ℤ) (full : length s ≡ 256) (p : y < 64) where
  abbrev s₁ : List ℤ
  s₁ = set s (64 * word h_min + y) (board b y h_min)

  f₁ : length s₁ ≡ 256
  f₁ = length-set s (64 * word h_min + y) (board b y h_min) ∙ full

  event_whole : length (shown_event b y s) ≡ 256
  unfolding shown_event
  event_whole = length-set s₁ (64 * word h_max + y) (board b y h_max) ∙ f₁

  event_other : (z : ℕ) (k : End) → z < 64 → (y ≡ z → ⊥) → board (shown_event b y s) z k ≡ board s z k
  unfolding shown_event
  event_other z k q n =
      board_set_event s₁ f₁ (board b y h_max) y z h_max k p q n ∙ board_set_event s full (board b y h_min) y z h_min k p q n

  -- Where its times are 0.
  event_own : board s y t_min ≡ pos 0 → board s y t_max ≡ pos 0 → (k : End) → board (shown_event b y s) y k ≡ amount true k (board b y k)
  unfolding shown_event
  event_own e l t_min =
      board_set_end s₁ f₁ (board b y h_max) y h_max t_min p (λ e. omega arith)
      ∙ board_set_end s full (board b y h_min) y h_min t_min p (λ e. omega arith)
      ∙ e
  event_own e l t_max =
      board_set_end s₁ f₁ (board b y h_max) y h_max t_max p (λ e. omega arith)
      ∙ board_set_end s full (board b y h_min) y h_min t_max p (λ e. omega arith)
      ∙ l
  event_own e l h_min =
      board_set_end s₁ f₁ (board b y h_max) y h_max h_min p (λ e. omega arith)
      ∙ board_set_same s full (board b y h_min) y h_min p
  event_own e l h_max = board_set_same s₁ f₁ (board b y h_max) y h_max p

-- Both stores in turn.
pub stored_amounts : (b : List ℤ) (y : ℕ) (s : List ℤ) {s₁ s₂ : List ℤ} {v w : ℤ} → v ≡ board b y h_min → s₁ ≡ set s (64 * word h_min + y) v → w ≡ board b y h_max → s₂ ≡ set s₁ (64 * word h_max + y) w → s₂ ≡ shown_event b y s
unfolding shown_event
stored_amounts b y s a c d e = rw (e, d, c, a)

-- ---- all members

pub blank : Blank (replicate 256 (pos 0))
unfolding board
blank =
    record {
      whole = refl;
      is = λ z l k. get_or-replicate 256 (64 * word k + z) (pos 0) (pos 0) (place z l k);
    }
  where
    place : (z : ℕ) → z < 64 → (k : End) → 64 * word k + z < 256
    place z l t_min = omega arith
    place z l t_max = omega arith
    place z l h_min = omega arith
    place z l h_max = omega arith

none : (k : End) (v : ℤ) → pos 0 ≡ amount false k v
none t_min v = refl
none t_max v = refl
none h_min v = refl
none h_max v = refl

module _ (k : SetJob) where
  abbrev b : List ℤ
  b = k.board.now.words

  abbrev event : ℕ → ℕ
  event i = event_at k.set.table.now k.set.at i

  pub alone_none : {s : List ℤ} → Blank s → Alone k 0 s
  unfolding any
  alone_none h = record { whole = h.whole; is = λ z l e. h.is z l e ∙ none e (board b z e) }

  pub alone_more : (i : ℕ) {s s' : List ℤ} {y : ℕ} → y < 64 → y ≡ event i → Alone k i s → s' ≡ shown_event b y s → Alone k (i + 1) s'
  unfolding any
  alone_more i {s} {s'} {y} p q h e =
      rw (e, add-one i) (record { whole = event_whole b y s h.whole p; is = λ z l e. go z l e (ℕ_discrete y z) })
    where
      go : (z : ℕ) → z < 64 → (e : End) → Dec (y ≡ z) → board (shown_event b y s) z e ≡ amount (any i (λ l. eqb (event l) z) || eqb (event i) z) e (board b z e)
      go z l e (yes d) =
          rw (← d, eq-eqb (event i) y (sym q), or-true (any i (λ l. eqb (event l) y)))
          (event_own b y s h.whole p (h.is y p t_min) (h.is y p t_max) e)
      go z l e (no d) =
          rw (ne_eqb (event i) z (λ f. d (q ∙ f)), or-false (any i (λ l. eqb (event l) z)))
          (event_other b y s h.whole p z e l d ∙ h.is z l e)
