-- The ranges of the code's job are those of the call's; which windows serve it.
-- Assumes nothing.
use mathlib.Core.Path.{◌≡◌, refl, sym, ap, ◌∙◌}
use mathlib.Core.Bool.{Bool, true, false, cond}
use mathlib.Core.List.{List, []}
use Prim.Native.Nat.{ℕ, ◌<◌}
use native.Mathlib.Omega.{arith}
use lib.Dec.{T}
use lib.IntN.{ℤ, pos, negsuc}
use lib.Signed.{le_z, ◌≤ℤ◌}
use Rattle.integers.proofs.Linear.{ints}
use Rattle.model.specs.Job as model
use Rattle.model.specs.Job.{End, t_min, t_max, h_min, h_max, Windows, windows, produces, consumes, events, sent}
use Rattle.model.specs.View.{side, here, shown, seen}
use Rattle.model.specs.Standing.{Sane, SaneLags, Standing}
use Rattle.model.proofs.Levels.{kind_kept}
use Rattle.tables.specs.Board.{board, Loaded}
use Rattle.tables.specs.Job.{reservoir_of, Holds, board_call, Kinds, Serves, Fit}
use Rattle.tables.proofs.Boarding.{length_table, windows_board, cage_kept}
use Rattle.tables.specs.declared.Job.{Job}

module _ {k : Job} {ws : List ℤ} {j : model.Job} (h : Holds k ws j) where
  -- A job whose questions let it pass fits.
  pub fit_of : Sane j → Fit k ws
  fit_of s = record {
    horizon_low = rw h.horizon_is at s.horizon_low;
    horizon_high = rw h.horizon_is at s.horizon_high;
    cage = rw h.reservoir_is at (s.cage 0 s.some_cage);
    few_events = rw h.events_are at s.few_events;
    few_lags = rw h.lags_are at s.few_lags;
    lag = rw (h.events_are, h.lags_are) at s.lag;
  }

  pub lags_of : Fit k ws → SaneLags j
  lags_of f = rw (h.events_are, h.lags_are) f.lag

  -- Every event is at home in the one cage, and sees all others.
  pub home_same : (e : ℕ) → e < events j → model.home j e ≡ reservoir_of k.reservoir
  home_same e l = rw (h.home_is e l) h.reservoir_is

  pub all_here : (e y : ℕ) → e < events j → y < events j → here j e y ≡ true
  all_here e y l p = rw (h.home_is e l, h.home_is y p)

  pub seen_side : (m : Bool) (e : ℕ) (W : Windows) (y : ℕ) (i : End) → e < events j → y < events j → seen j m e W y i ≡ side m W y i
  seen_side m e W y i l p = ap (λ b. shown b i (side m W y i)) (all_here e y l p) ∙ go i (side m W y i)
    where
      go : (i : End) (v : ℤ) → shown true i v ≡ v
      go t_min v = refl
      go t_max v = refl
      go h_min v = refl
      go h_max v = refl

  -- Windows that stand in a call serve it.
  pub serves_standing : {W : Windows} → Standing j W → Serves k ws W j
  serves_standing {W} s = record { holds = h; kinds = kind_kept j W s.within s.heights }

  -- So does the board that its window table was brought onto.
  pub serves_loaded : {b : List ℤ} → Loaded k.events j.window_table b → Serves k ws (board b) j
  serves_loaded {b} l =
      record {
        holds = h;
        kinds = λ y m. ap produces (sym (windows_board k.events j.window_table b y h_max (rw h.events_are at m)) ∙ ap (λ (t : List ℤ). windows t y h_max) l.is);
      }

-- The call that a board makes.
module _ (k : Job) (ws b : List ℤ) where
  pub board_holds : Holds k ws (board_call k ws b)
  board_holds =
      let size = length_table k.events [] b in
      let count : events (board_call k ws b) ≡ k.events = omega arith in
      record {
        horizon_is = refl;
        cages_are = refl;
        reservoir_is = refl;
        home_is = λ y l. cage_kept k.events [] b y (rw count at l);
        events_are = count;
        lags_are = refl;
      }

  pub board_serves : Serves k ws (board b) (board_call k ws b)
  board_serves =
      record { holds = board_holds; kinds = λ y l. ap produces (sym (windows_board k.events [] b y h_max (rw board_holds.events_are at l))) }

-- Amounts of windows that stand are a delivery's at both ends or at none.
pub standing_signed : {j : model.Job} {W : Windows} → Standing j W → (y : ℕ) → y < events j → produces (W y h_min) ≡ produces (W y h_max)
standing_signed {j} {W} s y l =
    go (produces (sent j y h_max)) (consumes (sent j y h_max)) (s.within.inside y l h_min) (s.within.inside y l h_max) (s.heights y l)
  where
    both : (a b : ℤ) (t : Bool) → produces a ≡ t → produces b ≡ t → produces a ≡ produces b
    both a b t p q = p ∙ sym q

    go : (p c : Bool) → T (le_z (cond p (pos 1) (cond c (negsuc 9998) (pos 0))) (W y h_min)) → T (le_z (W y h_max) (cond p (pos 9999) (cond c (negsuc 0) (pos 0)))) → W y h_min ≤ℤ W y h_max → produces (W y h_min) ≡ produces (W y h_max)
    go true c a b h = both (W y h_min) (W y h_max) true (omega ints) (omega ints)
    go false true a b h = both (W y h_min) (W y h_max) false (omega ints) (omega ints)
    go false false a b h = both (W y h_min) (W y h_max) false (omega ints) (omega ints)

-- Windows with the same deliveries serve a call alike.
pub serves_alike : {k : Job} {ws : List ℤ} {W X : Windows} {j : model.Job} → Serves k ws W j → Kinds k.events X W → Serves k ws X j
serves_alike s a =
    record { holds = s.holds; kinds = λ y l. a y (rw s.holds.events_are at l) ∙ s.kinds y l }
