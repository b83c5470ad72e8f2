-- The facts of a slip: what the reader's walks over them come to.
-- Assumes nothing.
use mathlib.Core.Path.{◌≡◌, refl, ap, ◌∙◌}
use mathlib.Core.List.{List, [], ◌∷◌}
use Prim.Native.Nat.{ℕ, zero, suc, ◌<◌, ◌≤◌}
use native.Mathlib.Omega.{arith}
use lib.Dec.{T}
use lib.IntN.{ℤ, pos, nat_abs}
use lib.ListN.{length, get_or}
use lib.Signed.{le_z, lt_z}
use Rattle.std.specs.List.{list_all}
use Rattle.std.proofs.lemmas.Iterator.{YieldsList}
use Rattle.std.proofs.lemmas.Iterator.Consumers.{YieldsList-from_shown}
use Rattle.integers.proofs.Linear.{ints, non_neg→, →non_neg}
use Rattle.integers.proofs.Tests.{and_out, and_in}
use Rattle.model.specs.Job.{End, t_min, t_max, h_min, h_max, Windows}
use Rattle.model.specs.Slips.{Premise, number, end, premise_event, premise_end}
use Rattle.model.specs.Questions.{is_event, in_range}
use Rattle.model.specs.Reader.{premises_fit, all_true, narrow, narrowed}
use Rattle.model.proofs.Agree.{narrowed_agree}
use Rattle.slips.specs.Slip.{premise_of, premises_in, Gives}
use Rattle.slips.specs.declared.Facts.{Facts}
use Rattle.judging.specs.Ready.{fits_one, true_of, Names, Same}

-- Facts are read as the premises that stand in their words.
pub yields : (s : Facts) → YieldsList Gives premise_of s (premises_in s.words.now)
yields = YieldsList-from_shown Gives premise_of (λ s. premises_in s.words.now) (λ s t e. ap length e) (λ s x t e. e)

-- ---- a test of every fact

pub all_fit : (n : ℕ) (fs : List Premise) → list_all (fits_one n) fs ≡ premises_fit n fs
unfolding premises_fit
all_fit n [] = refl
all_fit n (f ∷ fs) = rw (all_fit n fs)

pub all_are_true : (W : Windows) (fs : List Premise) → list_all (true_of W) fs ≡ all_true W fs
unfolding all_true
all_are_true W [] = refl
all_are_true W (f ∷ fs) = rw (all_are_true W fs)

-- ---- facts that name what is there

names_one : (f : Premise) → T (fits_one 64 f) → Names 64 f
names_one f t =
    let o = and_out (is_event 64 f.event) (in_range (pos 1) (pos 4) f.kind) t in
    let e = and_out (le_z (pos 0) f.event) (lt_z f.event (pos 64)) o.0 in
    let k = and_out (le_z (pos 1) f.kind) (le_z f.kind (pos 4)) o.1 in
    let s : T (le_z (pos 0) f.kind) = let x = k.0 in omega ints in
    let u = non_neg→ f.event (→non_neg f.event (let x = e.0 in omega ints)) in
    let w = non_neg→ f.kind (→non_neg f.kind (let x = s in omega ints)) in
    let y = e.1 in
    let z = k.0 in
    let v = k.1 in
    record { event_low = e.0; event_high = omega ints; kind_sign = s; kind_low = omega ints; kind_high = omega ints }

pub both_fit : (f : Premise) (fs : List Premise) → T (premises_fit 64 (f ∷ fs)) → Names 64 f × T (premises_fit 64 fs)
unfolding premises_fit
both_fit f fs t = let o = and_out (fits_one 64 f) (premises_fit 64 fs) t in (names_one f o.0, o.1)

pub named_at : (fs : List Premise) → T (premises_fit 64 fs) → (k : ℕ) (f : Premise) → k < length fs → f ≡ get_or fs k f → Names 64 f
named_at [] t k f l e = absurd (omega arith)
named_at (g ∷ fs) t zero f l e = rw e (both_fit g fs t).0
named_at (g ∷ fs) t (suc k) f l e = named_at fs (both_fit g fs t).1 k f (omega arith) e

pub fit_wide : (n : ℕ) (fs : List Premise) → n ≤ 64 → T (premises_fit n fs) → T (premises_fit 64 fs)
unfolding premises_fit
fit_wide n [] few t = tt
fit_wide n (f ∷ fs) few t =
    let o = and_out (fits_one n f) (premises_fit n fs) t in
    let i = and_out (is_event n f.event) (in_range (pos 1) (pos 4) f.kind) o.0 in
    let e = and_out (le_z (pos 0) f.event) (lt_z f.event (pos n)) i.0 in
    let wide : T (lt_z f.event (pos 64)) = let h = e.1 in omega ints in
    and_in (fits_one 64 f) (premises_fit 64 fs) (and_in (is_event 64 f.event) (in_range (pos 1) (pos 4) f.kind) (and_in (le_z (pos 0) f.event) (lt_z f.event (pos 64)) e.0 wide) i.1) (fit_wide n fs few o.1)

-- ---- narrowed by all facts

module _ (W Y : Windows) (fs : List Premise) (whole : Same (narrowed W fs) Y) where
  pub narrowed_none : fs ≡ [] → Same W Y
  unfolding narrowed
  narrowed_none e = rw e at whole

  pub narrowed_more : (X : Windows) {f : Premise} {gs : List Premise} → fs ≡ f ∷ gs → Same X (narrow W (premise_event f) (premise_end f) f.value) → Same (narrowed X gs) Y
  unfolding narrowed
  narrowed_more X {f} {gs} e s =
      let first : Same (narrowed W (f ∷ gs)) Y = rw e at whole in
      λ z h k. narrowed_agree 64 gs X (narrow W (premise_event f) (premise_end f) f.value) s z h k ∙ first z h k

-- ---- the end that a kind names

pub kind_end : {w : ℤ} (k : End) → w ≡ pos (number k) → end (nat_abs w) ≡ k
kind_end t_min e = rw e
kind_end t_max e = rw e
kind_end h_min e = rw e
kind_end h_max e = rw e
