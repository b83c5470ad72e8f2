-- What each rule gives, by number, as `rules::findings` computes it.
-- Assumes nothing.
use mathlib.Core.Path.{◌≡◌, sym, ap, ◌∙◌}
use mathlib.Core.Bool.{Bool}
use mathlib.Core.List.{List}
use Prim.Native.Nat.{ℕ, ◌/◌, ◌<◌}
use native.Mathlib.Omega.{arith}
use lib.IntN.{ℤ, nat_abs, ◌+ℤ◌, ◌-ℤ◌}
use lib.ListN.{length}
use Rattle.model.specs.Job.{t_min, t_max, Windows, lag_word, Job as Call}
use Rattle.model.specs.Standing.{Ranged}
use Rattle.model.specs.Rules.{Finding, bound, Family, Rule, lag_upper, lag_lower, reservoir, finding, side_finding, family_end}
use Rattle.tables.specs.Job.{reservoir_of, Serves, Fit}
use Rattle.tables.specs.declared.Job.{Job}
use Rattle.levels.specs.Values.{Views}
use Rattle.levels.specs.declared.View.{View as Sight}
use Rattle.levels.proofs.Viewing.{rule_here}
use Rattle.rules.specs.Values.{seen_rule, subjects_of, IsLag, Lagged, Timed}
use Rattle.rules.specs.declared.lags.Lag.{Lag}

-- A rule of 3..14 has events for subjects.
pub event_subject : (m b : Bool) (f : Family) {q : Rule} (k : Job) (ws : List ℤ) {e : ℕ} → reservoir m b f ≡ q → e < subjects_of q k ws → e < k.events
event_subject m b f k ws p l = rw (← p) at l

-- ---- in a job

-- Lag g, where its numbers are in range.
pub lagged : {k : Job} {ws : List ℤ} {W : Windows} → Fit k ws → Ranged k.events W → (g : ℕ) → g < length ws / 3 → Lagged ws W g
lagged {k} {ws} {W} f r g l =
    let s = f.lag g l in
    let few = f.few_events in
    record {
      there = l;
      sane = record { sign_a = s.sign_a; sign_b = s.sign_b; real_a = omega arith; real_b = omega arith; gap_range = s.gap_range };
      early = r.range (nat_abs (lag_word ws g 0)) s.real_a t_min;
      late = r.range (nat_abs (lag_word ws g 1)) s.real_b t_max;
    }

-- So are its numbers as the code reads them.
pub timed : {ws : List ℤ} {W : Windows} {g : ℕ} {l : Lag} → Lagged ws W g → IsLag ws g l → Timed l W
timed h i =
    record {
      few_a = rw i.a_is h.sane.real_a;
      few_b = rw i.b_is h.sane.real_b;
      gap_range = rw i.gap_is h.sane.gap_range;
      early = rw i.a_is h.early;
      late = rw i.b_is h.late;
    }

module _ {k : Job} {ws : List ℤ} (W : Windows) (e y : ℕ) where
  pub gives_upper : {l : Lag} → IsLag ws e l → {x : ℤ} → x ≡ W l.b t_max +ℤ l.gap.0 → (j : Call) → Serves k ws W j → bound x ≡ finding lag_upper j W e y
  unfolding finding
  gives_upper i q j h = rw (q, h.holds.lags_are, i.b_is, i.gap_is)

  pub gives_lower : {l : Lag} → IsLag ws e l → {x : ℤ} → x ≡ W l.a t_min -ℤ l.gap.0 → (j : Call) → Serves k ws W j → bound x ≡ finding lag_lower j W e y
  unfolding finding
  gives_lower i q j h = rw (q, h.holds.lags_are, i.a_is, i.gap_is)

  -- A reservoir rule by its view.
  pub gives_seen : (m b : Bool) (g : Family) {v : Sight} {f : Finding} → Views k.events (reservoir_of k.reservoir) m b e v → e < k.events → y < k.events → f ≡ seen_rule g v W y →
      (j : Call) → Serves k ws W j → f ≡ finding (reservoir m b g) j W e y
  unfolding finding
  gives_seen m b g {v} s l n t j h =
      let o = h.holds in
      t ∙ rw (s.is W, s.side_is) (ap (side_finding m (family_end g)) (sym (rule_here m b e W h (rw o.events_are l) g y (rw o.events_are n))))
