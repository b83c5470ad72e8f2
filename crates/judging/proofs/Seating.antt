-- A call of one cage or several, as the code for one cage meets it: at an event, the job of that event's cage with the events of other cages neutral; for a lag, all events.
-- Assumes nothing.
use mathlib.Core.Path.{◌≡◌, refl, sym, ap, subst, ◌∙◌}
use mathlib.Core.Bool.{Bool, true, false}
use mathlib.Core.List.{List}
use Prim.Native.Nat.{ℕ, ◌/◌, ◌<◌}
use native.Mathlib.Omega.{arith}
use lib.IntN.{ℤ, nat_abs}
use lib.ListN.{length}
use Rattle.integers.specs.Range.{Within}
use Rattle.integers.proofs.Linear.{ints}
use Rattle.model.specs.Job as model
use Rattle.model.specs.Job.{End, t_min, t_max, h_min, h_max, Windows, windows, produces, events, cage_at, cage_of, cage_word}
use Rattle.model.specs.Standing.{span, Ranged}
use Rattle.model.specs.View.{here, shown}
use Rattle.model.specs.Rules.{Rule, lag_upper, lag_lower, finding}
use Rattle.model.specs.Slips.{Premise, Explanation, rule_of}
use Rattle.model.specs.Reader.{gives}
use Rattle.model.proofs.Alone.{masked, alone, bare, events_apart, home_word, sent_apart, shown_true, gives_alone}
use Rattle.tables.specs.Job.{OfCage, Kinds, Serves, Fit}
use Rattle.tables.specs.declared.Job.{Job}
use Rattle.cages.specs.Masking.{Homed}
use Rattle.rules.specs.Values.{family_of, rule_of as coded, Tries}
use Rattle.rules.proofs.Numbering.{rule_number}
use Rattle.slips.specs.Slip.{headed}
use Rattle.slips.specs.declared.Slip.{Slip}
use Rattle.judging.specs.Ready.{job_of, Sits, Nameable, AtHome}
use Rattle.judging.specs.declared.Call.{Call}
use Rattle.judging.specs.declared.Named.{Named}
use Rattle.judging.proofs.Asking.{events_are}

-- ---- amounts shown or not

shown_kind : (b : Bool) (v w : ℤ) → produces v ≡ produces w → produces (shown b h_max v) ≡ produces (shown b h_max w)
shown_kind true v w e = e
shown_kind false v w e = refl

shown_within : (b : Bool) (k : End) (v : ℤ) → Within v (span k) → Within (shown b k v) (span k)
shown_within true k v w = rw (shown_true k v) w
shown_within false t_min v w = w
shown_within false t_max v w = w
shown_within false h_min v w = omega ints
shown_within false h_max v w = omega ints

-- ---- the call

module _ (c : Call) (seated : Sits c) where
  abbrev k : Job
  k = c.job

  abbrev j : model.Job
  j = job_of c

  counted : events j ≡ k.events
  counted = events_are k c.cages.now c.table.now c.lags.now c.sets.now seated

  pub homed : Homed k.events c.table.now
  homed =
      record {
        few = rw counted at seated.sane.few_events;
        whole = seated.long;
        sign = λ y l. seated.sane.cage_sign y (rw counted l);
      }

  pub cage_there : (e : ℕ) → e < k.events → cage_of j e < length c.cages.now / 4
  cage_there e l = seated.sane.cage_real e (rw counted l)

  -- The numbers of the code's job with any of the call's cages are in range.
  fit_cage : (i : ℕ) → i < length c.cages.now / 4 → {o : Job} → OfCage k.horizon.0 c.cages.now i k.events o → Fit o c.lags.now
  fit_cage i l t =
      let s = seated.sane in
      record {
        horizon_low = rw t.horizon_is s.horizon_low;
        horizon_high = rw t.horizon_is s.horizon_high;
        cage = rw t.reservoir_is (s.cage i l);
        few_events = rw (t.events_are, ← counted) s.few_events;
        few_lags = s.few_lags;
        lag = rw (t.events_are, ← counted) s.lag;
      }

  pub fit : Fit k c.lags.now
  fit =
      fit_cage 0 seated.sane.some_cage (record { horizon_is = refl; reservoir_is = sym seated.first; events_are = refl })

  -- What 14 stands on.
  pub nameable : Nameable c
  nameable =
      record {
        fit = fit;
        grouped = record { few = seated.sane.few_sets; sane = rw (← counted) seated.sane.set_sane };
        events_are = counted;
      }

  -- ---- as a lag meets it

  pub serves_bare : {W : Windows} → Kinds k.events W (windows c.table.now) → Serves k c.lags.now W (bare j)
  serves_bare {W} a =
      let count : events (bare j) ≡ k.events = events_apart j (λ y. true) (cage_at c.cages.now 0) ∙ counted in
      record {
        holds = record {
          horizon_is = refl;
          cages_are = refl;
          reservoir_is = seated.first;
          home_is = λ y l. home_word j (λ y. true) (cage_at c.cages.now 0) y (rw (events_apart j (λ y. true) (cage_at c.cages.now 0)) at l);
          events_are = count;
          lags_are = refl;
        };
        kinds = λ y l. let p = rw count at l in a y p ∙ ap produces (sym (sent_apart j (λ y. true) (cage_at c.cages.now 0) y h_max (rw counted p)));
      }

  -- ---- as a rule at e meets it

  module _ (e : ℕ) (l : e < k.events) (own : Job) (home : OfCage k.horizon.0 c.cages.now (nat_abs (cage_word c.table.now e)) k.events own) where
    pub fit_own : Fit own c.lags.now
    fit_own = fit_cage (cage_of j e) (cage_there e l) home

    module _ {W X : Windows} (masks : (y : ℕ) → y < k.events → (i : End) → X y i ≡ masked (here j e) W y i) where
      pub serves_own : Kinds k.events W (windows c.table.now) → Serves own c.lags.now X (alone j e)
      serves_own a =
          let cage = cage_at c.cages.now (nat_abs (cage_word c.table.now e)) in
          let count : events (alone j e) ≡ k.events = events_apart j (here j e) cage ∙ counted in
          record {
            holds = record {
              horizon_is = sym home.horizon_is;
              cages_are = refl;
              reservoir_is = sym home.reservoir_is;
              home_is = λ y m. home_word j (here j e) cage y (rw (events_apart j (here j e) cage) at m);
              events_are = count ∙ sym home.events_are;
              lags_are = refl;
            };
            kinds = λ y m.
                let p = rw count at m in
                ap produces (masks y p h_max)
                ∙ shown_kind (here j e y) (W y h_max) (windows c.table.now y h_max) (a y p)
                ∙ ap produces (sym (sent_apart j (here j e) cage y h_max (rw counted p)));
          }

      pub range_own : Ranged k.events W → Ranged k.events X
      range_own g = record { few = g.few; range = λ y p i. rw (masks y p i) (shown_within (here j e y) i (W y i) (g.range y p i)) }

  -- Where there is one cage, an event sees all others.
  module _ (one : length c.cages.now ≡ 4) (e : ℕ) (l : e < k.events) where
    cage_0 : (y : ℕ) → y < k.events → cage_of j y ≡ 0
    cage_0 y p = omega (arith, cage_there y p)

    pub none_masked : (W : Windows) (y : ℕ) → y < k.events → (i : End) → W y i ≡ masked (here j e) W y i
    none_masked W y p i =
        let same : here j e y ≡ true = rw (cage_0 y p, cage_0 e l) in
        sym (ap (λ b. shown b i (W y i)) same ∙ shown_true i (W y i))

-- ---- question 16

-- Rules 1 and 2 read neither cages nor amounts.
lag_gives : (j : model.Job) (W : Windows) (x : Explanation) (r : Rule) → rule_of x ≡ r → (r ≡ lag_upper → gives j W x ≡ gives (bare j) W x) × (r ≡ lag_lower → gives j W x ≡ gives (bare j) W x)
unfolding gives finding
lag_gives j W x r e = (λ q. rw (e ∙ q), λ q. rw (e ∙ q))

pub upper_gives_bare : (j : model.Job) (W : Windows) (s : Slip) (fs : List Premise) → coded s.rule ≡ lag_upper → gives j W (headed s fs) ≡ gives (bare j) W (headed s fs)
upper_gives_bare j W s fs e = (lag_gives j W (headed s fs) lag_upper (rule_number (coded s.rule) ∙ e)).0 refl

pub lower_gives_bare : (j : model.Job) (W : Windows) (s : Slip) (fs : List Premise) → coded s.rule ≡ lag_lower → gives j W (headed s fs) ≡ gives (bare j) W (headed s fs)
lower_gives_bare j W s fs e = (lag_gives j W (headed s fs) lag_lower (rule_number (coded s.rule) ∙ e)).1 refl

-- A slip's rule at its event, in the job of the event's cage, on windows X that show the events of that cage alone.
module _ (c : Call) (W X : Windows) (s : Named) (a : AtHome c W s) (own : Job) (home : OfCage c.job.horizon.0 c.cages.now (nat_abs (cage_word c.table.now s.subject)) c.job.events own)
    (masks : (z : ℕ) → z < c.job.events → (i : End) → X z i ≡ masked (here (job_of c) s.subject) W z i) where
  -- It can be tried there.
  pub tries_own : Tries own c.lags.now X (coded s.slip.rule) s.subject s.target
  tries_own =
      record {
        fit = fit_own c a.seated s.subject a.event own home;
        windows = rw home.events_are (range_own c a.seated s.subject a.event own home masks a.range);
        subject = rw (a.rule_is, home.events_are) a.event;
        target = rw home.events_are a.there;
      }

  -- What it gives there it gives in the call.
  pub gives_home : {b : Bool} → ((j : model.Job) → Serves own c.lags.now X j → (fs : List Premise) → b ≡ gives j X (headed s.slip fs)) → (fs : List Premise) → b ≡ gives (job_of c) W (headed s.slip fs)
  gives_home h fs =
      let is = a.rule_is in
      let count = counted c a.seated in
      let e = s.subject_is in
      let y = s.target_is in
      h (alone (job_of c) s.subject) (serves_own c a.seated s.subject a.event own home masks a.kinds) fs
      ∙ sym (subst (λ z. gives (job_of c) W (headed s.slip fs) ≡ gives (alone (job_of c) z) X (headed s.slip fs)) (sym e)
      (gives_alone (job_of c) (headed s.slip fs) W X _ _ (family_of a.variant.family) (rule_number (coded s.slip.rule) ∙ is)
      (rw (← e, count) a.event) (rw (← y, count) a.there)
      (rw (← e, ← y, ← is) a.fits)
      (λ z p i. rw (← e) (masks z (rw count at p) i))))
