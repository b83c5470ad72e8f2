-- What a slip that names what is there gives its later questions.
-- Assumes nothing.
use mathlib.Core.Path.{◌≡◌, refl, ap, ◌∙◌}
use mathlib.Core.List.{List}
use Prim.Native.Nat.{ℕ}
use mathlib.Core.Bool.{Bool, true, false, cond}
use Prim.Native.Nat.{◌<◌, ◌≤◌}
use native.Mathlib.Omega.{arith}
use lib.Dec.{T}
use lib.IntN.{ℤ, pos}
use lib.Signed.{le_z}
use Rattle.integers.specs.Range.{Within, eq_z}
use Rattle.integers.proofs.Linear.{ints}
use Rattle.model.specs.Job as model
use Rattle.model.specs.Job.{End, t_min, t_max, h_min, h_max, meets, Windows, windows, produces, Inside, events, begun}
use Rattle.model.specs.Standing.{span, Ranged}
use Rattle.model.specs.Rules.{Finding, lag_upper, lag_lower, total, finding, own_end, effect, failed, subjects, target_fits}
use Rattle.model.specs.Slips.{Premise}
use Rattle.model.specs.Reader.{names, premises_fit, all_true, narrowed, as_strict, gives}
use Rattle.model.proofs.Agree.{gives_agree}
use Rattle.model.proofs.Order.{inside_narrowed, narrowed_in}
use Rattle.model.proofs.Sound.{named}
use Rattle.tables.specs.Job.{Kinds, Fit}
use Rattle.totals.proofs.Summing.{adds_at}
use Rattle.rules.specs.Values.{variant_of, rule_of, Tries}
use Rattle.rules.specs.declared.Variant.{Variant}
use Rattle.rules.proofs.Numbering.{rule_number}
use Rattle.slips.specs.Slip.{headed, explanation_of}
use Rattle.judging.specs.Ready.{job_of, Sits, Sought, AtHome, Totalled, Belongs, Same}
use Rattle.judging.specs.declared.Call.{Call}
use Rattle.judging.specs.declared.Named.{Named}
use Rattle.judging.proofs.Asking.{events_are}
use Rattle.judging.proofs.Facts.{fit_wide}

-- ---- ranges and deliveries

between : (k : End) (a x w : ℤ) (n : ℕ) → Within a n → Within w n → T (meets k a x) → T (meets k x w) → Within x n
between t_min a x w n p q f g = omega ints
between t_max a x w n p q f g = omega ints
between h_min a x w n p q f g = omega ints
between h_max a x w n p q f g = omega ints

-- The fact windows lie between the wide ones and the standing ones.
pub narrowed_range : {n : ℕ} {wide W : Windows} (fs : List Premise) → Ranged n wide → Ranged n W → Inside n wide W → T (all_true W fs) → Ranged n (narrowed wide fs)
narrowed_range {n} {wide} {W} fs p q i t =
    let a = narrowed_in n wide fs in
    let b = inside_narrowed i fs t in
    record { few = p.few; range = λ y l k. between k (wide y k) (narrowed wide fs y k) (W y k) (span k) (p.range y l k) (q.range y l k) (a.inside y l k) (b.inside y l k) }

-- So the same are deliveries.
pub narrowed_kinds : {n : ℕ} {wide W : Windows} (fs : List Premise) → Inside n wide W → Kinds n wide W → T (all_true W fs) → Kinds n (narrowed wide fs) W
narrowed_kinds {n} {wide} {W} fs i k t y l =
    go (produces (W y h_max)) refl ((narrowed_in n wide fs).inside y l h_max) ((inside_narrowed i fs t).inside y l h_max)
  where
    go : (p : Bool) → produces (W y h_max) ≡ p → T (le_z (narrowed wide fs y h_max) (wide y h_max)) → T (le_z (W y h_max) (narrowed wide fs y h_max)) → produces (narrowed wide fs y h_max) ≡ p
    go true q a b = omega ints
    go false q a b = let z = k y l ∙ q in omega ints

-- ---- question 16

-- A slip's rule gives its conclusion as its finding does.
pub gives_by : (j : model.Job) (W : Windows) (s : Named) (fs : List Premise) {f : Finding} {r : Bool} → f ≡ finding (rule_of s.slip.rule) j W s.subject s.target →
    r ≡ cond (eq_z s.slip.kind.0 (pos 0)) (failed (effect (own_end (rule_of s.slip.rule)) W s.target f)) (as_strict (own_end (rule_of s.slip.rule)) s.slip.value.0 f) → r ≡ gives j W (headed s.slip fs)
unfolding gives
gives_by j W s fs p h = h ∙ rw (rule_number (rule_of s.slip.rule), p, s.subject_is, s.target_is)

-- ---- its rule can be tried

-- On windows that agree with those that it was asked of.
module _ (c : Call) (W X : Windows) (s : Named) (a : Sought c W s) (same : Same X W) where
  abbrev j : model.Job
  j = job_of c

  few : c.job.events ≤ 64
  few = a.range.few

  counted : events j ≡ c.job.events
  counted = events_are c.job c.cages.now c.table.now c.lags.now c.sets.now a.seated

  range : Ranged c.job.events X
  range = record { few = few; range = λ z p i. rw (same z (let f = few in omega arith) i) (a.range.range z p i) }

  pub kinds : Kinds c.job.events X (windows c.table.now)
  kinds z p = ap produces (same z (let f = few in omega arith) h_max) ∙ a.kinds z p

  there : s.target < c.job.events
  there = rw (s.target_is, ← counted) (named j (explanation_of s.slip) a.named).target_real

  -- The subject is one of the rule's.
  subject : s.subject < subjects (rule_of s.slip.rule) j
  subject = rw s.subject_is (rw (rule_number (rule_of s.slip.rule)) at (named j (explanation_of s.slip) a.named).subject_real)

  -- The target fits it.
  fits : T (target_fits (rule_of s.slip.rule) j s.subject s.target)
  fits = rw (s.subject_is, s.target_is) (rw (rule_number (rule_of s.slip.rule)) at (named j (explanation_of s.slip) a.named).target_right)

  -- A lag's.
  pub tries_upper : Fit c.job c.lags.now → rule_of s.slip.rule ≡ lag_upper → Tries c.job c.lags.now X (rule_of s.slip.rule) s.subject s.target
  tries_upper f e = record { fit = f; windows = range; subject = rw e (rw e at subject); target = there }

  pub tries_lower : Fit c.job c.lags.now → rule_of s.slip.rule ≡ lag_lower → Tries c.job c.lags.now X (rule_of s.slip.rule) s.subject s.target
  tries_lower f e = record { fit = f; windows = range; subject = rw e (rw e at subject); target = there }

  -- A set's.
  pub totalled : (m : Bool) → rule_of s.slip.rule ≡ total m → Totalled c.sets.now X m s × Belongs c.sets.now j s.subject s.target
  totalled m is =
      let e = rw is at subject in
      let sane = a.seated.sane.set_sane s.subject e in
      let most = a.seated.sane.few_sets in (
        record {
          rule_is = is;
          few = omega arith;
          adds = adds_at (rw counted at sane) range;
          there = omega (arith, there, few);
          low = range.range s.target there h_min;
          high = range.range s.target there h_max;
        },
        record { sets_are = refl; sane = sane; event = rw counted there; member = rw is at fits },
      )

  -- That of a rule at an event.
  pub at_home : (v : Variant) → rule_of s.slip.rule ≡ variant_of v → AtHome c X s
  at_home v is =
      record {
        seated = a.seated;
        range = range;
        kinds = kinds;
        variant = v;
        rule_is = is;
        event = rw counted at (rw is at subject);
        there = there;
        fits = fits;
      }

  -- The rule gives on them what it gives there.
  pub agreed : gives j X (explanation_of s.slip) ≡ gives j W (explanation_of s.slip)
  agreed = let f = a.seated.sane.few_events in gives_agree j X W (λ y l i. same y (omega arith) i) a.seated.sane (explanation_of s.slip) a.named

-- Its facts name what is there.
pub facts_fit : (c : Call) → Sits c → (s : Named) → T (names (job_of c) (explanation_of s.slip)) → T (premises_fit 64 (explanation_of s.slip).premises)
facts_fit c seated s t =
    let few = seated.sane.few_events in
    fit_wide (events (job_of c)) (explanation_of s.slip).premises few (named (job_of c) (explanation_of s.slip) t).premises_real
