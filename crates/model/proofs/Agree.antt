-- Windows and views that agree on the job's events give the same levels, findings, effects, facts and slips, and the same answers to questions 15 and 16. So windows may be kept in an array, and deliveries told by the amounts there.
-- Assumes nothing.
use mathlib.Core.Path.{◌≡◌, refl, sym, ap, ap₂, ◌∙◌}
use mathlib.Core.Bool.{Bool, true, false, not, cond, ◌&&◌, ◌||◌}
use mathlib.Core.List.{List, [], ◌∷◌, ◌++◌}
use Prim.Native.Nat.{ℕ, zero, suc, ◌<◌, ◌≤◌}
use native.Mathlib.Omega.{arith}
use lib.Dec.{T, eqb}
use lib.IntN.{ℤ, pos, ◌+ℤ◌, ◌-ℤ◌}
use lib.Signed.{le_z, lt_z}
use Rattle.integers.specs.Range.{eq_z}
use Rattle.integers.proofs.Sums.{sum_ext}
use Rattle.integers.proofs.Tests.{true_is}
use Rattle.model.specs.Job.{End, t_min, t_max, h_min, h_max, opposite, meets, Windows, Job, lag_a, lag_b, lag_d, events, ahead, counts_later, home, any, in_set, consumes, produces}
use Rattle.model.specs.Standing.{Sane, SaneLags, Standing}
use Rattle.model.specs.View.{side_end, side_value, View, view, seen, view_of, shown, here, look}
use Rattle.model.specs.Levels.{placed, place, gain, gains, most_in, most, sure_gain, sure_part, e_min, e_max, stands}
use Rattle.model.specs.Rules.{Finding, nothing, clash, bound, given_if, counts_from, earlier, possible_producer, reached_at, earliest, targeted, Family, level, time, height, Rule, lag_upper, lag_lower, reservoir, rule, family_rule, family_end, side_finding, finding, own_end, Effect, idle, narrows, fails, effect, failed, subjects, is_narrowing, total, total_limit, others}
use Rattle.model.specs.Facts.{left_out, surely_consumed, late, early, cites, says, latest, quotes_top, quotes, quoted, drops, family_cites, family_says, first_late, last_early, total_cites}
use Rattle.model.specs.Slips.{Premise, Explanation, quote, premise_list, concluded_kind, concluded_value, explanation, premise_event, premise_end, rule_of, subject_of, target_of}
use Rattle.model.specs.Questions.{◌then◌, ask}
use Rattle.model.specs.Reader.{premises_fit, all_true, same_end, narrow, narrowed, is_conflict, as_strict, names, gives, fits_there, slip_questions}
use Rattle.model.proofs.Levels.{kind_kept}
use Rattle.model.proofs.Order.{premise_fits}
use Rattle.model.proofs.Sound.{named}

-- The same windows of the first n events.
abbrev pub Agree : ℕ → Windows → Windows → Type 0
Agree n W X = (y : ℕ) → y < n → (k : End) → W y k ≡ X y k

pub agree_sym : (n : ℕ) (W X : Windows) → Agree n W X → Agree n X W
agree_sym n W X a y l k = sym (a y l k)

pub look_agree : (own : ℕ → Bool) (m : Bool) (n : ℕ) (W X : Windows) → Agree n W X → Agree n (look own m W) (look own m X)
look_agree own m n W X a y l k = ap (λ v. shown (own y) k (side_value m k v)) (a y l (side_end m k))

-- ---- levels, rules and facts

pub any_agree : (n : ℕ) (p q : ℕ → Bool) → ((y : ℕ) → y < n → p y ≡ q y) → any n p ≡ any n q
unfolding any
any_agree zero p q h = refl
any_agree (suc n) p q h = ap₂ ◌||◌ (any_agree n p q (λ y l. h y (omega arith))) (h n (omega arith))

-- A view with another test for "before".
abbrev pub with_before : View → (ℕ → Bool) → View
with_before E s =
    record { subject = E.subject; events = E.events; limit = E.limit; opening = E.opening; before = s }

-- The test may be another one too, if it says the same of the events; of the view's own, `with_before E E.before` is E.
module _ (E : View) (s : ℕ → Bool) (same : (y : ℕ) → y < E.events → E.before y ≡ s y) (W X : Windows) (a : Agree E.events W X) where
  abbrev F : View
  F = with_before E s

  pub place_agree : (u v : ℤ) (y : ℕ) → y < E.events → place E W u v y ≡ place F X u v y
  place_agree u v y l =
      ap₂ (λ p q. placed (eqb y E.subject) (E.before y) (ahead (E.before y) p u) (ahead (E.before y) q v)) (a y l t_max) (a y l t_min)
      ∙ ap (λ b. placed (eqb y E.subject) b (ahead b (X y t_max) u) (ahead b (X y t_min) v)) (same y l)

  pub most_in_agree : (u v : ℤ) → most_in E W u v ≡ most_in F X u v
  unfolding most_in
  most_in_agree u v =
      ap (λ x. E.opening +ℤ x) (sum_ext E.events (gains E W u v) (gains F X u v) (λ y l. ap₂ gain (place_agree u v y l) (a y l h_max)))

  module _ (r : E.subject < E.events) where
    -- e's own window agrees as well.
    pub place_own : (y : ℕ) → y < E.events → stands E W y ≡ stands F X y
    place_own y l = place_agree (e_min E W) (e_max E W) y l ∙ ap₂ (λ u v. place F X u v y) (a E.subject r t_min) (a E.subject r t_max)

    pub most_agree : most E W ≡ most F X
    most_agree = most_in_agree (e_min E W) (e_max E W) ∙ ap₂ (λ u v. most_in F X u v) (a E.subject r t_min) (a E.subject r t_max)

    pub sure_part_agree : sure_part E W ≡ sure_part F X
    unfolding sure_part
    sure_part_agree =
        ap (λ x. E.opening +ℤ x)
        (sum_ext E.events (λ y. sure_gain (stands E W y) (W y h_max)) (λ y. sure_gain (stands F X y) (X y h_max)) (λ y l. ap₂ sure_gain (place_own y l) (a y l h_max)))

    pub reached_at_agree : (y : ℕ) → y < E.events → reached_at E W y ≡ reached_at F X y
    reached_at_agree y l =
        ap₂ ◌&&◌ (ap₂ possible_producer (place_own y l) (a y l h_max))
        (ap (le_z E.limit) (most_in_agree (e_min E W) (counts_from (E.before y) (W y t_min)) ∙ ap₂ (λ u c. most_in F X u c) (a E.subject r t_min) (ap₂ counts_from (same y l) (a y l t_min))))

    pub earliest_agree : (k : ℕ) → k ≤ E.events → earliest E W k ≡ earliest F X k
    unfolding earliest
    earliest_agree zero l = refl
    earliest_agree (suc y) l =
        ap₂ earlier (earliest_agree y (omega arith)) (ap₂ (λ b c. given_if b (bound c)) (reached_at_agree y (omega arith)) (ap₂ counts_from (same y (omega arith)) (a y (omega arith) t_min)))

    pub family_rule_agree : (f : Family) (y : ℕ) → y < E.events → family_rule f E W y ≡ family_rule f F X y
    family_rule_agree level y l = ap (λ x. given_if (lt_z x E.limit) clash) most_agree
    family_rule_agree time y l =
        ap₂ (λ x g. given_if (lt_z x E.limit) g) sure_part_agree (earliest_agree E.events (omega arith))
    family_rule_agree height y l =
        ap₂ given_if (ap₂ targeted (place_own y l) (a y l h_max)) (ap₂ (λ x h. bound (E.limit -ℤ (x -ℤ h))) most_agree (a y l h_max))

  -- Facts, with u..v for e's time window.
  module _ (u v : ℤ) where
    pub late_agree : (y : ℕ) → y < E.events → late E W u v y ≡ late F X u v y
    late_agree y l = ap₂ (λ p h. not (eqb y E.subject) && left_out p h) (place_agree u v y l) (a y l h_max)

    pub early_agree : (y : ℕ) → y < E.events → early E W u v y ≡ early F X u v y
    early_agree y l = ap₂ (λ p h. not (eqb y E.subject) && surely_consumed p h) (place_agree u v y l) (a y l h_max)

    pub cites_agree : (top : Bool) (dropped : ℕ → Bool) (z : ℕ) → z < E.events → (k : End) → cites E W u v top dropped z k ≡ cites F X u v top dropped z k
    cites_agree top dropped z l t_min =
        let all_early = any_agree E.events (early E W u v) (early F X u v) early_agree in simp (all_early, late_agree z l)
    cites_agree top dropped z l t_max =
        let all_late = any_agree E.events (late E W u v) (late F X u v) late_agree in simp (all_late, early_agree z l)
    cites_agree top dropped z l h_min = refl
    cites_agree top dropped z l h_max = simp (place_agree u v z l, a z l h_max)

    pub says_agree : (z : ℕ) → z < E.events → (k : End) → says E W u v z k ≡ says F X u v z k
    says_agree z l t_min = ap (λ b. cond (eqb z E.subject) u (first_late b v)) (same z l)
    says_agree z l t_max = ap (λ b. cond (eqb z E.subject) v (last_early b u)) (same z l)
    says_agree z l h_min = a z l h_min
    says_agree z l h_max = a z l h_max

-- On standing windows a job's view may tell deliveries by the amounts at hand.
pub before_here : (j : Job) (m b : Bool) {W : Windows} → Standing j W → (e y : ℕ) → y < events j → (view j m b e).before y ≡ (b || (not m && counts_later (home j e) (W y h_max)))
before_here j m b {W} std e y l =
    ap (λ p. b || (not m && (eq_z (home j e).cover (pos 0) && p))) (sym (kind_kept j W std.within std.heights y l))

module _ (j : Job) (m b : Bool) (e : ℕ) (W : Windows) where
  abbrev pub at_hand : View
  at_hand = view_of (events j) (home j e) (λ y. W y h_max) m b e

  module _ (std : Standing j W) where
    pub rule_at_hand : e < events j → (f : Family) (y : ℕ) → y < events j → family_rule f (view j m b e) (seen j m e W) y ≡ family_rule f at_hand (seen j m e W) y
    rule_at_hand =
        family_rule_agree (view j m b e) at_hand.before (before_here j m b std e) (seen j m e W) (seen j m e W) (λ z l k. refl)

    pub cites_at_hand : (f : Family) (y : ℕ) (x : Effect) (z : ℕ) → z < events j → (k : End) → family_cites f (view j m b e) (seen j m e W) y x z k ≡ family_cites f at_hand (seen j m e W) y x z k
    cites_at_hand f y x =
        cites_agree (view j m b e) at_hand.before (before_here j m b std e) (seen j m e W) (seen j m e W) (λ z l k. refl) (e_min at_hand (seen j m e W)) (latest f (e_max at_hand (seen j m e W)) x) (quotes_top f) (drops f x y)

    pub says_at_hand : (f : Family) (x : Effect) (z : ℕ) → z < events j → (k : End) → family_says f (view j m b e) (seen j m e W) x z k ≡ family_says f at_hand (seen j m e W) x z k
    says_at_hand f x =
        says_agree (view j m b e) at_hand.before (before_here j m b std e) (seen j m e W) (seen j m e W) (λ z l k. refl) (e_min at_hand (seen j m e W)) (latest f (e_max at_hand (seen j m e W)) x)

pub premise_list_agree : (n : ℕ) (c d : ℕ → End → Bool) (v w : ℕ → End → ℤ) → ((z : ℕ) → z < n → (k : End) → c z k ≡ d z k) → ((z : ℕ) → z < n → (k : End) → v z k ≡ w z k) → premise_list n c v ≡ premise_list n d w
unfolding premise_list
premise_list_agree zero c d v w h g = refl
premise_list_agree (suc n) c d v w h g =
    let one : (k : End) → quote (c n k) n k (v n k) ≡ quote (d n k) n k (w n k) = λ k. ap₂ (λ b x. quote b n k x) (h n (omega arith) k) (g n (omega arith) k) in
    ap₂ ◌++◌ (premise_list_agree n c d v w (λ z l. h z (omega arith)) (λ z l. g z (omega arith)))
    (ap₂ ◌++◌ (one t_min) (ap₂ ◌++◌ (one t_max) (ap₂ ◌++◌ (one h_min) (one h_max))))

-- ---- sets

others_agree : (n : ℕ) (W X : Windows) → Agree n W X → (y : ℕ) → others n W y ≡ others n X y
unfolding others
others_agree n W X a y =
    sum_ext n (λ z. cond (eqb z y) (pos 0) (W z h_max)) (λ z. cond (eqb z y) (pos 0) (X z h_max)) (λ z l. ap (λ v. cond (eqb z y) (pos 0) v) (a z l h_max))

total_cites_agree : (n : ℕ) (W X : Windows) → Agree n W X → (y : ℕ) (f : Bool) (z : ℕ) → z < n → (k : End) → total_cites W y f z k ≡ total_cites X y f z k
total_cites_agree n W X a y f z l t_min = refl
total_cites_agree n W X a y f z l t_max = refl
total_cites_agree n W X a y f z l h_min = refl
total_cites_agree n W X a y f z l h_max = ap (λ v. cond (eqb z y) f (consumes v || produces v)) (a z l h_max)

-- ---- a job's rules and slips

module _ (j : Job) (W X : Windows) (a : Agree (events j) W X) where
  pub effect_agree : (k : End) (y : ℕ) → y < events j → (g : Finding) → effect k W y g ≡ effect k X y g
  effect_agree k y l nothing = refl
  effect_agree k y l clash = refl
  effect_agree k y l (bound v) =
      ap₂ (λ p q. cond (meets (opposite k) p v) (cond (meets k v q) idle (narrows v)) fails) (a y l (opposite k)) (a y l k)

  pub finding_agree : SaneLags j → (r : Rule) (e y : ℕ) → e < subjects r j → y < events j → finding r j W e y ≡ finding r j X e y
  unfolding finding
  finding_agree real lag_upper g y l m = ap (λ t. bound (t +ℤ lag_d j g)) (a (lag_b j g) (real g l).real_b t_max)
  finding_agree real lag_lower g y l m = ap (λ t. bound (t -ℤ lag_d j g)) (a (lag_a j g) (real g l).real_a t_min)
  finding_agree real (reservoir m b f) e y l k =
      ap (side_finding m (family_end f))
      (family_rule_agree (view j m b e) (view j m b e).before (λ y l. refl) (seen j m e W) (seen j m e X) (look_agree (here j e) m (events j) W X a) l f y k)
  finding_agree real (total m) g y l k =
      ap (λ v. side_finding m h_min (bound (total_limit m j g -ℤ v))) (others_agree (events j) (look (in_set j g) m W) (look (in_set j g) m X) (look_agree (in_set j g) m (events j) W X a) y)

  -- The effect of an attempt.
  pub outcome_agree : SaneLags j → (r : Rule) (e y : ℕ) → e < subjects r j → y < events j → effect (own_end r) W y (finding r j W e y) ≡ effect (own_end r) X y (finding r j X e y)
  outcome_agree real r e y l m =
      effect_agree (own_end r) y m (finding r j W e y) ∙ ap (effect (own_end r) X y) (finding_agree real r e y l m)

  pub quotes_agree : (r : Rule) (e y : ℕ) (x : Effect) → e < subjects r j → (z : ℕ) → z < events j → (k : End) → quotes r j W e y x z k ≡ quotes r j X e y x z k
  unfolding quotes
  quotes_agree lag_upper g y x l z m k = refl
  quotes_agree lag_lower g y x l z m k = refl
  quotes_agree (reservoir o b f) e y x l z m k =
      let E = view j o b e in
      let A = look_agree (here j e) o (events j) W X a in
      cites_agree E E.before (λ y l. refl) (seen j o e W) (seen j o e X) A (e_min E (seen j o e W)) (latest f (e_max E (seen j o e W)) x) (quotes_top f) (drops f x y) z m (side_end o k)
      ∙ ap₂ (λ u v. cites E (seen j o e X) u (latest f v x) (quotes_top f) (drops f x y) z (side_end o k)) (A e l t_min) (A e l t_max)
  quotes_agree (total o) g y x l z m k =
      total_cites_agree (events j) (look (in_set j g) o W) (look (in_set j g) o X) (look_agree (in_set j g) o (events j) W X a) y (failed x) z m (side_end o k)

  pub quoted_agree : (r : Rule) (e y : ℕ) (x : Effect) → e < subjects r j → (z : ℕ) → z < events j → (k : End) → quoted r j W e y x z k ≡ quoted r j X e y x z k
  unfolding quoted
  quoted_agree lag_upper g y x l z m k = a z m k
  quoted_agree lag_lower g y x l z m k = a z m k
  quoted_agree (reservoir o b f) e y x l z m k =
      let E = view j o b e in
      let A = look_agree (here j e) o (events j) W X a in
      ap (side_value o k)
      (says_agree E E.before (λ y l. refl) (seen j o e W) (seen j o e X) A (e_min E (seen j o e W)) (latest f (e_max E (seen j o e W)) x) z m (side_end o k)
      ∙ ap₂ (λ u v. says E (seen j o e X) u (latest f v x) z (side_end o k)) (A e l t_min) (A e l t_max))
  quoted_agree (total o) g y x l z m k = a z m k

  pub premises_agree : (r : Rule) (e y : ℕ) (x : Effect) → e < subjects r j → premise_list (events j) (quotes r j W e y x) (quoted r j W e y x) ≡ premise_list (events j) (quotes r j X e y x) (quoted r j X e y x)
  premises_agree r e y x l =
      premise_list_agree (events j) (quotes r j W e y x) (quotes r j X e y x) (quoted r j W e y x) (quoted r j X e y x) (quotes_agree r e y x l) (quoted_agree r e y x l)

  pub explanation_agree : (r : ℕ) (e y : ℕ) (x : Effect) → e < subjects (rule r) j → explanation r j W e y x ≡ explanation r j X e y x
  explanation_agree r e y x l =
      λ i. record {
        rule = pos r;
        subject = pos e;
        target = pos y;
        kind = pos (concluded_kind (rule r) x);
        value = concluded_value x;
        premises = premises_agree (rule r) e y x l i;
      }

  -- ---- questions 15 and 16

  pub all_true_agree : (fs : List Premise) → T (premises_fit (events j) fs) → all_true W fs ≡ all_true X fs
  unfolding all_true
  all_true_agree [] t = refl
  all_true_agree (f ∷ fs) t =
      let p = premise_fits (events j) f fs t in
      ap₂ ◌&&◌ (ap (meets (premise_end f) f.value) (a (premise_event f) p.0 (premise_end f))) (all_true_agree fs p.1)

pub narrow_agree : (n : ℕ) (W X : Windows) → Agree n W X → (y : ℕ) (k : End) (v : ℤ) → Agree n (narrow W y k v) (narrow X y k v)
narrow_agree n W X a y k v z l i =
    ap (λ x. cond (same_end i k && eqb z y && not (meets k v x)) v x) (a z l i)

pub narrowed_agree : (n : ℕ) (fs : List Premise) (W X : Windows) → Agree n W X → Agree n (narrowed W fs) (narrowed X fs)
unfolding narrowed
narrowed_agree n [] W X a = a
narrowed_agree n (f ∷ fs) W X a =
    narrowed_agree n fs (narrow W (premise_event f) (premise_end f) f.value) (narrow X (premise_event f) (premise_end f) f.value) (narrow_agree n W X a (premise_event f) (premise_end f) f.value)

pub gives_agree : (j : Job) (W X : Windows) → Agree (events j) W X → Sane j → (x : Explanation) → T (names j x) → gives j W x ≡ gives j X x
unfolding gives
gives_agree j W X a sane x t =
    let o = named j x t in
    let r = rule_of x in
    ap₂ (cond (is_conflict x))
    (ap failed (outcome_agree j W X a sane.lag r (subject_of x) (target_of x) o.subject_real o.target_real))
    (ap (as_strict (own_end r) x.value) (finding_agree j W X a sane.lag r (subject_of x) (target_of x) o.subject_real o.target_real))

-- Questions 14 to 18 of a slip, where the widest windows agree and the standing ones.
pub slip_questions_agree : (j : Job) (Y Z W X : Windows) → Agree (events j) Y Z → Agree (events j) W X → Sane j → (x : Explanation) (left : ℕ) → slip_questions j Y W x left ≡ slip_questions j Z X x left
unfolding slip_questions
slip_questions_agree j Y Z W X b a sane x left = go (names j x) refl
  where
    go : (t : Bool) → names j x ≡ t →
        (ask 14 t then ask 15 (all_true W x.premises) then ask 16 (gives j (narrowed Y x.premises) x) then fits_there W x left)
        ≡ (ask 14 t then ask 15 (all_true X x.premises) then ask 16 (gives j (narrowed Z x.premises) x) then fits_there X x left)
    go false q = refl
    go true q =
        let o = named j x (true_is q) in
        ap₂ ◌then◌ (ap (ask 15) (all_true_agree j W X a x.premises o.premises_real))
        (ap₂ ◌then◌ (ap (ask 16) (gives_agree j (narrowed Y x.premises) (narrowed Z x.premises) (narrowed_agree (events j) x.premises Y Z b) sane x (true_is q)))
        (ap (λ z. cond (is_conflict x) (ask 18 (eqb left 0)) (ask 17 (is_narrowing z))) (effect_agree j W X a (own_end (rule_of x)) (target_of x) o.target_real (bound x.value))))
