-- Every rule is sound: what it gives on windows holds of every legal schedule in them. So does what a slip concludes that its rule gives.
-- A schedule is windows whose ends coincide, and there the level is the stock: so the level bounds the stock of every schedule in the windows.
-- Assumes nothing.
use mathlib.Core.Path.{◌≡◌, refl, sym, ap, subst, ◌∙◌}
use mathlib.Core.Bool.{Bool, true, false, not, cond, ◌&&◌}
use Prim.Native.Nat.{ℕ, ◌<◌}
use lib.Dec.{T, eqb, eqb→eq, T_not}
use lib.IntN.{ℤ, pos, neg_ℤ, neg_ℤ-+ℤ, ◌+ℤ◌, ◌-ℤ◌}
use lib.Signed.{le_z, lt_z, ◌≤ℤ◌, ◌<ℤ◌}
use Rattle.integers.specs.Sum.{sum}
use Rattle.integers.proofs.Linear.{ints, add_law, sub_law, neg_law}
use Rattle.integers.proofs.Sums.{sum_ext, sum_neg, sum_le, sum_le_but}
use Rattle.integers.specs.Range.{eq_z}
use Rattle.integers.proofs.Tests.{same_test, true_is}
use Rattle.model.specs.Job.{End, t_min, t_max, h_min, h_max, opposite, meets, Windows, Job, Schedule, value, Inside, stock, Legal, lag_a, lag_b, lag_d, events, ahead, counts_later, produces, widest, home, cage, cages, cage_of, brings, in_set}
use Rattle.model.specs.Standing.{Sane}
use Rattle.model.specs.View.{side_end, View, view, seen, side_value, side_limit, here, side, look}
use Rattle.model.specs.Levels.{placed, place, gain, gains, most_in, most, e_min, e_max, stands}
use Rattle.model.specs.Rules.{Finding, nothing, clash, bound, given_if, time_rule, targeted, Family, level, time, height, Rule, lag_upper, lag_lower, reservoir, family_rule, family_end, side_finding, finding, own_end, Effect, idle, narrows, fails, effect, failed, subjects, target_fits, total, total_limit, total_rule, others}
use Rattle.model.specs.Slips.{Explanation, rule_of, subject_of, target_of}
use Rattle.model.specs.Questions.{is_event}
use Rattle.model.specs.Reader.{kind_fits, premises_fit, names, all_true, narrowed, is_conflict, as_strict, gives}
use Rattle.model.proofs.Totals.{others_bound, total_low}
use Rattle.model.proofs.Effects.{aims, fits_aims, across, Quiet, quiet_here, family_quiet}
use Rattle.model.proofs.Order.{meets_trans, opposite_meets, event_below, narrowed_in, inside_narrowed, inside_trans}
use Rattle.model.proofs.Levels.{not_lt, ahead_self, Wider, place_weaker, gains_weaker, most_weaker, target_gain, target_adds, Signed, signed_within, add_le, kind_kept}
use Rattle.model.proofs.Sides.{Point, look_point, look_inside, look_signed, shown_is}
use Rattle.model.proofs.Time.{Waits, Timed, timed}

-- ---- the stock before or by a moment

-- The stock of a schedule, seen in a view, before or by the moment t.
unfoldable pub stock_at : View → Windows → ℤ → ℤ
stock_at E x t = E.opening +ℤ sum E.events (λ y. cond (ahead (E.before y) (x y t_min) t) (x y h_max) (pos 0))

abbrev adds : View → Windows → ℤ → ℕ → ℤ
adds E x t y = cond (ahead (E.before y) (x y t_min) t) (x y h_max) (pos 0)

-- The limit holds before (by) every moment.
abbrev pub Low : View → Windows → Type 0
Low E x = (t : ℤ) → E.limit ≤ℤ stock_at E x t

cond_neg : (b c : Bool) (h : ℤ) → cond b (cond c (neg_ℤ h) (pos 0)) (pos 0) ≡ neg_ℤ (cond b (cond c h (pos 0)) (pos 0))
cond_neg true true h = refl
cond_neg true false h = refl
cond_neg false c h = refl

-- The stock of e's cage; in the mirror it is turned.
seen_stock : (j : Job) (m b : Bool) (e : ℕ) (p : Schedule) (t : ℤ) → stock_at (view j m b e) (seen j m e (value p)) t ≡ side_value m h_max (stock (view j m b e).before j (cage_of j e) p t)
unfolding stock_at stock
seen_stock j false b e p t = refl
seen_stock j true b e p t =
    let f : ℕ → ℤ = λ y. cond (ahead ((view j true b e).before y) (p.time y) t) (brings j (cage_of j e) p y) (pos 0) in
    ap (λ x. neg_ℤ (home j e).initial +ℤ x)
    (sum_ext (events j) (adds (view j true b e) (seen j true e (value p)) t) (λ y. neg_ℤ (f y)) (λ y l. cond_neg (ahead ((view j true b e).before y) (p.time y) t) (here j e y) (p.height y))
    ∙ sum_neg (events j) f)
    ∙ sym (neg_ℤ-+ℤ (home j e).initial (sum (events j) f))

-- Before a moment is by the minute before it.
before_is : (a t : ℤ) → lt_z a t ≡ le_z a (t -ℤ pos 1)
before_is a t = same_test (lt_z a t) (le_z a (t -ℤ pos 1)) (λ h. omega (ints, sub_law t (pos 1))) (λ h. omega (ints, sub_law t (pos 1)))

-- Where only deliveries count later, no more counts than strictly before.
later_adds : (b : Bool) (h a t : ℤ) → (b ≡ false → h ≤ℤ pos 0) → cond (ahead b a t) h (pos 0) ≤ℤ cond (lt_z a t) h (pos 0)
later_adds true h a t e = omega ints
later_adds false h a t e = go (le_z a t) (lt_z a t) (λ q. omega ints) (e refl)
  where
    go : (x y : Bool) → (T y → T x) → h ≤ℤ pos 0 → cond x h (pos 0) ≤ℤ cond y h (pos 0)
    go true true q l = omega ints
    go true false q l = omega ints
    go false true q l = absurd (q tt)
    go false false q l = omega ints

brings_no : (b : Bool) (h : ℤ) → produces h ≡ false → cond b h (pos 0) ≤ℤ pos 0
brings_no true h e = omega ints
brings_no false h e = omega ints

module _ (j : Job) (c : ℕ) (p : Schedule) where
  -- What an event adds by t, before t if s.
  abbrev part : Bool → ℤ → ℕ → ℤ
  part s t y = cond (ahead s (p.time y) t) (brings j c p y) (pos 0)

  stock_before : (t : ℤ) → stock (λ y. true) j c p t ≡ stock (λ y. false) j c p (t -ℤ pos 1)
  unfolding stock
  stock_before t =
      ap (λ x. (cage j c).initial +ℤ x)
      (sum_ext (events j) (part true t) (part false (t -ℤ pos 1)) (λ y l. ap (λ b. cond b (brings j c p y) (pos 0)) (before_is (p.time y) t)))

  stock_same : (s r : ℕ → Bool) (t : ℤ) → ((y : ℕ) → y < events j → s y ≡ r y) → stock s j c p t ≡ stock r j c p t
  unfolding stock
  stock_same s r t h =
      ap (λ x. (cage j c).initial +ℤ x) (sum_ext (events j) (λ y. part (s y) t y) (λ y. part (r y) t y) (λ y l. ap (λ b. part b t y) (h y l)))

  deliveries_later : (t : ℤ) → stock (λ y. produces (p.height y)) j c p t ≤ℤ stock (λ y. true) j c p t
  unfolding stock
  deliveries_later t =
      add_le (cage j c).initial _ _
      (sum_le (events j) (λ y. part (produces (p.height y)) t y) (part true t) (λ y l. later_adds (produces (p.height y)) (brings j c p y) (p.time y) t (brings_no (eqb (cage_of j y) c) (p.height y))))

  -- The low limit by cover holds before every moment as well.
  low_before : ((m : ℤ) → (cage j c).min_level ≤ℤ stock (λ y. counts_later (cage j c) (p.height y)) j c p m) → (t : ℤ) → (cage j c).min_level ≤ℤ stock (λ y. true) j c p t
  low_before h t = go (eq_z (cage j c).cover (pos 0)) h
    where
      go : (o : Bool) → ((m : ℤ) → (cage j c).min_level ≤ℤ stock (λ y. o && produces (p.height y)) j c p m) → (cage j c).min_level ≤ℤ stock (λ y. true) j c p t
      go true f = let a = f t in let b = deliveries_later t in omega ints
      go false f = let a = f (t -ℤ pos 1) in let b = stock_before t in omega ints

-- A legal schedule in the widest windows keeps the limit of every view.
pub legal_low : (m b : Bool) {j : Job} {W : Windows} {p : Schedule} (e : ℕ) → cage_of j e < cages j → Inside (events j) (widest j) (value p) → Legal j W p → Low (view j m b e) (seen j m e (value p))
legal_low m b {j} {W} {p} e real wide h t = rw (seen_stock j m b e p t) (go m b)
  where
    c : ℕ
    c = cage_of j e

    high : (u : ℤ) → neg_ℤ (cage j c).max_level ≤ℤ neg_ℤ (stock (λ y. false) j c p u)
    high u = let a = h.below_max c real u in omega (ints, neg_law (stock (λ y. false) j c p u), neg_law (cage j c).max_level)

    go : (m b : Bool) → side_limit m (home j e) ≤ℤ side_value m h_max (stock (view j m b e).before j c p t)
    go false true = low_before j c p (h.above_min c real) t
    go false false =
        let a = h.above_min c real t in
        let d = stock_same j c p (view j false false e).before (λ y. counts_later (cage j c) (p.height y)) t (λ y l. ap (λ b. eq_z (cage j c).cover (pos 0) && b) (sym (kind_kept j (value p) wide (λ y l. omega ints) y l))) in
        omega ints
    go true true = rw (stock_before j c p t) (high (t -ℤ pos 1))
    go true false = high t

-- ---- the level of a schedule

placed_point : (q s a : Bool) (h : ℤ) → (T q → a ≡ not s) → cond a h (pos 0) ≡ gain (placed q s a a) h
placed_point true true a h f = ap (λ b. cond b h (pos 0)) (f tt)
placed_point true false a h f = ap (λ b. cond b h (pos 0)) (f tt)
placed_point false s true h f = refl
placed_point false s false h f = refl

module _ (E : View) {x : Windows} (point : Point x) where
  pub stock_is_most : stock_at E x (e_min E x) ≡ most_in E x (e_min E x) (e_min E x)
  unfolding stock_at most_in
  stock_is_most =
      ap (λ z. E.opening +ℤ z)
      (sum_ext E.events (adds E x (e_min E x)) (gains E x (e_min E x) (e_min E x))
      (λ y l. rw (point.one_time y) (placed_point (eqb y E.subject) (E.before y) (ahead (E.before y) (x y t_min) (e_min E x)) (x y h_max) (λ t. rw (eqb→eq y E.subject t) (ahead_self (E.before E.subject) (e_min E x))))))

  -- In the windows W, with the subject's minute in u..v.
  wider : {W : Windows} → Inside E.events W x → (u v : ℤ) → u ≤ℤ e_min E x → e_min E x ≤ℤ v → Wider E.events x W (e_min E x) (e_min E x) u v
  wider i u v a b = record { windows = i; times = λ y l. let c = point.one_time y in omega ints; from = a; range = omega ints; to = b }

  pub stock_le_most : {W : Windows} → Inside E.events W x → (u v : ℤ) → u ≤ℤ e_min E x → e_min E x ≤ℤ v → stock_at E x (e_min E x) ≤ℤ most_in E W u v
  stock_le_most i u v a b = rw stock_is_most (most_weaker E (wider i u v a b))

-- ---- what holds of a schedule

-- A finding about the end k of event y.
abbrev pub Holds : Windows → End → ℕ → Finding → Type 0
Holds x k y nothing = Unit {0}
Holds x k y clash = ⊥
Holds x k y (bound v) = T (meets k v (x y k))

-- What an effect says.
abbrev pub Keeps : Windows → End → ℕ → Effect → Type 0
Keeps x k y idle = Unit {0}
Keeps x k y (narrows v) = T (meets k v (x y k))
Keeps x k y fails = ⊥

-- ---- rules 3 to 5 and 9 to 11

module _ (E : View) (W : Windows) {x : Windows} (point : Point x) (i : Inside E.events W x) (low : Low E x) (l : E.subject < E.events) where
  first : e_min E W ≤ℤ e_min E x
  first = record { le = i.inside E.subject l t_min }

  last : e_min E x ≤ℤ e_max E W
  last = let a : T (le_z (e_max E x) (e_max E W)) = i.inside E.subject l t_max in let b = point.one_time E.subject in omega ints

  level_sound : most E W <ℤ E.limit → ⊥
  level_sound h =
      let a = stock_le_most E point i (e_min E W) (e_max E W) first last in
      let b = low (e_min E x) in
      omega ints

  time_sound : (v : ℤ) → Waits E W v → v ≤ℤ e_min E x
  time_sound v w = not_lt (e_min E x) v late
    where
      late : e_min E x <ℤ v → ⊥
      late h =
          let a = stock_le_most E point i (e_min E W) (v -ℤ pos 1) first (omega (ints, sub_law v (pos 1))) in
          let b = low (e_min E x) in
          let d = w.below in
          omega ints

  height_sound : Signed E.events W → (y : ℕ) → y < E.events → T (targeted (stands E W y) (W y h_max)) → (E.limit -ℤ (most E W -ℤ W y h_max)) ≤ℤ x y h_min
  unfolding most_in
  height_sound signs y m t =
      let w = wider E point i (e_min E W) (e_max E W) first last in
      let f = gains E x (e_min E x) (e_min E x) in
      let g = gains E W (e_min E W) (e_max E W) in
      let a = sum_le_but E.events y f g m (λ z b _. gains_weaker E w z b) in
      let r : T (le_z (W y h_min) (x y h_min)) = i.inside y m h_min in
      let o = point.one_height y in
      let b = target_gain (stands E W y) (W y h_max) t in
      let d = target_adds (place E x (e_min E x) (e_min E x) y) (stands E W y) (W y h_max) (x y h_max) (place_weaker E w y m) (λ q. let s = signs.producers y m q in omega ints) t in
      let k = low (e_min E x) in
      omega (ints, stock_is_most E point, neg_law (most E W -ℤ W y h_max), sub_law (most E W) (W y h_max), add_law E.opening (sum E.events f), add_law E.opening (sum E.events g), add_law (sum E.events f) (g y), add_law (sum E.events g) (f y))

  -- What a rule of these gives, for its own target.
  family_sound : Signed E.events W → (f : Family) (y : ℕ) → y < E.events → T (aims f E.subject y) → Holds x (family_end f) y (family_rule f E W y)
  family_sound signs level y k t = go (lt_z (most E W) E.limit) refl
    where
      go : (b : Bool) → lt_z (most E W) E.limit ≡ b → Holds x t_min y (given_if b clash)
      go true q = level_sound (omega ints)
      go false q = tt
  family_sound signs time y k t = rw (eqb→eq y E.subject t) (go (time_rule E W) (timed E W))
    where
      go : (g : Finding) → Timed E W g → Holds x t_min E.subject g
      go nothing h = tt
      go clash h = h
      go (bound v) h = (time_sound v h).le
  family_sound signs height y k t = go (targeted (stands E W y) (W y h_max)) refl
    where
      go : (b : Bool) → targeted (stands E W y) (W y h_max) ≡ b → Holds x h_min y (given_if b (bound (E.limit -ℤ (most E W -ℤ W y h_max))))
      go true q = (height_sound signs y k (true_is q)).le
      go false q = tt

-- ---- all rules

holds_look : (own : ℕ → Bool) (m : Bool) (k : End) (x : Windows) (y : ℕ) (g : Finding) → Quiet (own y) k g → Holds (look own m x) k y g → Holds x (side_end m k) y (side_finding m k g)
holds_look own m k x y nothing q h = tt
holds_look own m k x y clash q h = h
holds_look own m k x y (bound v) q h =
    subst T (sym (across m k v (x y (side_end m k)))) (subst (λ z. T (meets k v z)) (shown_is (own y) k (side m x y k) (quiet_here (own y) k v q)) h)

-- Rules 17 and 18: a member of a set whose sum keeps its limit.
total_sound : (limit : ℤ) (n : ℕ) {W x : Windows} → Point x → Inside n W x → limit ≤ℤ sum n (λ z. x z h_max) → (y : ℕ) → y < n → Holds x h_min y (total_rule limit n W y)
total_sound limit n {W} {x} point i low y l =
    let a = others_bound n i y l in
    let b = point.one_height y in
    omega (ints, add_law (others n W y) (x y h_max), neg_law (others n W y))

-- What a rule gives on windows holds of every legal schedule in them. (Where a window had two signs, rules 5 and 11 would not be sound, and cover would not tell deliveries: hence inside the widest.)
pub finding_sound : (r : Rule) (j : Job) (W : Windows) (p : Schedule) (e y : ℕ) → Sane j → Inside (events j) (widest j) W → Legal j W p → e < subjects r j → y < events j → T (target_fits r j e y) → Holds (value p) (own_end r) y (finding r j W e y)
unfolding finding
finding_sound lag_upper j W p g y sane signs h l m t =
    let a = h.lagged g l in
    let b : T (le_z (p.time (lag_b j g)) (W (lag_b j g) t_max)) = h.within.inside (lag_b j g) (sane.lag g l).real_b t_max in
    let d : T (le_z (p.time (lag_a j g)) (W (lag_b j g) t_max +ℤ lag_d j g)) = omega (ints, neg_law (p.time (lag_b j g))) in
    rw (eqb→eq y (lag_a j g) t) d
finding_sound lag_lower j W p g y sane signs h l m t =
    let a = h.lagged g l in
    let b : T (le_z (W (lag_a j g) t_min) (p.time (lag_a j g))) = h.within.inside (lag_a j g) (sane.lag g l).real_a t_min in
    let d : T (le_z (W (lag_a j g) t_min -ℤ lag_d j g) (p.time (lag_b j g))) = omega (ints, neg_law (lag_d j g), neg_law (p.time (lag_b j g))) in
    rw (eqb→eq y (lag_b j g) t) d
finding_sound (reservoir m b f) j W p e y sane signs h l k t =
    holds_look (here j e) m (family_end f) (value p) y (family_rule f (view j m b e) (seen j m e W) y) (family_quiet j m e (view j m b e) W y f)
    (family_sound (view j m b e) (seen j m e W) (look_point (here j e) m p) (look_inside (here j e) m h.within) (legal_low m b e (sane.cage_real e l) (inside_trans signs h.within) h) l (look_signed (here j e) m (signed_within j signs)) f y k (fits_aims m b f j e y t))
finding_sound (total m) j W p g y sane signs h l k t =
    let own = in_set j g in
    holds_look own m h_min (value p) y (total_rule (total_limit m j g) (events j) (look own m W) y) (λ a n. absurd (T_not (own y) n t))
    (total_sound (total_limit m j g) (events j) (look_point own m p) (look_inside own m h.within) (total_low m h g l) y k)

-- ---- effects

value_opposite : (p : Schedule) (y : ℕ) (k : End) → value p y (opposite k) ≡ value p y k
value_opposite p y t_min = refl
value_opposite p y t_max = refl
value_opposite p y h_min = refl
value_opposite p y h_max = refl

-- A bound that a schedule in the windows keeps does not pass the opposite end.
pub kept_inside : {n : ℕ} {W : Windows} (p : Schedule) → Inside n W (value p) → (y : ℕ) → y < n → (k : End) (v : ℤ) → T (meets k v (value p y k)) → T (meets (opposite k) (W y (opposite k)) v)
kept_inside {n} {W} p i y l k v h =
    meets_trans (opposite k) (W y (opposite k)) (value p y k) v
    (subst (λ x. T (meets (opposite k) (W y (opposite k)) x)) (value_opposite p y k) (i.inside y l (opposite k)))
    (subst T (sym (opposite_meets k (value p y k) v)) h)

-- What a finding that holds does to the windows holds too.
pub effect_sound : {n : ℕ} {W : Windows} (p : Schedule) → Inside n W (value p) → (y : ℕ) → y < n → (k : End) (g : Finding) → Holds (value p) k y g → Keeps (value p) k y (effect k W y g)
effect_sound p i y l k nothing h = tt
effect_sound p i y l k clash h = h
effect_sound {n} {W} p i y l k (bound v) h =
    go (meets (opposite k) (W y (opposite k)) v) (kept_inside p i y l k v h) (meets k v (W y k))
  where
    go : (a : Bool) → T a → (b : Bool) → Keeps (value p) k y (cond a (cond b idle (narrows v)) fails)
    go true t true = tt
    go true t false = h
    go false t b = absurd t

-- ---- slips

-- What question 14 lets pass.
pub record Named (j : Job) (x : Explanation) : Type 0 where
  pub subject_real : subject_of x < subjects (rule_of x) j
  pub target_real : target_of x < events j
  pub premises_real : T (premises_fit (events j) x.premises)
  pub target_right : T (target_fits (rule_of x) j (subject_of x) (target_of x))
  pub kind_right : T (kind_fits (rule_of x) x.kind x.value)

five : (a b c d e : Bool) → T (a && b && c && d && e) → T a × T b × T c × T d × T e
five true true true true e t = (tt, tt, tt, tt, t)
five false b c d e t = absurd t
five true false c d e t = absurd t
five true true false d e t = absurd t
five true true true false e t = absurd t

pub named : (j : Job) (x : Explanation) → T (names j x) → Named j x
unfolding names
named j x t =
    let a = five (is_event (subjects (rule_of x) j) x.subject) (is_event (events j) x.target) (premises_fit (events j) x.premises) (target_fits (rule_of x) j (subject_of x) (target_of x)) (kind_fits (rule_of x) x.kind x.value) t in
    record {
      subject_real = event_below (subjects (rule_of x) j) x.subject a.0;
      target_real = event_below (events j) x.target a.1;
      premises_real = a.2;
      target_right = a.3;
      kind_right = a.4;
    }

-- A schedule has the conclusion of a slip: none has a conflict's.
abbrev pub concludes : Bool → Schedule → Explanation → Type 0
concludes true p x = ⊥
concludes false p x = T (meets (own_end (rule_of x)) x.value (value p (target_of x) (own_end (rule_of x))))

abbrev pub Concludes : Schedule → Explanation → Type 0
Concludes p x = concludes (is_conflict x) p x

-- A slip whose rule gives its conclusion on windows: every legal schedule in them has it.
pub gives_sound : (j : Job) (X : Windows) (p : Schedule) (x : Explanation) → Sane j → Inside (events j) (widest j) X → Legal j X p → T (names j x) → T (gives j X x) → Concludes p x
unfolding gives
gives_sound j X p x sane signs h n t = go (is_conflict x) t
  where
    r : Rule
    r = rule_of x

    y : ℕ
    y = target_of x

    f : Finding
    f = finding r j X (subject_of x) y

    o : Named j x
    o = named j x n

    holds : Holds (value p) (own_end r) y f
    holds = finding_sound r j X p (subject_of x) y sane signs h o.subject_real o.target_real o.target_right

    no_failure : (z : Effect) → Keeps (value p) (own_end r) y z → T (failed z) → ⊥
    no_failure idle k t = t
    no_failure (narrows v) k t = t
    no_failure fails k t = k

    strict : (g : Finding) → Holds (value p) (own_end r) y g → T (as_strict (own_end r) x.value g) → T (meets (own_end r) x.value (value p y (own_end r)))
    strict nothing k t = absurd t
    strict clash k t = absurd t
    strict (bound v) k t = meets_trans (own_end r) x.value v (value p y (own_end r)) t k

    go : (c : Bool) → T (cond c (failed (effect (own_end r) X y f)) (as_strict (own_end r) x.value f)) → concludes c p x
    go true t = no_failure (effect (own_end r) X y f) (effect_sound p h.within y o.target_real (own_end r) f holds) t
    go false t = strict f holds t

-- A legal schedule is legal in all windows that it lies in.
pub legal_in : {j : Job} {W X : Windows} {p : Schedule} → Legal j W p → Inside (events j) X (value p) → Legal j X p
legal_in h i = record { within = i; lagged = h.lagged; least_kept = h.least_kept; most_kept = h.most_kept; above_min = h.above_min; below_max = h.below_max }

-- A slip stands alone: every schedule that is legal in windows, and has its facts, has its conclusion if its rule gives it on the windows narrowed by these facts.
pub stands_alone : (j : Job) (W : Windows) (p : Schedule) (x : Explanation) → Sane j → Inside (events j) (widest j) W → Legal j W p → T (names j x) → T (all_true (value p) x.premises) → T (gives j (narrowed W x.premises) x) → Concludes p x
stands_alone j W p x sane signs h n t g =
    gives_sound j (narrowed W x.premises) p x sane
    (inside_trans signs (narrowed_in (events j) W x.premises))
    (legal_in h (inside_narrowed h.within x.premises t))
    n
    g
