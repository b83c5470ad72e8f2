-- Sums that show rules to do nothing, as `silence::calm` adds them up: a floor under the level of an event, and the largest width.
-- Assumes nothing.
use mathlib.Core.Path.{◌≡◌, refl, sym, subst, ◌∙◌}
use mathlib.Core.Bool.{Bool, true, false, not, cond, ◌&&◌, ◌||◌}
use mathlib.Core.List.{List}
use Prim.Native.Nat.{ℕ, zero, suc, ◌+◌, ◌<◌, ◌≤◌}
use native.Mathlib.Decide.{ℕ_discrete}
use native.Mathlib.Numerals.{add-one}
use native.Mathlib.Omega.{arith}
use lib.Dec.{T}
use lib.IntN.{ℤ, pos, ◌+ℤ◌, ◌-ℤ◌}
use lib.Signed.{le_z, lt_z, ◌≤ℤ◌, le_z_yes}
use Rattle.integers.specs.Range.{Within}
use Rattle.integers.specs.Sum.{sum}
use Rattle.integers.proofs.Linear.{ints, add_law}
use Rattle.integers.proofs.Sums.{sum_le, sum_le_but}
use Rattle.integers.proofs.Tests.{is_true, true_is, and_in, and_out}
use Rattle.model.specs.Job.{t_min, t_max, h_min, h_max, Windows, ahead, produces, Reservoir, Job, events, lag_a, lag_b, lag_d}
use Rattle.model.specs.Standing.{Ranged}
use Rattle.model.specs.View.{side_value, side, side_limit, View}
use Rattle.model.specs.Levels.{placed, e_min, e_max, gain, gains, most_in, most}
use Rattle.model.specs.Rules.{level, time, height, lag_upper, lag_lower, reservoir, finding, idle, narrows, fails}
use Rattle.model.proofs.Levels.{gain_possible}
use Rattle.model.proofs.Silence.{Idle, level_idle, time_idle, early_most, spared_idle, Quiet}
use Rattle.tables.specs.Job.{reservoir_of, Serves}
use Rattle.tables.specs.declared.Job.{Job as Code}
use Rattle.levels.proofs.Viewing.{here_view}
use Rattle.levels.proofs.Adding.{kept_within, side_ranged, within_sum, own_term, other_term}
use Rattle.rules.specs.Values.{IsLag}
use Rattle.rules.specs.declared.lags.Lag.{Lag}
use Rattle.silence.specs.Calm.{reaches_early, floor_gain, floor_of, larger, spread_of, floored, calm, drain, deep, ordered, all_calm, lag_kept}
use Rattle.silence.proofs.Sparing.{width_side, idle_here}

-- ---- the tests as the code makes them

pub floor_within : {n : ℕ} {W : Windows} (u : ℤ) (y : ℕ) → Ranged n W → y < n → Within (floor_gain W u y) 9999
floor_within {n} {W} u y r l =
    kept_within ((produces (W y h_max) && lt_z (W y t_min) u) || (not (produces (W y h_max)) && le_z (W y t_max) u)) (W y h_max) (r.range y l h_max)

pub floors_within : {n : ℕ} (i : ℕ) {q : ℤ} {W : Windows} (u : ℤ) → Ranged n W → Within q 1000000 → i ≤ n → Within (q +ℤ sum i (floor_gain W u)) 1640000
floors_within {n} i {q} {W} u r d l = within_sum i n q (floor_gain W u) l r.few d (λ y b. floor_within u y r b)

own_range : (x : ℤ) → Within x 9999 → Within (cond (produces x) (pos 0) x) 9999
own_range x w = go (produces x)
  where
    go : (t : Bool) → Within (cond t (pos 0) x) 9999
    go true = omega arith
    go false = w

pub drain_within : {n : ℕ} {W : Windows} (y : ℕ) → Ranged n W → y < n → Within (drain W y) 9999
drain_within {n} {W} y r l = own_range (W y h_max) (r.range y l h_max)

pub spread_none : (W : Windows) → pos 0 ≡ spread_of 0 W
unfolding spread_of
spread_none W = refl

pub spread_more : (W : Windows) (y : ℕ) {a d r : ℤ} → a ≡ spread_of y W → d ≡ W y h_max -ℤ W y h_min → r ≡ larger a d → r ≡ spread_of (y + 1) W
unfolding spread_of
spread_more W y p q r = r ∙ rw (add-one y, p, q)

-- ---- the largest width

larger_left : (a b : ℤ) → a ≤ℤ larger a b
larger_left a b = go (lt_z a b) refl
  where
    go : (t : Bool) → lt_z a b ≡ t → a ≤ℤ cond t b a
    go true q = omega ints
    go false q = omega ints

larger_right : (a b : ℤ) → b ≤ℤ larger a b
larger_right a b = go (lt_z a b) refl
  where
    go : (t : Bool) → lt_z a b ≡ t → b ≤ℤ cond t b a
    go true q = omega ints
    go false q = omega ints

le_trans : (a b c : ℤ) → a ≤ℤ b → b ≤ℤ c → a ≤ℤ c
le_trans a b c p q = omega ints

pub spread_positive : (n : ℕ) (W : Windows) → pos 0 ≤ℤ spread_of n W
unfolding spread_of
spread_positive zero W = omega ints
spread_positive (suc n) W = le_trans (pos 0) (spread_of n W) (larger (spread_of n W) (W n h_max -ℤ W n h_min)) (spread_positive n W) (larger_left (spread_of n W) (W n h_max -ℤ W n h_min))

pub spread_wide : (n : ℕ) (W : Windows) (y : ℕ) → y < n → (W y h_max -ℤ W y h_min) ≤ℤ spread_of n W
unfolding spread_of
spread_wide zero W y l = absurd (omega arith)
spread_wide (suc n) W y l = go (ℕ_discrete y n) (λ h. spread_wide n W y h)
  where
    go : Dec (y ≡ n) → (y < n → (W y h_max -ℤ W y h_min) ≤ℤ spread_of n W) → (W y h_max -ℤ W y h_min) ≤ℤ larger (spread_of n W) (W n h_max -ℤ W n h_min)
    go (yes i) rec = rw i (larger_right (spread_of n W) (W n h_max -ℤ W n h_min))
    go (no d) rec = le_trans (W y h_max -ℤ W y h_min) (spread_of n W) (larger (spread_of n W) (W n h_max -ℤ W n h_min)) (rec (omega arith)) (larger_left (spread_of n W) (W n h_max -ℤ W n h_min))

-- ---- the floor

-- What another event adds at least, by its tests: makes, surely, possibly, begins before, ends by.
under_gain : (s p a b f g : Bool) (h : ℤ) → produces h ≡ p → (T f → T b) → (T a → T g) → cond ((p && f) || (not p && g)) h (pos 0) ≤ℤ gain (placed false s a b) h
under_gain s true true b true g h q i k = omega ints
under_gain s true true b false g h q i k = omega ints
under_gain s true false true true g h q i k = (gain_possible h).1
under_gain s true false true false g h q i k = (gain_possible h).0
under_gain s true false false true g h q i k = absurd (i tt)
under_gain s true false false false g h q i k = omega ints
under_gain s false true b f true h q i k = omega ints
under_gain s false true b f false h q i k = absurd (k tt)
under_gain s false false true f true h q i k = let z = gain_possible h in z.1
under_gain s false false true f false h q i k = (gain_possible h).0
under_gain s false false false f true h q i k = omega ints
under_gain s false false false f false h q i k = omega ints

begins : (s : Bool) (t u : ℤ) → T (lt_z t u) → T (ahead s t u)
begins true t u h = h
begins false t u h = omega ints

ends : (s : Bool) (t u : ℤ) → T (ahead s t u) → T (le_z t u)
ends true t u h = omega ints
ends false t u h = h

not_before : (u : ℤ) → lt_z u u ≡ false
not_before u = omega ints

-- e's own part.
own_under : (s p g : Bool) (h : ℤ) → produces h ≡ p → (cond ((p && false) || (not p && g)) h (pos 0) +ℤ cond p (pos 0) h) ≤ℤ cond s (pos 0) h
own_under true true g h q = omega ints
own_under false true g h q = omega ints
own_under true false true h q = omega (ints, add_law h h)
own_under false false true h q = omega (ints, add_law h h)
own_under true false false h q = omega (ints, add_law (pos 0) h)
own_under false false false h q = omega (ints, add_law (pos 0) h)

-- A floor under the level with e at its earliest minute, before and by.
floor_under : (q f g x y o : ℤ) → (f +ℤ y) ≤ℤ (g +ℤ x) → (x +ℤ o) ≤ℤ y → ((q +ℤ f) +ℤ o) ≤ℤ (q +ℤ g)
floor_under q f g x y o p r = omega (ints, add_law f y, add_law g x, add_law x o, add_law q f, add_law (q +ℤ f) o, add_law q g)

module _ (E : View) (X : Windows) (l : E.subject < E.events) where
  pub floor_most : floor_of E.events E.opening X E.subject ≤ℤ most_in E X (e_min E X) (e_min E X)
  unfolding most_in
  floor_most =
      let n = E.events in
      let e = E.subject in
      let u = e_min E X in
      let f = floor_gain X u in
      let g = gains E X u u in
      floor_under E.opening (sum n f) (sum n g) (f e) (g e) (drain X e) (sum_le_but n e f g l other) own
    where
      other : (y : ℕ) → y < E.events → (y ≡ E.subject → ⊥) → floor_gain X (e_min E X) y ≤ℤ gains E X (e_min E X) (e_min E X) y
      other y b d =
          let u = e_min E X in
          rw (other_term E X u u y d)
          (under_gain (E.before y) (produces (X y h_max)) (ahead (E.before y) (X y t_max) u) (ahead (E.before y) (X y t_min) u) (lt_z (X y t_min) u) (le_z (X y t_max) u) (X y h_max) refl (begins (E.before y) (X y t_min) u) (ends (E.before y) (X y t_max) u))

      own : (floor_gain X (e_min E X) E.subject +ℤ drain X E.subject) ≤ℤ gains E X (e_min E X) (e_min E X) E.subject
      own =
          rw (own_term E X (e_min E X) (e_min E X), not_before (e_min E X))
          (own_under (E.before E.subject) (produces (X E.subject h_max)) (le_z (e_max E X) (e_min E X)) (X E.subject h_max) refl)

-- ---- what is passed over

-- Rules 3 and 4 (9 and 10), and their mirrors: e's window is not empty, and the level reaches the limit with e at its earliest minute.
module _ {j : Job} {k : Code} {ws : List ℤ} (m b : Bool) (W : Windows) (e : ℕ) (s : Serves k ws W j) (l : e < events j) where
  abbrev at : View
  at = here_view m b e W s l

  abbrev in_view : Windows
  in_view = side m W

  module _ (o : e_min at in_view ≤ℤ e_max at in_view) (r : at.limit ≤ℤ most_in at in_view (e_min at in_view) (e_min at in_view)) where
    most_reaches : at.limit ≤ℤ most at in_view
    most_reaches = le_trans at.limit (most_in at in_view (e_min at in_view) (e_min at in_view)) (most at in_view) r (early_most at in_view o)

    level_passed : Idle (reservoir m b level) j W e e
    level_passed = idle_here m b W e e s l l level (level_idle at in_view e most_reaches)

    time_passed : Idle (reservoir m b time) j W e e
    time_passed = idle_here m b W e e s l l time (time_idle at in_view r)

  pub reached_apart : reaches_early at in_view ≡ true → Idle (reservoir m b level) j W e e × Idle (reservoir m b time) j W e e
  reached_apart q =
      let X = in_view in
      let r = and_out (le_z (e_min at X) (e_max at X)) (le_z at.limit (most_in at X (e_min at X) (e_min at X))) (true_is q) in
      (level_passed (le_z_yes r.0) (le_z_yes r.1), time_passed (le_z_yes r.0) (le_z_yes r.1))

-- All rules at e.
over : (l d f a : ℤ) → (l +ℤ d) ≤ℤ f → pos 0 ≤ℤ d → f ≤ℤ a → l ≤ℤ a
over l d f a p q r = omega (ints, add_law l d)

slack_wide : (l d f a t w : ℤ) → a ≤ℤ t → w ≤ℤ d → (l +ℤ d) ≤ℤ f → f ≤ℤ a → {s : ℤ} → s ≡ t -ℤ l → w ≤ℤ s
slack_wide l d f a t w p q r v e = omega (ints, add_law l d)

side_ordered : (m : Bool) (W : Windows) (e : ℕ) → W e t_min ≤ℤ W e t_max → side m W e t_min ≤ℤ side m W e t_max
side_ordered true W e h = h
side_ordered false W e h = h

module _ {j : Job} {k : Code} {ws : List ℤ} (W : Windows) (e : ℕ) (d : ℤ) (s : Serves k ws W j) (l : e < events j) (positive : pos 0 ≤ℤ d) (wide : (y : ℕ) → y < k.events → (W y h_max -ℤ W y h_min) ≤ℤ d)
    (ordered : W e t_min ≤ℤ W e t_max) (floors : (m : Bool) → (side_limit m (reservoir_of k.reservoir) +ℤ d) ≤ℤ floor_of k.events (side_value m h_max (reservoir_of k.reservoir).initial) (side m W) e) where
  there : e < k.events
  there = rw s.holds.events_are at l

  module _ (m b : Bool) where
    abbrev E : View
    E = here_view m b e W s l

    abbrev X : Windows
    X = side m W

    abbrev floor : ℤ
    floor = floor_of E.events E.opening X e

    abbrev early : ℤ
    early = most_in E X (e_min E X) (e_min E X)

    reaches : E.limit ≤ℤ early
    reaches = over E.limit d floor early (floors m) positive (floor_most E X there)

    height_passed : (y : ℕ) → y < events j → Idle (reservoir m b height) j W e y
    height_passed y h =
        let under = early_most E X (side_ordered m W e ordered) in
        idle_here m b W e y s l h height
        (spared_idle E X y (le_trans E.limit early (most E X) reaches under)
        (slack_wide E.limit d floor early (most E X) (X y h_max -ℤ X y h_min) under (width_side m W y (wide y (rw s.holds.events_are at h))) (floors m) (floor_most E X there) refl))

  floors_quiet : Quiet j W e
  floors_quiet =
      record {
        level_quiet = λ m b. level_passed m b W e s l (side_ordered m W e ordered) (reaches m b);
        time_quiet = λ m b. time_passed m b W e s l (side_ordered m W e ordered) (reaches m b);
        height_quiet = height_passed;
      }

pub calm_quiet : {j : Job} {k : Code} {ws : List ℤ} (W : Windows) (e : ℕ) {d : ℤ} → Serves k ws W j → e < events j → d ≡ spread_of k.events W → calm k.events (reservoir_of k.reservoir) W e d ≡ true → Quiet j W e
calm_quiet {j} {k} W e {d} s l p q =
    let n = k.events in
    let c = reservoir_of k.reservoir in
    let a = and_out (floored false n c W e d) (floored true n c W e d && le_z (W e t_min) (W e t_max)) (true_is q) in
    let b = and_out (floored true n c W e d) (le_z (W e t_min) (W e t_max)) a.1 in
    floors_quiet W e d s l (rw p (spread_positive n W)) (λ y h. rw p (spread_wide n W y h)) (le_z_yes b.1) (λ m. go m a.0 b.0)
  where
    go : (m : Bool) → T (floored false k.events (reservoir_of k.reservoir) W e d) → T (floored true k.events (reservoir_of k.reservoir) W e d) → (side_limit m (reservoir_of k.reservoir) +ℤ d) ≤ℤ floor_of k.events (side_value m h_max (reservoir_of k.reservoir).initial) (side m W) e
    go true x y = le_z_yes y
    go false x y = le_z_yes x

-- ---- every event

pub ordered_none : (W : Windows) → true ≡ ordered 0 W
unfolding ordered
ordered_none W = refl

pub ordered_more : (W : Windows) (y : ℕ) {u v : ℤ} {a o : Bool} → a ≡ ordered y W → u ≡ W y t_min → v ≡ W y t_max → o ≡ le_z u v → (a && o) ≡ ordered (y + 1) W
unfolding ordered
ordered_more W y a u v o = rw (add-one y, a, o, u, v)

ordered_each : (n : ℕ) (W : Windows) (e : ℕ) → e < n → T (ordered n W) → T (le_z (W e t_min) (W e t_max))
unfolding ordered
ordered_each zero W e l h = absurd (omega arith)
ordered_each (suc n) W e l h = go (ℕ_discrete e n) (and_out (ordered n W) (le_z (W n t_min) (W n t_max)) h) (λ k. ordered_each n W e k)
  where
    go : Dec (e ≡ n) → T (ordered n W) × T (le_z (W n t_min) (W n t_max)) → (e < n → T (ordered n W) → T (le_z (W e t_min) (W e t_max))) → T (le_z (W e t_min) (W e t_max))
    go (yes i) p rec = rw i p.1
    go (no d) p rec = rec (omega arith) p.0

-- What an event takes is no more than what it adds at least.
under_floor : (p f g : Bool) (h : ℤ) → produces h ≡ p → cond p (pos 0) h ≤ℤ cond ((p && f) || (not p && g)) h (pos 0)
under_floor true true g h q = omega ints
under_floor true false g h q = omega ints
under_floor false f true h q = omega ints
under_floor false f false h q = omega ints

deep_under : (l d q a b o : ℤ) → T (le_z (l +ℤ (d +ℤ pos 9999)) (q +ℤ a)) → a ≤ℤ b → Within o 9999 → T (le_z (l +ℤ d) ((q +ℤ b) +ℤ o))
deep_under l d q a b o h p w = omega (ints, add_law d (pos 9999), add_law l (d +ℤ pos 9999), add_law q a, add_law l d, add_law q b, add_law (q +ℤ b) o)

module _ (m : Bool) (n : ℕ) (c : Reservoir) (W : Windows) (e : ℕ) (d : ℤ) (r : Ranged n W) (l : e < n) where
  deep_floored : T (deep m n c W (d +ℤ pos 9999)) → T (floored m n c W e d)
  deep_floored h =
      let X = side m W in
      deep_under (side_limit m c) d (side_value m h_max c.initial) (sum n (drain X)) (sum n (floor_gain X (X e t_min))) (drain X e) h
      (sum_le n (drain X) (floor_gain X (X e t_min)) (λ y b. under_floor (produces (X y h_max)) (lt_z (X y t_min) (X e t_min)) (le_z (X y t_max) (X e t_min)) (X y h_max) refl))
      (drain_within e (side_ranged m r) l)

pub all_calm_each : (n : ℕ) (c : Reservoir) (W : Windows) (e : ℕ) (d : ℤ) → Ranged n W → e < n → all_calm n c W d ≡ true → calm n c W e d ≡ true
all_calm_each n c W e d r l q =
    let a = and_out (deep false n c W (d +ℤ pos 9999)) (deep true n c W (d +ℤ pos 9999) && ordered n W) (true_is q) in
    let b = and_out (deep true n c W (d +ℤ pos 9999)) (ordered n W) a.1 in
    let f = deep_floored false n c W e d r l a.0 in
    let g = deep_floored true n c W e d r l b.0 in
    is_true (calm n c W e d)
    (and_in (floored false n c W e d) (floored true n c W e d && le_z (W e t_min) (W e t_max)) f
    (and_in (floored true n c W e d) (le_z (W e t_min) (W e t_max)) g (ordered_each n W e l b.1)))

-- ---- lags

-- A lag of a call, as the code holds it.
pub lag_idle : (j : Job) (W : Windows) (g : ℕ) {l : Lag} → IsLag j.lag_table g l → lag_kept l W ≡ true → Idle lag_upper j W g (lag_a j g) × Idle lag_lower j W g (lag_b j g)
unfolding finding
lag_idle j W g {l} i h =
    let top = W (lag_b j g) t_max +ℤ lag_d j g in
    let low = W (lag_a j g) t_min -ℤ lag_d j g in
    go (le_z (W (lag_a j g) t_min) top) (le_z (W (lag_a j g) t_max) top) (le_z low (W (lag_b j g) t_min)) (le_z low (W (lag_b j g) t_max)) (rw (i.a_is, i.b_is, i.gap_is) at h)
  where
    go : (a b c d : Bool) → ((a && b) && (c && d)) ≡ true → (cond a (cond b idle (narrows (W (lag_b j g) t_max +ℤ lag_d j g))) fails ≡ idle) × (cond d (cond c idle (narrows (W (lag_a j g) t_min -ℤ lag_d j g))) fails ≡ idle)
    go true true true true e = (refl, refl)
    go true true true false e = absurd (subst T (sym e) tt)
    go true true false d e = absurd (subst T (sym e) tt)
    go true false c d e = absurd (subst T (sym e) tt)
    go false b c d e = absurd (subst T (sym e) tt)
