-- What questions 1 to 11 give of a call that they let pass, and that they ask nothing of the slip buffer but its length.
-- Assumes nothing.
use mathlib.Core.Path.{◌≡◌, refl}
use mathlib.Core.Bool.{not, Bool, true, false, cond, ◌&&◌, ◌||◌}
use mathlib.Core.Logic.{◌⊎◌, inl, inr}
use mathlib.Core.List.{List}
use Prim.Native.Nat.{ℕ, zero, suc, ◌+◌, ◌*◌, ◌%◌, ◌≤◌, ◌<◌}
use native.Mathlib.Decide.{ℕ_discrete}
use native.Mathlib.Omega.{arith}
use lib.Dec.{ltb, T_not, eqb_refl, T, eqb, leb, leb→le, le→leb, eqb→eq}
use lib.IntN.{nat_abs, ℤ, pos, negsuc}
use lib.ListN.{length}
use lib.Signed.{le_z, lt_z, ◌≤ℤ◌}
use Rattle.integers.specs.Range.{eq_z, Within}
use Rattle.integers.proofs.Linear.{ints}
use Rattle.integers.proofs.Tests.{and_out, and_in, or_out}
use Rattle.model.specs.Job.{End, t_min, t_max, h_min, h_max, meets, widest, produces, consumes, Job, lags, lag_word, events, sent, windows, cages, cage, cage_word, Reservoir, sets, every, set_begin, set_word, member_count, member_word, begun, to_count}
use Rattle.model.specs.Standing.{Sane, Standing, SaneCage, SaneLag, SaneSet}
use Rattle.model.specs.Questions.{Check, pass, refuse, ask, each, in_range, is_event, times_right, heights_right, lag_events, lag_differs, lag_in_range, limit_in_range, questions, ◌then◌, horizon_right, limits_right, stock_right, events_whole, lags_whole, room_right, own_questions, cage_questions, window_questions, lag_questions, cover_right, cages_whole, cage_right, set_whole, members_right, member_right, totals_right, total_in_range, first_questions, plan_questions, limit_right, last_questions}
use Rattle.model.proofs.Order.{event_below}

-- ---- checks

-- A refusal is no pass.
pub refusal : {A : Type 0} (q i : ℕ) → refuse q i ≡ pass → A
refusal q i e = absurd (let z : ◌≡◌ {A = ℕ} 0 1 = cc in omega arith)

pub then_out : (c d : Check) → (c then d) ≡ pass → (c ≡ pass) × (d ≡ pass)
then_out pass d e = (refl, e)
then_out (refuse q i) d e = refusal q i e

pub then_in : (c d : Check) → c ≡ pass → d ≡ pass → (c then d) ≡ pass
then_in pass d e f = f
then_in (refuse q i) d e f = refusal q i e

pub ask_out : (q : ℕ) (b : Bool) → ask q b ≡ pass → T b
ask_out q true e = tt
ask_out q false e = refusal q 0 e

pub ask_in : (q : ℕ) (b : Bool) → T b → ask q b ≡ pass
ask_in q true t = refl
ask_in q false t = absurd t

-- One question of several, and the rest.
one_out : (q i : ℕ) (b : Bool) (c : Check) → cond b c (refuse q i) ≡ pass → T b × (c ≡ pass)
one_out q i true c e = (tt, e)
one_out q i false c e = refusal q i e

one_in : (q i : ℕ) (b : Bool) (c : Check) → T b → c ≡ pass → cond b c (refuse q i) ≡ pass
one_in q i true c t e = e
one_in q i false c t e = absurd t

-- A question that i, i + 1, .., k of them, pass holds at each.
pub each_out : (q : ℕ) (ok : ℕ → Bool) (i k : ℕ) → each q ok i k ≡ pass → (y : ℕ) → i ≤ y → y < i + k → T (ok y)
unfolding each
each_out q ok i zero e y l m = absurd (omega arith)
each_out q ok i (suc k) e y l m = go (ℕ_discrete i y) (λ o. each_out q ok (i + 1) k h.1 y o (omega arith))
  where
    h : T (ok i) × (each q ok (i + 1) k ≡ pass)
    h = one_out q i (ok i) (each q ok (i + 1) k) e

    go : Dec (i ≡ y) → (i + 1 ≤ y → T (ok y)) → T (ok y)
    go (yes p) rest = rw p at h.0
    go (no d) rest = rest (omega arith)

pub each_in : (q : ℕ) (ok : ℕ → Bool) (i k : ℕ) → ((y : ℕ) → i ≤ y → y < i + k → T (ok y)) → each q ok i k ≡ pass
unfolding each
each_in q ok i zero h = refl
each_in q ok i (suc k) h =
    one_in q i (ok i) (each q ok (i + 1) k) (h i (omega arith) (omega arith))
    (each_in q ok (i + 1) k (λ y l m. h y (omega arith) (omega arith)))

pub all_out : (q : ℕ) (ok : ℕ → Bool) (k : ℕ) → each q ok 0 k ≡ pass → (y : ℕ) → y < k → T (ok y)
all_out q ok k e y l = each_out q ok 0 k e y (omega arith) (omega arith)

-- ---- single tests

in_range_out : (low high x : ℤ) → T (in_range low high x) → (low ≤ℤ x) × (x ≤ℤ high)
in_range_out low high x t =
    let a = and_out (le_z low x) (le_z x high) t in
    let b : T (le_z low x) = a.0 in
    let c : T (le_z x high) = a.1 in
    (omega ints, omega ints)

-- A range around 0.
around : (n : ℕ) (x : ℤ) → T (in_range (negsuc n) (pos (suc n)) x) → Within x (suc n)
around n x t =
    let a = in_range_out (negsuc n) (pos (suc n)) x t in
    record { most = omega ints; least = omega ints }

-- An amount window l..m that question 6 lets pass.
data OneSign (l m : ℤ) : Type 0 where
  delivers : pos 1 ≤ℤ l → m ≤ℤ pos 9999 → OneSign l m
  pulls : negsuc 9998 ≤ℤ l → m ≤ℤ negsuc 0 → OneSign l m
  neither : pos 0 ≤ℤ l → m ≤ℤ pos 0 → OneSign l m

one_sign : (l m : ℤ) → T (le_z (pos 1) l && le_z m (pos 9999) || le_z (negsuc 9998) l && le_z m (negsuc 0) || le_z (pos 0) l && le_z m (pos 0)) → OneSign l m
one_sign l m t =
    go
    (or_out (le_z (pos 1) l && le_z m (pos 9999) || le_z (negsuc 9998) l && le_z m (negsuc 0)) (le_z (pos 0) l && le_z m (pos 0)) t)
  where
    two : (a b : ℤ) → T (le_z a l && le_z m b) → (a ≤ℤ l) × (m ≤ℤ b)
    two a b t =
        let u = and_out (le_z a l) (le_z m b) t in
        let v : T (le_z a l) = u.0 in
        let w : T (le_z m b) = u.1 in
        (omega ints, omega ints)

    go' : T (le_z (pos 1) l && le_z m (pos 9999)) ⊎ T (le_z (negsuc 9998) l && le_z m (negsuc 0)) → OneSign l m
    go' (inl t) = delivers (two (pos 1) (pos 9999) t).0 (two (pos 1) (pos 9999) t).1
    go' (inr t) = pulls (two (negsuc 9998) (negsuc 0) t).0 (two (negsuc 9998) (negsuc 0) t).1

    go : T (le_z (pos 1) l && le_z m (pos 9999) || le_z (negsuc 9998) l && le_z m (negsuc 0)) ⊎ T (le_z (pos 0) l && le_z m (pos 0)) → OneSign l m
    go (inl t) = go' (or_out (le_z (pos 1) l && le_z m (pos 9999)) (le_z (negsuc 9998) l && le_z m (negsuc 0)) t)
    go (inr t) = neither (two (pos 0) (pos 0) t).0 (two (pos 0) (pos 0) t).1

-- It is in the widest one of its kind.
module _ (l m : ℤ) (o : l ≤ℤ m) where
  low_fits : (p c : Bool) → lt_z (pos 0) m ≡ p → lt_z m (pos 0) ≡ c → OneSign l m → cond p (pos 1) (cond c (negsuc 9998) (pos 0)) ≤ℤ l
  low_fits true c e f (delivers h i) = omega ints
  low_fits true c e f (pulls h i) = omega ints
  low_fits true c e f (neither h i) = omega ints
  low_fits false true e f (delivers h i) = omega ints
  low_fits false true e f (pulls h i) = omega ints
  low_fits false true e f (neither h i) = omega ints
  low_fits false false e f (delivers h i) = omega ints
  low_fits false false e f (pulls h i) = omega ints
  low_fits false false e f (neither h i) = omega ints

  high_fits : (p c : Bool) → lt_z (pos 0) m ≡ p → lt_z m (pos 0) ≡ c → OneSign l m → m ≤ℤ cond p (pos 9999) (cond c (negsuc 0) (pos 0))
  high_fits true c e f (delivers h i) = omega ints
  high_fits true c e f (pulls h i) = omega ints
  high_fits true c e f (neither h i) = omega ints
  high_fits false true e f (delivers h i) = omega ints
  high_fits false true e f (pulls h i) = omega ints
  high_fits false true e f (neither h i) = omega ints
  high_fits false false e f (delivers h i) = omega ints
  high_fits false false e f (pulls h i) = omega ints
  high_fits false false e f (neither h i) = omega ints

-- ---- what a call that they let pass is

-- Questions 1 to 11 passed: the job and its windows are sound, both tables are whole, the buffer has its length.
pub record Asked (j : Job) (room : ℕ) : Type 0 where
  pub sane : Sane j
  pub standing : Standing j (sent j)
  pub whole_events : length j.window_table ≡ 5 * events j
  pub room_low : 3 ≤ room
  pub room_high : room ≤ 1000000

-- The tests that the job's own questions let pass.
record Answers (j : Job) : Type 0 where
  q1 : T (horizon_right j.horizon)
  q29 : T (cages_whole j.cage_table)
  q2 : (c : ℕ) → c < cages j → T (limits_right (cage j c))
  q3 : (c : ℕ) → c < cages j → T (stock_right (cage j c))
  q22 : (c : ℕ) → c < cages j → T (cover_right (cage j c))
  q4 : T (events_whole j.window_table)
  q5 : (y : ℕ) → y < events j → T (times_right j.horizon (sent j) y)
  q6 : (y : ℕ) → y < events j → T (heights_right (sent j) y)
  q30 : (y : ℕ) → y < events j → T (cage_right (cages j) j.window_table y)
  q7 : T (lags_whole j.lag_table)
  q8 : (g : ℕ) → g < lags j → T (lag_events (events j) j.lag_table g)
  q9 : (g : ℕ) → g < lags j → T (lag_differs j.lag_table g)
  q10 : (g : ℕ) → g < lags j → T (lag_in_range j.lag_table g)
  q31 : (g : ℕ) → g < sets j → T (set_whole j.set_table g)
  q32 : (g : ℕ) → g < sets j → T (members_right (events j) j.set_table g)
  q33 : (g : ℕ) → g < sets j → T (totals_right j.set_table g)

answers : (j : Job) → own_questions j ≡ pass → Answers j
unfolding own_questions
answers j e =
    let h = j.horizon in
    let cs = j.cage_table in
    let k = cages j in
    let table = j.window_table in
    let ws = j.lag_table in
    let n = events j in
    let m = lags j in
    let ss = j.set_table in
    let s = sets j in
    let parts = then_out (first_questions j) (last_questions j) e in
    let g1 = then_out (cage_questions h cs) _ parts.0 in
    let g2 = then_out (window_questions h k table) (lag_questions n ws) g1.1 in
    let a1 = then_out (ask 1 (horizon_right h)) _ g1.0 in
    let a29 = then_out (ask 29 (cages_whole cs)) _ a1.1 in
    let a2 = then_out (each 2 (λ c. limits_right (cage j c)) 0 k) _ a29.1 in
    let a3 = then_out (each 3 (λ c. stock_right (cage j c)) 0 k) (each 22 (λ c. cover_right (cage j c)) 0 k) a2.1 in
    let a4 = then_out (ask 4 (events_whole table)) _ g2.0 in
    let a5 = then_out (each 5 (times_right h (windows table)) 0 n) _ a4.1 in
    let a6 = then_out (each 6 (heights_right (windows table)) 0 n) (each 30 (cage_right k table) 0 n) a5.1 in
    let a7 = then_out (ask 7 (lags_whole ws)) _ g2.1 in
    let a8 = then_out (each 8 (lag_events n ws) 0 m) _ a7.1 in
    let a9 = then_out (each 9 (lag_differs ws) 0 m) (each 10 (lag_in_range ws) 0 m) a8.1 in
    let a31 = then_out (each 31 (set_whole ss) 0 s) _ parts.1 in
    let a32 = then_out (each 32 (members_right n ss) 0 s) (each 33 (totals_right ss) 0 s) a31.1 in
    record {
      q1 = ask_out 1 (horizon_right h) a1.0;
      q29 = ask_out 29 (cages_whole cs) a29.0;
      q2 = all_out 2 (λ c. limits_right (cage j c)) k a2.0;
      q3 = all_out 3 (λ c. stock_right (cage j c)) k a3.0;
      q22 = all_out 22 (λ c. cover_right (cage j c)) k a3.1;
      q4 = ask_out 4 (events_whole table) a4.0;
      q5 = all_out 5 (times_right h (windows table)) n a5.0;
      q6 = all_out 6 (heights_right (windows table)) n a6.0;
      q30 = all_out 30 (cage_right k table) n a6.1;
      q7 = ask_out 7 (lags_whole ws) a7.0;
      q8 = all_out 8 (lag_events n ws) m a8.0;
      q9 = all_out 9 (lag_differs ws) m a9.0;
      q10 = all_out 10 (lag_in_range ws) m a9.1;
      q31 = all_out 31 (set_whole ss) s a31.0;
      q32 = all_out 32 (members_right n ss) s a32.0;
      q33 = all_out 33 (totals_right ss) s a32.1;
    }

-- A buffer of another length in 3..1,000,000 is asked nothing more.
pub asked_again : (j : Job) (room other : ℕ) → questions j room ≡ pass → 3 ≤ other → other ≤ 1000000 → questions j other ≡ pass
unfolding questions
asked_again j room other e l m =
    then_in (own_questions j) (ask 11 (room_right other)) (then_out (own_questions j) _ e).0
    (ask_in 11 (room_right other) (and_in (leb 3 other) (leb other 1000000) (le→leb 3 other l) (le→leb other 1000000 m)))

-- The planner's questions are those of the reader and 28.
pub limit_asked : (j : Job) (limit : ℤ) (room : ℕ) → plan_questions j limit room ≡ pass → (questions j room ≡ pass) × T (limit_right limit)
unfolding plan_questions questions own_questions
limit_asked j limit room e =
    let a = then_out (first_questions j) _ e in
    let b = then_out (ask 28 (limit_right limit)) _ a.1 in
    let c = then_out (last_questions j) _ b.1 in
    (then_in (own_questions j) (ask 11 (room_right room)) (then_in (first_questions j) (last_questions j) a.0 c.0) c.1, ask_out 28 (limit_right limit) b.0)

pub limit_asks : (j : Job) (limit : ℤ) (room : ℕ) → questions j room ≡ pass → T (limit_right limit) → plan_questions j limit room ≡ pass
unfolding plan_questions questions own_questions
limit_asks j limit room e t =
    let a = then_out (own_questions j) _ e in
    let b = then_out (first_questions j) (last_questions j) a.0 in
    then_in (first_questions j) _ b.0 (then_in (ask 28 (limit_right limit)) _ (ask_in 28 (limit_right limit) t) (then_in (last_questions j) _ b.1 a.1))

event_sign : (n : ℕ) (w : ℤ) → T (is_event n w) → pos 0 ≤ℤ w
event_sign n w t = record { le = (and_out (le_z (pos 0) w) (lt_z w (pos n)) t).0 }

-- What holds of all holds of each.
pub every_out : (n : ℕ) (p : ℕ → Bool) → T (every n p) → (i : ℕ) → i < n → T (p i)
unfolding every
every_out zero p t i l = absurd (omega arith)
every_out (suc n) p t i l = go (ℕ_discrete i n) (λ o. every_out n p a.0 i o)
  where
    a : T (every n p) × T (p n)
    a = and_out (every n p) (p n) t

    go : Dec (i ≡ n) → (i < n → T (p i)) → T (p i)
    go (yes e) rest = rw e a.1
    go (no d) rest = rest (omega arith)

-- Two words of events that differ are two events.
events_differ : (n : ℕ) (v w : ℤ) → T (is_event n v) → T (is_event n w) → T (not (eq_z v w)) → nat_abs v ≡ nat_abs w → ⊥
events_differ n (pos a) (pos b) s t u e = T_not (eqb a b) u (rw e (eqb_refl b))
events_differ n (pos a) (negsuc b) s t u e = absurd t
events_differ n (negsuc a) (pos b) s t u e = absurd s
events_differ n (negsuc a) (negsuc b) s t u e = absurd s

-- At most k sets of k begin.
pub begun_most : (ws : List ℤ) (k : ℕ) → begun ws k ≤ k
unfolding begun
begun_most ws zero = omega arith
begun_most ws (suc k) = go (ltb (set_begin ws k) (length ws)) (begun_most ws k)
  where
    go : (b : Bool) → begun ws k ≤ k → cond b (suc k) (begun ws k) ≤ suc k
    go true h = omega arith
    go false h = omega arith

count_some : (w : ℤ) → T (le_z (pos 1) w) → 1 ≤ to_count w
count_some (pos n) t = leb→le 1 n t
count_some (negsuc n) t = absurd t

sane_set : (n : ℕ) (ws : List ℤ) (g : ℕ) → T (set_whole ws g) → T (members_right n ws g) → T (totals_right ws g) → SaneSet n ws g
sane_set n ws g whole members totals =
    let some = and_out (le_z (pos 1) (set_word ws g 2)) (every (member_count ws g) (member_right n ws g)) members in
    let range = and_out (total_in_range (set_word ws g 0) && total_in_range (set_word ws g 1)) (le_z (set_word ws g 0) (set_word ws g 1)) totals in
    let both = and_out (total_in_range (set_word ws g 0)) (total_in_range (set_word ws g 1)) range.0 in
    let apart : (i : ℕ) → ℕ → Bool = λ i k. not (eq_z (member_word ws g k) (member_word ws g i)) in
    let one : (i : ℕ) → i < member_count ws g → T (is_event n (member_word ws g i)) × T (every i (apart i)) = λ i l.
    and_out (is_event n (member_word ws g i)) (every i (apart i)) (every_out (member_count ws g) (member_right n ws g) some.1 i l) in
    record {
      inside = leb→le (set_begin ws (suc g)) (length ws) (and_out (ltb g 16) (leb (set_begin ws (suc g)) (length ws)) whole).1;
      some_member = count_some (set_word ws g 2) some.0;
      member_sign = λ i l. event_sign n (member_word ws g i) (one i l).0;
      member_real = λ i l. event_below n (member_word ws g i) (one i l).0;
      member_distinct = λ i k l o. events_differ n (member_word ws g k) (member_word ws g i) (one k (omega arith)).0 (one i l).0 (every_out i (apart i) (one i l).1 k o);
      least_range = around 639935 (set_word ws g 0) both.0;
      most_range = around 639935 (set_word ws g 1) both.1;
    }

sane_cage : (c : Reservoir) → T (limits_right c) → SaneCage c
sane_cage c t =
    let u = and_out (limit_in_range c.min_level && limit_in_range c.max_level) (limit_in_range c.initial) t in
    let v = and_out (limit_in_range c.min_level) (limit_in_range c.max_level) u.0 in
    record {
      min_range = around 999999 c.min_level v.0;
      max_range = around 999999 c.max_level v.1;
      initial_range = around 999999 c.initial u.1;
    }

module _ (j : Job) where
  lag_of : Answers j → (g : ℕ) → g < lags j → SaneLag (events j) j.lag_table g
  lag_of a g l =
      let n = events j in
      let ws = j.lag_table in
      let t = and_out (is_event n (lag_word ws g 0)) (is_event n (lag_word ws g 1)) (a.q8 g l) in
      record {
        sign_a = event_sign n (lag_word ws g 0) t.0;
        sign_b = event_sign n (lag_word ws g 1) t.1;
        real_a = event_below n (lag_word ws g 0) t.0;
        real_b = event_below n (lag_word ws g 1) t.1;
        gap_range = around 19999 (lag_word ws g 2) (a.q10 g l);
      }

  few_of : Answers j → sets j ≤ 16
  few_of a = go (ℕ_discrete (sets j) 17)
    where
      go : Dec (sets j ≡ 17) → sets j ≤ 16
      go (yes e) = absurd (and_out (ltb 16 16) (leb (set_begin j.set_table 17) (length j.set_table)) (a.q31 16 (omega arith))).0
      go (no d) = omega (arith, begun_most j.set_table 17)

  sane_of : Answers j → Sane j
  sane_of a =
      let t1 = in_range_out (pos 0) (pos 20000) j.horizon a.q1 in
      let t29 = and_out (eqb (length j.cage_table % 4) 0 && leb 4 (length j.cage_table)) (leb (length j.cage_table) 32) a.q29 in
      let u29 = leb→le 4 (length j.cage_table) (and_out (eqb (length j.cage_table % 4) 0) (leb 4 (length j.cage_table)) t29.0).1 in
      let v29 = leb→le (length j.cage_table) 32 t29.1 in
      let t4 = and_out (eqb (length j.window_table % 5) 0) (leb (length j.window_table) 320) a.q4 in
      let u4 = leb→le (length j.window_table) 320 t4.1 in
      let t7 = and_out (eqb (length j.lag_table % 3) 0) (leb (length j.lag_table) 768) a.q7 in
      let u7 = leb→le (length j.lag_table) 768 t7.1 in
      record {
        horizon_low = t1.0;
        horizon_high = t1.1;
        some_cage = omega arith;
        few_cages = omega arith;
        cage = λ c l. sane_cage (cage j c) (a.q2 c l);
        cage_sign = λ y l. event_sign (cages j) (cage_word j.window_table y) (a.q30 y l);
        cage_real = λ y l. event_below (cages j) (cage_word j.window_table y) (a.q30 y l);
        few_events = omega arith;
        few_lags = omega arith;
        lag = lag_of a;
        few_sets = few_of a;
        set_sane = λ g l. sane_set (events j) j.set_table g (a.q31 g l) (a.q32 g l) (a.q33 g l);
      }

  times_of : Answers j → (y : ℕ) → y < events j → (pos 0 ≤ℤ sent j y t_min) × (sent j y t_min ≤ℤ sent j y t_max) × (sent j y t_max ≤ℤ j.horizon)
  times_of a y l =
      let W = sent j in
      let t = a.q5 y l in
      let u = and_out (le_z (pos 0) (W y t_min) && le_z (W y t_min) (W y t_max)) (le_z (W y t_max) j.horizon) t in
      let v = and_out (le_z (pos 0) (W y t_min)) (le_z (W y t_min) (W y t_max)) u.0 in
      let x1 : T (le_z (pos 0) (W y t_min)) = v.0 in
      let x2 : T (le_z (W y t_min) (W y t_max)) = v.1 in
      let x3 : T (le_z (W y t_max) j.horizon) = u.1 in
      (omega ints, omega ints, omega ints)

  heights_of : Answers j → (y : ℕ) → y < events j → (sent j y h_min ≤ℤ sent j y h_max) × OneSign (sent j y h_min) (sent j y h_max)
  heights_of a y l =
      let W = sent j in
      let t = a.q6 y l in
      let u = and_out (le_z (pos 1) (W y h_min) && le_z (W y h_max) (pos 9999) || le_z (negsuc 9998) (W y h_min) && le_z (W y h_max) (negsuc 0) || le_z (pos 0) (W y h_min) && le_z (W y h_max) (pos 0)) (le_z (W y h_min) (W y h_max)) t in
      let v : T (le_z (W y h_min) (W y h_max)) = u.1 in
      (omega ints, one_sign (W y h_min) (W y h_max) u.0)

  widest_fits : Answers j → (y : ℕ) → y < events j → (k : End) → T (meets k (widest j y k) (sent j y k))
  widest_fits a y l t_min = let u = times_of a y l in omega ints
  widest_fits a y l t_max = let u = times_of a y l in omega ints
  widest_fits a y l h_min =
      let W = sent j in
      let u = heights_of a y l in
      let v = low_fits (W y h_min) (W y h_max) u.0 (produces (W y h_max)) (consumes (W y h_max)) refl refl u.1 in
      v.le
  widest_fits a y l h_max =
      let W = sent j in
      let u = heights_of a y l in
      let v = high_fits (W y h_min) (W y h_max) u.0 (produces (W y h_max)) (consumes (W y h_max)) refl refl u.1 in
      v.le

  -- What questions 1 to 11 give.
  pub asked : (room : ℕ) → questions j room ≡ pass → Asked j room
  unfolding questions
  asked room e =
      let r = then_out (own_questions j) (ask 11 (room_right room)) e in
      let a = answers j r.0 in
      let t4 = and_out (eqb (length j.window_table % 5) 0) (leb (length j.window_table) 320) a.q4 in
      let u4 = eqb→eq (length j.window_table % 5) 0 t4.0 in
      let t11 = and_out (leb 3 room) (leb room 1000000) (ask_out 11 (room_right room) r.1) in
      record {
        sane = sane_of a;
        standing = record {
          within = record { inside = widest_fits a };
          times = λ y l. (times_of a y l).1;
          heights = λ y l. (heights_of a y l).0;
        };
        whole_events = omega arith;
        room_low = leb→le 3 room t11.0;
        room_high = leb→le room 1000000 t11.1;
      }
