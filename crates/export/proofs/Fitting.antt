-- Every number of a reply is at most 1,000,000: a place is that of a cage, an event, a lag, a set or a slip, and a list has fewer slips than words.
-- Assumes nothing.
use mathlib.Core.Path.{◌≡◌, refl}
use mathlib.Core.Bool.{Bool, true, false, cond, ◌&&◌}
use mathlib.Core.List.{List}
use Prim.Native.Nat.{ℕ, zero, suc, ◌+◌, ◌/◌, ◌%◌, ◌≤◌}
use native.Mathlib.Omega.{arith}
use lib.Dec.{eqb, leb, leb→le}
use lib.IntN.{ℤ, nat_abs}
use lib.ListN.{length}
use Rattle.integers.proofs.Tests.{true_is, and_out}
use Rattle.model.specs.Job.{Windows, windows, widest, cage_at, cages, Job, events, begun}
use Rattle.model.specs.Rules.{own_end, bound, effect, is_narrowing}
use Rattle.model.specs.Slips.{Explanation, slip_length, premise_count, slip_at, rule_of, target_of}
use Rattle.model.specs.Rounds.{Verdict, settled, conflict, stopped, still_open}
use Rattle.model.specs.Questions.{Check, pass, refuse, ◌then◌, ask, each, horizon_right, cages_whole, limits_right, stock_right, cover_right, events_whole, times_right, heights_right, cage_right, lags_whole, lag_events, lag_differs, lag_in_range, set_whole, members_right, totals_right, room_right, cage_questions, window_questions, lag_questions, set_questions, first_questions, last_questions, own_questions, questions, limit_right, plan_questions}
use Rattle.model.specs.Planner.{refused, done, Outcome, plan}
use Rattle.model.specs.Reader.{whole, reading, names, all_true, narrowed, is_conflict, gives, slip_questions, applied, Read, read_from, stop_of, counted, marked, ends_right, read_all, accepted, judged, check}
use Rattle.model.proofs.Questions.{then_out, ask_out, begun_most, asked, limit_asked}
use Rattle.model.proofs.Reading.{slip_ends}
use Rattle.model.proofs.Rounds.{slips_room}
use Rattle.model.proofs.Refusals.{run_in, plan_refused, plan_planned, run_finished, check_refused, check_judged}
use Rattle.export.specs.Words.{outcome_of, numbers_of, Small}

-- ---- checks

-- A refusal's number and place.
data Low : Check → Type 0 where
  passes : Low pass
  refuses : (number place : ℕ) → number ≤ 1000000 → place ≤ 1000000 → Low (refuse number place)

then_low : (c d : Check) → Low c → (c ≡ pass → Low d) → Low (c then d)
then_low pass d l m = m refl
then_low (refuse number place) d l m = l

ask_low : (q : ℕ) (b : Bool) → q ≤ 1000000 → Low (ask q b)
ask_low q true h = passes
ask_low q false h = refuses q 0 h (omega arith)

each_low : (q : ℕ) (ok : ℕ → Bool) (i k : ℕ) → q ≤ 1000000 → i + k ≤ 1000000 → Low (each q ok i k)
unfolding each
each_low q ok i zero h l = passes
each_low q ok i (suc k) h l = go (ok i) (each_low q ok (i + 1) k h (omega arith))
  where
    go : (b : Bool) → Low (each q ok (i + 1) k) → Low (cond b (each q ok (i + 1) k) (refuse q i))
    go true r = r
    go false r = refuses q i h (omega arith)

-- ---- questions

-- Questions 14 to 18 of a slip.
slip_low : (named true-facts given clashing last moved : Bool) → Low (ask 14 named then ask 15 true-facts then ask 16 given then cond clashing (ask 18 last) (ask 17 moved))
slip_low named true-facts given clashing last moved =
    then_low (ask 14 named) _ (ask_low 14 named (omega arith)) (λ _. then_low (ask 15 true-facts) _ (ask_low 15 true-facts (omega arith))
    (λ _. then_low (ask 16 given) _ (ask_low 16 given (omega arith)) (λ _. done_low clashing)))
  where
    done_low : (b : Bool) → Low (cond b (ask 18 last) (ask 17 moved))
    done_low true = ask_low 18 last (omega arith)
    done_low false = ask_low 17 moved (omega arith)

-- A table's length that question 4 or 7 lets pass.
few : (q m k : ℕ) (whole-entries : Bool) → k ≤ 1000000 → ask q (whole-entries && leb m k) ≡ pass → m ≤ 1000000
few q m k whole-entries l e =
    let t = and_out whole-entries (leb m k) (ask_out q (whole-entries && leb m k) e) in
    let u = leb→le m k t.1 in
    omega arith

-- The job's own questions, part by part.
cage_low : (h : ℤ) (ws : List ℤ) → Low (cage_questions h ws)
cage_low h ws =
    then_low (ask 1 (horizon_right h)) _ (ask_low 1 (horizon_right h) (omega arith))
    (λ _. then_low (ask 29 (cages_whole ws)) _ (ask_low 29 (cages_whole ws) (omega arith))
    (λ p. then_low (each 2 (λ c. limits_right (cage_at ws c)) 0 (length ws / 4)) _ (each_low 2 (λ c. limits_right (cage_at ws c)) 0 (length ws / 4) (omega arith) (cages p))
    (λ _. then_low (each 3 (λ c. stock_right (cage_at ws c)) 0 (length ws / 4)) _ (each_low 3 (λ c. stock_right (cage_at ws c)) 0 (length ws / 4) (omega arith) (cages p))
    (λ _. each_low 22 (λ c. cover_right (cage_at ws c)) 0 (length ws / 4) (omega arith) (cages p)))))
  where
    cages : ask 29 (cages_whole ws) ≡ pass → 0 + length ws / 4 ≤ 1000000
    cages e = let k = few 29 (length ws) 32 (eqb (length ws % 4) 0 && leb 4 (length ws)) (omega arith) e in omega arith

window_low : (h : ℤ) (k : ℕ) (table : List ℤ) → Low (window_questions h k table)
window_low h k table =
    then_low (ask 4 (events_whole table)) _ (ask_low 4 (events_whole table) (omega arith))
    (λ p. then_low (each 5 (times_right h (windows table)) 0 (length table / 5)) _ (each_low 5 (times_right h (windows table)) 0 (length table / 5) (omega arith) (events p))
    (λ _. then_low (each 6 (heights_right (windows table)) 0 (length table / 5)) _ (each_low 6 (heights_right (windows table)) 0 (length table / 5) (omega arith) (events p))
    (λ _. each_low 30 (cage_right k table) 0 (length table / 5) (omega arith) (events p))))
  where
    events : ask 4 (events_whole table) ≡ pass → 0 + length table / 5 ≤ 1000000
    events e = let k = few 4 (length table) 320 (eqb (length table % 5) 0) (omega arith) e in omega arith

lag_low : (n : ℕ) (ws : List ℤ) → Low (lag_questions n ws)
lag_low n ws =
    then_low (ask 7 (lags_whole ws)) _ (ask_low 7 (lags_whole ws) (omega arith))
    (λ p. then_low (each 8 (lag_events n ws) 0 (length ws / 3)) _ (each_low 8 (lag_events n ws) 0 (length ws / 3) (omega arith) (ties p))
    (λ _. then_low (each 9 (lag_differs ws) 0 (length ws / 3)) _ (each_low 9 (lag_differs ws) 0 (length ws / 3) (omega arith) (ties p))
    (λ _. each_low 10 (lag_in_range ws) 0 (length ws / 3) (omega arith) (ties p))))
  where
    ties : ask 7 (lags_whole ws) ≡ pass → 0 + length ws / 3 ≤ 1000000
    ties e = let k = few 7 (length ws) 768 (eqb (length ws % 3) 0) (omega arith) e in omega arith

set_low : (n : ℕ) (ws : List ℤ) → Low (set_questions n ws)
set_low n ws =
    then_low (each 31 (set_whole ws) 0 (begun ws 17)) _ (each_low 31 (set_whole ws) 0 (begun ws 17) (omega arith) some)
    (λ _. then_low (each 32 (members_right n ws) 0 (begun ws 17)) _ (each_low 32 (members_right n ws) 0 (begun ws 17) (omega arith) some)
    (λ _. each_low 33 (totals_right ws) 0 (begun ws 17) (omega arith) some))
  where
    some : 0 + begun ws 17 ≤ 1000000
    some = omega (arith, begun_most ws 17)

module _ (j : Job) where
  first_low : Low (first_questions j)
  first_low =
      then_low (cage_questions j.horizon j.cage_table) _ (cage_low j.horizon j.cage_table)
      (λ _. then_low (window_questions j.horizon (cages j) j.window_table) _ (window_low j.horizon (cages j) j.window_table)
      (λ _. lag_low (events j) j.lag_table))

  last_low : (room : ℕ) → Low (last_questions j then ask 11 (room_right room))
  last_low room =
      then_low (last_questions j) _ (set_low (events j) j.set_table) (λ _. ask_low 11 (room_right room) (omega arith))

  questions_low : (room : ℕ) → Low (questions j room)
  unfolding questions own_questions
  questions_low room =
      then_low (own_questions j) (ask 11 (room_right room))
      (then_low (first_questions j) (last_questions j) first_low (λ _. set_low (events j) j.set_table))
      (λ _. ask_low 11 (room_right room) (omega arith))

  plan_low : (limit : ℤ) (room : ℕ) → Low (plan_questions j limit room)
  unfolding plan_questions
  plan_low limit room =
      then_low (first_questions j) _ first_low (λ _. then_low (ask 28 (limit_right limit)) _ (ask_low 28 (limit_right limit) (omega arith)) (λ _. last_low room))

  -- ---- the planner

  outcome_low : (v : Verdict) → outcome_of v ≤ 1000000
  outcome_low settled = omega arith
  outcome_low conflict = omega arith
  outcome_low stopped = omega arith
  outcome_low still_open = omega arith

  refused_small : (number place : ℕ) → Low (refuse number place) → Small (numbers_of (refused number place))
  refused_small number place (refuses _ _ l m) =
      record { number = l; place = m; outcome = omega arith; slips = omega arith; rounds = omega arith; length = omega arith }

  done_small : (v : Verdict) (slips rounds len : ℕ) → slips ≤ 1000000 → rounds ≤ 1000000 → len ≤ 1000000 → Small (numbers_of (done v slips rounds len))
  done_small v slips rounds len l m n =
      record { number = omega arith; place = omega arith; outcome = outcome_low v; slips = l; rounds = m; length = n }

  pub plan_small : (limit : ℤ) (buffer : List ℤ) → Small (numbers_of (plan j limit buffer).reply)
  plan_small limit buffer = go (plan_questions j limit (length buffer)) refl
    where
      go : (c : Check) → plan_questions j limit (length buffer) ≡ c → Small (numbers_of (plan j limit buffer).reply)
      go (refuse number place) e = rw (plan_refused j limit buffer number place e) (refused_small number place (rw e at (plan_low limit (length buffer))))
      go pass e =
          let r = run_in j limit buffer in
          let f = run_finished j limit buffer e in
          let a = (asked j (length buffer) (limit_asked j limit (length buffer) e).0).room_high in
          let k = slips_room (length buffer) j r.state f.kept in
          let t = f.kept.trailer_fits in
          let m = f.counted in
          rw (plan_planned j limit buffer e) (done_small r.verdict r.state.slips r.rounds (length r.state.log + 3) (omega arith) (omega arith) (omega arith))

  -- ---- the reader

  module _ (wide : Windows) (list : List ℤ) (stop : ℕ) (short : stop ≤ 1000000) where
    asks_low : (table' : List ℤ) (x : Explanation) (k : ℕ) → Low (slip_questions j wide (windows table') x k)
    unfolding slip_questions
    asks_low table' x k =
        slip_low (names j x) (all_true (windows table') x.premises) (gives j (narrowed wide x.premises) x) (is_conflict x) (eqb k 0)
        (is_narrowing (effect (own_end (rule_of x)) (windows table') (target_of x) (bound x.value)))

    -- The number of a slip is at most the place where it begins.
    read_low : (k i p last : ℕ) (c : Bool) (table' : List ℤ) → i ≤ p → p ≤ stop → Low (read_from j wide list stop k i p last c table').check
    unfolding read_from reading
    read_low zero i p last c table' l m = passes
    read_low (suc k) i p last c table' l m =
        go (whole list stop p) refl (slip_questions j wide (windows table') (slip_at list p) k) refl (asks_low table' (slip_at list p) k)
        (read_low k (i + 1) (p + slip_length (premise_count list p)) p (is_conflict (slip_at list p)) (applied table' (slip_at list p)) (omega arith))
      where
        go : (b : Bool) → whole list stop p ≡ b → (a : Check) → slip_questions j wide (windows table') (slip_at list p) k ≡ a → Low (slip_questions j wide (windows table') (slip_at list p) k)
            → (p + slip_length (premise_count list p) ≤ stop → Low (read_from j wide list stop k (i + 1) (p + slip_length (premise_count list p)) p (is_conflict (slip_at list p)) (applied table' (slip_at list p))).check)
            → Low (read_from j wide list stop (suc k) i p last c table').check
        go true e pass f s rec = rw (e, f, read_from) (rec (slip_ends list stop p (true_is e)))
        go true e (refuse number place) f s rec = rw (e, f, read_from) (placed (rw f at s))
          where
            placed : Low (refuse number place) → Low (refuse number i)
            placed (refuses _ _ n o) = refuses number i n (omega arith)
        go false e a f s rec = rw (e, read_from) (refuses 13 i (omega arith) (omega arith))

  all_low : (list : List ℤ) → length list ≤ 1000000 → Low (read_all j list).check
  unfolding read_all
  all_low list l = read_low (widest j) list (stop_of list) (omega arith) (nat_abs (counted list)) 0 0 0 false j.window_table (omega arith) (omega arith)

  pub check_small : (list : List ℤ) → Small (numbers_of (check j list).reply)
  check_small list = go (questions j (length list) then ask 12 (marked list)) refl
    where
      both : Low (questions j (length list) then ask 12 (marked list))
      both = then_low (questions j (length list)) (ask 12 (marked list)) (questions_low (length list)) (λ _. ask_low 12 (marked list) (omega arith))

      verdict : (r : Read) → Low r.check → Small (numbers_of (judged j list r).reply)
      verdict r l = ends (r.check then ask 19 (ends_right list r.after r.last)) (then_low r.check _ l (λ _. ask_low 19 (ends_right list r.after r.last) (omega arith)))
        where
          ends : (c : Check) → Low c → Small (numbers_of (elim c as (λ _. Outcome) [ refuse n i ↦ record { reply = refused n i; table = j.window_table; buffer = list } | pass ↦ record { reply = done (accepted r.conflicting) 0 0 0; table = r.table; buffer = list } ]).reply)
          ends pass l = done_small (accepted r.conflicting) 0 0 0 (omega arith) (omega arith) (omega arith)
          ends (refuse number place) l = refused_small number place l

      go : (c : Check) → (questions j (length list) then ask 12 (marked list)) ≡ c → Small (numbers_of (check j list).reply)
      go (refuse number place) e = rw (check_refused j list number place e) (refused_small number place (rw e at both))
      go pass e =
          let d = (then_out (questions j (length list)) (ask 12 (marked list)) e).0 in
          rw (check_judged j list e) (verdict (read_all j list) (all_low list (asked j (length list) d).room_high))
