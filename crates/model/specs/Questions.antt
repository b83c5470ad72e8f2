-- Document 01, "Questions put to a call": 1 to 11, which planner and reader both ask, and 28, the planner's alone; each with its number and place.
use Rattle.std.specs.Prelude.{Bool, true, false, not, cond, ◌&&◌, ◌||◌, List, ℕ, zero, suc, ◌+◌, ◌/◌, ◌%◌, eqb, leb, ltb, ℤ, pos, negsuc, length}
use Rattle.std.specs.Int.Signed.{le_z, lt_z}
use Rattle.integers.specs.Range.{eq_z}
use Rattle.model.specs.Job.{every, set_begin, set_word, member_count, member_word, begun, cage_at, cage_word, cages, t_min, t_max, h_min, h_max, Windows, windows, Reservoir, Job, events, lag_word}

-- A "no" ends the call with the question's number and the place of the first event, lag or slip concerned.
pub data Check : Type 0 where
  pass : Check
  refuse : ℕ → ℕ → Check

infixr 5 ◌then◌
abbrev pub ◌then◌ : Check → Check → Check
◌then◌ pass c = c
◌then◌ (refuse q i) c = refuse q i

-- A question with place 0.
abbrev pub ask : ℕ → Bool → Check
ask q true = pass
ask q false = refuse q 0

-- A question to each of i, i + 1, .., k of them, in order.
unfoldable pub each : ℕ → (ℕ → Bool) → ℕ → ℕ → Check
each q ok i zero = pass
each q ok i (suc k) = cond (ok i) (each q ok (i + 1) k) (refuse q i)

abbrev pub in_range : ℤ → ℤ → ℤ → Bool
in_range low high x = le_z low x && le_z x high

-- ---- each question's test

-- 1. H is in 0..20,000.
abbrev pub horizon_right : ℤ → Bool
horizon_right h = in_range (pos 0) (pos 20000) h

-- 29. The cage words are 1 to 8 whole cages.
abbrev pub cages_whole : List ℤ → Bool
cages_whole ws = eqb (length ws % 4) 0 && leb 4 (length ws) && leb (length ws) 32

-- 2. Lmin, Lmax, Q are each in −1,000,000..1,000,000.
abbrev pub limit_in_range : ℤ → Bool
limit_in_range x = in_range (negsuc 999999) (pos 1000000) x

abbrev pub limits_right : Reservoir → Bool
limits_right c = limit_in_range c.min_level && limit_in_range c.max_level && limit_in_range c.initial

-- 3. Lmin ≤ Q ≤ Lmax.
abbrev pub stock_right : Reservoir → Bool
stock_right c = le_z c.min_level c.initial && le_z c.initial c.max_level

-- 22. Cover is 0 or 1.
abbrev pub cover_right : Reservoir → Bool
cover_right c = in_range (pos 0) (pos 1) c.cover

-- 4. The window table is whole events, 0 to 64.
abbrev pub events_whole : List ℤ → Bool
events_whole table = eqb (length table % 5) 0 && leb (length table) 320

-- 5. 0 ≤ t_min ≤ t_max ≤ H.
abbrev pub times_right : ℤ → Windows → ℕ → Bool
times_right h W y = le_z (pos 0) (W y t_min) && le_z (W y t_min) (W y t_max) && le_z (W y t_max) h

-- 6. The amount range within 1..9,999, or −9,999..−1, or 0..0, and h_min ≤ h_max.
abbrev pub heights_right : Windows → ℕ → Bool
heights_right W y =
    ((le_z (pos 1) (W y h_min) && le_z (W y h_max) (pos 9999))
    || (le_z (negsuc 9998) (W y h_min) && le_z (W y h_max) (negsuc 0))
    || (le_z (pos 0) (W y h_min) && le_z (W y h_max) (pos 0)))
    && le_z (W y h_min) (W y h_max)

-- A word that is the number of an event, of n.
abbrev pub is_event : ℕ → ℤ → Bool
is_event n w = le_z (pos 0) w && lt_z w (pos n)

-- 30. An event's cage is one of the job's, of k.
abbrev pub cage_right : ℕ → List ℤ → ℕ → Bool
cage_right k table y = is_event k (cage_word table y)

-- 7. The lag table is whole lags, 0 to 256.
abbrev pub lags_whole : List ℤ → Bool
lags_whole ws = eqb (length ws % 3) 0 && leb (length ws) 768

-- 8. a and b are events, of n.
abbrev pub lag_events : ℕ → List ℤ → ℕ → Bool
lag_events n ws g = is_event n (lag_word ws g 0) && is_event n (lag_word ws g 1)

-- 9. a and b differ.
abbrev pub lag_differs : List ℤ → ℕ → Bool
lag_differs ws g = not (eq_z (lag_word ws g 0) (lag_word ws g 1))

-- 10. d is in −20,000..20,000.
abbrev pub lag_in_range : List ℤ → ℕ → Bool
lag_in_range ws g = in_range (negsuc 19999) (pos 20000) (lag_word ws g 2)

-- 28. The round limit is in 0..1,000,000.
abbrev pub limit_right : ℤ → Bool
limit_right limit = in_range (pos 0) (pos 1000000) limit

-- 31. A set is one of the first 16, and whole.
abbrev pub set_whole : List ℤ → ℕ → Bool
set_whole ws g = ltb g 16 && leb (set_begin ws (suc g)) (length ws)

-- 32. It has members, all of them events, of n, none twice.
abbrev pub member_right : ℕ → List ℤ → ℕ → ℕ → Bool
member_right n ws g i =
    is_event n (member_word ws g i) && every i (λ k. not (eq_z (member_word ws g k) (member_word ws g i)))

abbrev pub members_right : ℕ → List ℤ → ℕ → Bool
members_right n ws g = le_z (pos 1) (set_word ws g 2) && every (member_count ws g) (member_right n ws g)

-- 33. Its totals are in −639,936..639,936, the least not over the most.
abbrev pub total_in_range : ℤ → Bool
total_in_range x = in_range (negsuc 639935) (pos 639936) x

abbrev pub totals_right : List ℤ → ℕ → Bool
totals_right ws g =
    total_in_range (set_word ws g 0) && total_in_range (set_word ws g 1) && le_z (set_word ws g 0) (set_word ws g 1)

-- 11. The slip buffer has 3 to 1,000,000 words.
abbrev pub room_right : ℕ → Bool
room_right room = leb 3 room && leb room 1000000

-- ---- the questions in order; each goes to all cages, events, lags or sets before the next

-- 1, 29, 2, 3 and 22, of the horizon and the cage table.
abbrev pub cage_questions : ℤ → List ℤ → Check
cage_questions h ws =
    ask 1 (horizon_right h)
    then ask 29 (cages_whole ws)
    then each 2 (λ c. limits_right (cage_at ws c)) 0 (length ws / 4)
    then each 3 (λ c. stock_right (cage_at ws c)) 0 (length ws / 4)
    then each 22 (λ c. cover_right (cage_at ws c)) 0 (length ws / 4)

-- 4 to 6 and 30, of the window table, with the horizon and the number of cages.
abbrev pub window_questions : ℤ → ℕ → List ℤ → Check
window_questions h k table =
    ask 4 (events_whole table)
    then each 5 (times_right h (windows table)) 0 (length table / 5)
    then each 6 (heights_right (windows table)) 0 (length table / 5)
    then each 30 (cage_right k table) 0 (length table / 5)

-- 7 to 10, of the lag table of n events.
abbrev pub lag_questions : ℕ → List ℤ → Check
lag_questions n ws =
    ask 7 (lags_whole ws)
    then each 8 (lag_events n ws) 0 (length ws / 3)
    then each 9 (lag_differs ws) 0 (length ws / 3)
    then each 10 (lag_in_range ws) 0 (length ws / 3)

-- 31 to 33, of the set table of n events.
abbrev pub set_questions : ℕ → List ℤ → Check
set_questions n ws =
    each 31 (set_whole ws) 0 (begun ws 17)
    then each 32 (members_right n ws) 0 (begun ws 17)
    then each 33 (totals_right ws) 0 (begun ws 17)

-- The job's own questions: first those up to the lags, then those of the sets.
abbrev pub first_questions : Job → Check
first_questions j =
    cage_questions j.horizon j.cage_table
    then window_questions j.horizon (cages j) j.window_table
    then lag_questions (events j) j.lag_table

abbrev pub last_questions : Job → Check
last_questions j = set_questions (events j) j.set_table

unfoldable pub own_questions : Job → Check
own_questions j = first_questions j then last_questions j

-- Questions 1 to 11: the job's own, then of the length of its slip buffer.
unfoldable pub questions : Job → ℕ → Check
questions j room = own_questions j then ask 11 (room_right room)

-- The planner's questions: 28 too, after 10.
unfoldable pub plan_questions : Job → ℤ → ℕ → Check
plan_questions j limit room =
    first_questions j then ask 28 (limit_right limit) then last_questions j then ask 11 (room_right room)
