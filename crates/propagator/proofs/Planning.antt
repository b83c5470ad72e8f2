-- The whole call: from a table that passed its questions to the board, from the end of the run to what the call leaves.
-- Assumes nothing.
use mathlib.Core.Path.{◌≡◌, refl, sym, ap, ◌∙◌}
use mathlib.Core.List.{List, ◌++◌, append_assoc}
use Prim.Native.Nat.{ℕ, zero, suc, ◌+◌, ◌*◌, ◌≤◌}
use native.Mathlib.Omega.{arith}
use lib.IntN.{ℤ, pos, nat_abs}
use Rattle.std.specs.Prelude.{Ok}
use lib.ListN.{length, take, drop, take-append-drop}
use lib.Seq.{length-take-le}
use lib.Signed.{le_z, ◌≤ℤ◌, le_z_yes}
use Rattle.model.specs.Job.{h_min, h_max, windows, produces, events, Job as Call}
use Rattle.model.specs.Slips.{trailer}
use Rattle.model.specs.Rounds.{State, run, start}
use Rattle.model.specs.Questions.{pass, questions, plan_questions}
use Rattle.model.specs.Planner.{plan, limited}
use Rattle.integers.proofs.Tests.{and_out}
use Rattle.model.proofs.Questions.{asked, limit_asked}
use Rattle.model.proofs.Ranges.{end_range}
use Rattle.tables.specs.Board.{table_of, Loaded}
use Rattle.tables.proofs.Boarding.{windows_board}
use Rattle.tables.proofs.Holding.{standing_signed}
use Rattle.slips.specs.Words.{Appended}
use Rattle.slips.proofs.Wording.{drop_later}
use Rattle.rounds.specs.Held.{Held}
use Rattle.rounds.specs.State.{room, state_at, state_of}
use Rattle.rounds.specs.declared.Log.{Log}
use Rattle.turns.specs.Works.{Works}
use Rattle.turns.specs.Turns.{call_of}
use Rattle.turns.specs.declared.Call.{Call as Hand}
use Rattle.turns.proofs.Turning.{call_is, events_are}
use Rattle.propagator.specs.Runs.{verdict_of, fuel_of, now, Ran}
use Rattle.propagator.specs.Plans.{Outcomes}
use Rattle.propagator.specs.declared.Answer.{Answer}
use Rattle.propagator.specs.declared.Ended.{Ended}

-- A limit's rounds are the fuel of the run.
limited_is : (limit room : ℕ) (j : Call) → run room j (fuel_of limit room) 0 (start j.window_table) ≡ limited limit room j
limited_is zero room j = refl
limited_is (suc k) room j = refl

-- A call that passed its questions.
module _ (j : Call) (limit : ℤ) (buffer : List ℤ) (allowed : plan_questions j limit (length buffer) ≡ pass) where
  passes : questions j (length buffer) ≡ pass
  passes = (limit_asked j limit (length buffer) allowed).0

  pub limit_low : pos 0 ≤ℤ limit
  limit_low = le_z_yes (and_out (le_z (pos 0) limit) (le_z limit (pos 1000000)) (limit_asked j limit (length buffer) allowed).1).0

  pub whole_table : length j.window_table ≡ 5 * events j
  whole_table = (asked j (length buffer) passes).whole_events

  pub few : events j ≤ 64
  few = (asked j (length buffer) passes).sane.few_events

  -- ---- the board at the start

  module _ {b : List ℤ} (l : Loaded (events j) j.window_table b) where
    pub works_start : Works j (events j) b
    works_start =
        let a = asked j (length buffer) passes in
        record {
          sane = a.sane;
          whole = a.whole_events;
          events_are = refl;
          kinds = λ y h. ap produces (sym (windows_board (events j) j.window_table b y h_max h) ∙ ap (λ (t : List ℤ). windows t y h_max) l.is);
        }

    pub held_start : Held (events j) b
    held_start =
        let a = asked j (length buffer) passes in
        let range = end_range a.sane a.standing in
        let signed = standing_signed a.standing in
        record {
          whole = l.whole;
          ranged = record { few = a.sane.few_events; range = λ y h k. rw (← windows_board (events j) j.window_table b y k h, l.is) (range y h k) };
          signed = λ y h. rw (← windows_board (events j) j.window_table b y h_min h, ← windows_board (events j) j.window_table b y h_max h, l.is) (signed y h);
        }

  pub room_fits : (3 ≤ length buffer) × (length buffer ≤ 1000000)
  room_fits = let a = asked j (length buffer) passes in (a.room_low, a.room_high)

-- ---- what the call leaves

module _ {c : Hand} {l : Log} {buffer : List ℤ} (limit : ℤ) (lent : l.buffer.now ≡ buffer) (none : (t : List ℤ) → state_at t l ≡ start t) (allowed : plan_questions (call_of c) limit (length buffer) ≡ pass) (loaded : Loaded c.events c.windows.now c.board.now.words)
    {c' : Hand} {l' : Log} {e : Ended} {fuel : ℕ} (r : Ran fuel c l c' l' e) (enough : fuel ≡ fuel_of (nat_abs limit) (length buffer)) where
  log_length : length (take l'.used l'.buffer.now) ≡ l'.used
  log_length = length-take-le l'.used l'.buffer.now (omega (arith, l'.roomy.trailer_fits))

  run_is : record { verdict = verdict_of e.verdict; rounds = e.rounds; state = now c' l' } ≡ limited (nat_abs limit) (length buffer) (call_of c)
  run_is = r.is ∙ rw (none (table_of c.events c.windows.now c.board.now.words), loaded.is, enough, lent) (limited_is (nat_abs limit) (length buffer) (call_of c))

  -- With the trailer the list ends as it must, and words after it are the caller's.
  module _ {b words after : List ℤ} {end : ℕ} (same_board : c'.board.now.words ≡ b) (same : l'.buffer.now ≡ words) (appended : Appended l'.used (trailer l'.slips l'.last) words after end) where
    t : Appended l'.used (trailer l'.slips l'.last) l'.buffer.now after end
    t = rw same appended

    written_is : after ≡ take l'.used l'.buffer.now ++ (trailer l'.slips l'.last ++ drop (length (take l'.used l'.buffer.now) + 3) buffer)
    written_is =
        let used = l'.used in
        let words = trailer l'.slips l'.last in
        let rest : drop (used + 3) l'.buffer.now ≡ drop (used + 3) buffer = drop_later l'.buffer.now l.buffer.now used (used + 3) (omega arith) r.grown.after ∙ ap (drop (used + 3)) lent in
        let kept : drop end after ≡ drop (used + 3) buffer = t.rest ∙ rw t.place rest in
        sym (take-append-drop end after) ∙ rw (t.is, kept, log_length) (append_assoc (take used l'.buffer.now) words (drop (used + 3) buffer))

    pub outcome : {table : List ℤ} {a : Answer} → table ≡ table_of c.events c.windows.now b → a ≡ record { verdict = e.verdict; slips = l'.slips; rounds = e.rounds; length = end }
        → Outcomes (plan (call_of c) limit buffer) table after (Ok a)
    unfolding plan
    outcome q s =
        let stays : state_of c'.events c'.windows.now c'.board.now.words l' ≡ state_of c.events c.windows.now c'.board.now.words l' = rw (events_are r.stays, ap (λ (j : Call). j.window_table) (call_is r.stays)) refl in
        rw (plan, allowed, ← run_is)
        (record {
          answer = rw (s, log_length, ← t.place);
          windows = q ∙ rw (← same_board) (ap (λ (x : State). x.table) (sym stays));
          slips = written_is;
        })
