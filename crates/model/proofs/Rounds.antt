-- Rounds and runs of the planner: what an attempt keeps, so every round and run; that the fuel of a run never runs out; what its end says.
-- Assumes nothing.
use mathlib.Core.Path.{◌≡◌, refl, sym, ap, ◌∙◌}
use mathlib.Core.Bool.{Bool, true, false}
use mathlib.Core.List.{List, [], ◌∷◌, ◌++◌}
use Prim.Native.Nat.{ℕ, zero, suc, ◌+◌, ◌*◌, ◌≤◌, ◌<◌}
use native.Mathlib.Omega.{arith}
use borrow.Author.Tests.{eqb-true, eqb-false}
use lib.Dec.{T, eqb, leb→le}
use lib.IntN.{ℤ}
use lib.ListN.{length, set, length-append}
use Rattle.model.specs.Job.{slot, windows, Job, events, sent}
use Rattle.model.specs.Standing.{Sane, Standing}
use Rattle.model.specs.Rules.{rule, own_end, narrows, fails}
use Rattle.model.specs.Slips.{Explanation, slip_words, log_words, last_begins}
use Rattle.model.specs.Agenda.{Valid}
use Rattle.model.specs.Rounds.{Verdict, settled, conflict, stopped, still_open, Status, running, ended, State, fits, attempt, round, Run, run, start}
use Rattle.model.specs.Reader.{applied}
use Rattle.model.proofs.Words.{Formed, AllFormed, all_formed_snoc, log_words_snoc, log_words_length, last_begins_snoc}
use Rattle.model.proofs.Sweeps.{round_keeps, slip_on, with_slip, Step, same, stops, narrowed, failing, attempt_step}
use Rattle.model.proofs.Written.{Wrote, formed_explanation, narrows_kind, narrows_applied, replayed, Written, Narrowings, ConflictLast, conflicting_after, replayed_snoc, written_snoc, narrowings_snoc, conflict_last_snoc, conflicting_snoc, wrote_standing}

-- ---- the state of a call

-- While a call runs, and where it has stopped, no slip is a conflict; where it has ended in a conflict, the last is.
abbrev pub StatusFits : Status → List Explanation → Type 0
StatusFits running xs = Narrowings xs
StatusFits (ended settled) xs = ⊥
StatusFits (ended conflict) xs = T (conflicting_after false xs)
StatusFits (ended stopped) xs = Narrowings xs
StatusFits (ended still_open) xs = ⊥

-- What holds of the state throughout a call that was sent a window table: its list is the words of the slips written, its table what they make of the one sent,
-- its counts are theirs, and the trailer fits the room.
pub record Kept (room : ℕ) (j : Job) (s : State) : Type 0 where
  pub slips_written : List Explanation
  pub log_is : s.log ≡ log_words slips_written
  pub count_is : s.slips ≡ length slips_written
  pub last_is : s.last ≡ last_begins 0 0 slips_written
  pub table_is : s.table ≡ replayed j.window_table slips_written
  pub written : Written j j.window_table slips_written
  pub formed : AllFormed slips_written
  pub conflict_last : ConflictLast slips_written
  pub status_fits : StatusFits s.status slips_written
  pub whole : length s.table ≡ 5 * events j
  pub standing : Standing j (windows s.table)
  pub trailer_fits : length s.log + 3 ≤ room

-- Each slip takes seven words and more.
pub slips_room : (room : ℕ) (j : Job) (s : State) → Kept room j s → 7 * s.slips ≤ length s.log
slips_room room j s k = omega (arith, k.count_is, ap length k.log_is, log_words_length k.slips_written)

module _ (room : ℕ) (j : Job) where
  -- It holds at the start.
  pub start_kept : length j.window_table ≡ 5 * events j → Standing j (sent j) → 3 ≤ room → Kept room j (start j.window_table)
  unfolding log_words last_begins replayed
  start_kept long std fit =
      record {
        slips_written = [];
        log_is = refl;
        count_is = refl;
        last_is = refl;
        table_is = refl;
        written = tt;
        formed = tt;
        conflict_last = tt;
        status_fits = tt;
        whole = long;
        standing = std;
        trailer_fits = omega arith;
      }

  -- One slip more.
  slip_kept : (s : State) (k : Kept room j s) (x : Explanation) (table : List ℤ) (status : Status) → s.status ≡ running → Wrote j s.table x → Formed x → table ≡ applied s.table x →
      T (fits room s.log (slip_words x)) → StatusFits status (k.slips_written ++ (x ∷ [])) → Kept room j (with_slip s x table status)
  slip_kept s k x table status on w f is room_for ends =
      let xs = k.slips_written in
      let after = wrote_standing j s.table x k.whole k.standing w in
      let none : Narrowings xs = rw on at k.status_fits in
      record {
        slips_written = xs ++ (x ∷ []);
        log_is = rw (k.log_is, log_words_snoc);
        count_is = omega (arith, k.count_is, length-append xs (x ∷ []));
        last_is = omega (arith, ap length k.log_is, last_begins_snoc xs x 0 0);
        table_is = is ∙ ap (λ t. applied t x) k.table_is ∙ sym (replayed_snoc xs x j.window_table);
        written = written_snoc j xs x j.window_table k.written (rw k.table_is at w);
        formed = all_formed_snoc xs x k.formed f;
        conflict_last = conflict_last_snoc xs x none;
        status_fits = ends;
        whole = rw is after.0;
        standing = rw is after.1;
        trailer_fits = omega (arith, length-append s.log (slip_words x), leb→le (length s.log + length (slip_words x) + 3) room room_for);
      }

  module _ (sane : Sane j) where
    step_kept : (r e y : ℕ) → Valid j r e y → (s t : State) → Step room r j e y s t → Kept room j s → Kept room j t
    step_kept r e y v s t same k = k
    step_kept r e y v s t (stops on) k =
        record {
          slips_written = k.slips_written;
          log_is = k.log_is;
          count_is = k.count_is;
          last_is = k.last_is;
          table_is = k.table_is;
          written = k.written;
          formed = k.formed;
          conflict_last = k.conflict_last;
          status_fits = rw on at k.status_fits;
          whole = k.whole;
          standing = k.standing;
          trailer_fits = k.trailer_fits;
        }
    step_kept r e y v s t (narrowed b on is room_for) k =
        let x = slip_on r j e y s (narrows b) in
        let w : Wrote j s.table x = record { r = r; e = e; y = y; outcome = narrows b; valid = v; outcome_is = sym is; busy = λ q. let z : ◌≡◌ {A = ℕ} 0 1 = cc in omega arith; slip_is = refl } in
        slip_kept s k x (set s.table (slot y (own_end (rule r))) b) running on w
        (formed_explanation j sane (windows s.table) r e y (narrows b) v.known)
        (sym (narrows_applied j (windows s.table) r e y b s.table)) room_for
        (narrowings_snoc k.slips_written x (rw on at k.status_fits) (narrows_kind j (windows s.table) r e y b))
    step_kept r e y v s t (failing on is room_for) k =
        let x = slip_on r j e y s fails in
        let w : Wrote j s.table x = record { r = r; e = e; y = y; outcome = fails; valid = v; outcome_is = sym is; busy = λ q. let z : ◌≡◌ {A = ℕ} 0 1 = cc in omega arith; slip_is = refl } in
        slip_kept s k x s.table (ended conflict) on w
        (formed_explanation j sane (windows s.table) r e y fails v.known)
        refl room_for
        (rw (conflicting_snoc k.slips_written x false) tt)

    -- Every attempt keeps it, and every round.
    pub attempt_kept : (r e y : ℕ) → Valid j r e y → (s : State) → Kept room j s → Kept room j (attempt room r j e y s)
    attempt_kept r e y v s k = step_kept r e y v s (attempt room r j e y s) (attempt_step room r j e y s) k

    pub round_kept : (s : State) → Kept room j s → Kept room j (round room j s)
    round_kept s k = round_keeps room j (Kept room j) attempt_kept sane s k

-- ---- what a round changes

-- The state t comes from s by attempts: no slip is lost, and where none was written and the call goes on, nothing changed.
pub record Onward (s t : State) : Type 0 where
  pub more : s.slips ≤ t.slips
  pub unmoved : t.status ≡ running → t.slips ≡ s.slips → t ≡ s

-- Running and ended are two.
pub apart : {x : Status} {v : Verdict} {A : Type 0} → x ≡ running → x ≡ ended v → A
apart p q = absurd (let z : ◌≡◌ {A = ℕ} 0 1 = cc in omega arith)

module _ (room : ℕ) (j : Job) where
  step_onward : (r e y : ℕ) (s t u : State) → Step room r j e y t u → Onward s t → Onward s u
  step_onward r e y s t u same o = o
  step_onward r e y s t u (stops on) o = record { more = o.more; unmoved = λ p q. apart p refl }
  step_onward r e y s t u (narrowed v on is room_for) o = record { more = omega (arith, o.more); unmoved = λ p q. absurd (omega (arith, o.more)) }
  step_onward r e y s t u (failing on is room_for) o = record { more = omega (arith, o.more); unmoved = λ p q. apart p refl }

  pub round_onward : Sane j → (s : State) → Onward s (round room j s)
  round_onward sane s =
      round_keeps room j (Onward s) (λ r e y v t o. step_onward r e y s t (attempt room r j e y t) (attempt_step room r j e y t) o) sane s
      (record { more = omega arith; unmoved = λ p q. refl })

-- ---- the run

-- The run from the state s, n rounds begun before, ends as r, by the rules alone: no fuel is spoken of.
pub data Runs (room : ℕ) (j : Job) (r : Run) : ℕ → State → Type 0 where
  closes : {n : ℕ} {s : State} (v : Verdict) → (round room j s).status ≡ ended v → r ≡ record { verdict = v; rounds = n + 1; state = round room j s } → Runs room j r n s
  settles : {n : ℕ} {s : State} → (round room j s).status ≡ running → (round room j s).slips ≡ s.slips → r ≡ record { verdict = settled; rounds = n + 1; state = round room j s } → Runs room j r n s
  goes_on : {n : ℕ} {s : State} → (round room j s).status ≡ running → ((round room j s).slips ≡ s.slips → ⊥) → Runs room j r (n + 1) (round room j s) → Runs room j r n s

module _ (room : ℕ) (j : Job) where
  -- There is one such end.
  pub runs_unique : (r t : Run) (n : ℕ) (s : State) → Runs room j r n s → Runs room j t n s → r ≡ t
  runs_unique r t n s (closes v off is) (closes w off' is') = cc
  runs_unique r t n s (closes v off is) (settles on _ is') = apart on off
  runs_unique r t n s (closes v off is) (goes_on on _ more) = apart on off
  runs_unique r t n s (settles on _ is) (closes v off is') = apart on off
  runs_unique r t n s (settles on _ is) (settles _ _ is') = is ∙ sym is'
  runs_unique r t n s (settles on none is) (goes_on _ some more) = absurd (some none)
  runs_unique r t n s (goes_on on _ more) (closes v off is) = apart on off
  runs_unique r t n s (goes_on on some more) (settles _ none is) = absurd (some none)
  runs_unique r t n s (goes_on on _ more) (goes_on _ _ more') = runs_unique r t (n + 1) (round room j s) more more'

  module _ (sane : Sane j) where
    -- Each round but the last writes a slip of seven words at least, so fuel that with the slips written makes up the room is enough.
    pub run_runs : (fuel n : ℕ) (s : State) → Kept room j s → room ≤ fuel + s.slips → Runs room j (run room j fuel n s) n s
    unfolding run
    run_runs zero n s k enough = absurd (omega (arith, slips_room room j s k, k.trailer_fits))
    run_runs (suc fuel) n s k enough = go (round room j s).status refl (run_runs fuel (n + 1) (round room j s) (round_kept room j sane s k))
      where
        next : State
        next = round room j s

        slip_test : (b : Bool) → (b ≡ true → next.slips ≡ s.slips) → (b ≡ false → next.slips ≡ s.slips → ⊥) → next.status ≡ running
            → (room ≤ fuel + next.slips → Runs room j (run room j fuel (n + 1) next) (n + 1) next)
            → Runs room j (elim b [ true ↦ record { verdict = settled; rounds = n + 1; state = next } | false ↦ run room j fuel (n + 1) next ]) n s
        slip_test true p q on rec = settles on (p refl) refl
        slip_test false p q on rec = goes_on on (q refl) (rec (omega (arith, (round_onward room j sane s).more, q refl)))

        go : (x : Status) → next.status ≡ x → (room ≤ fuel + next.slips → Runs room j (run room j fuel (n + 1) next) (n + 1) next)
            → Runs room j (elim x [ ended v ↦ record { verdict = v; rounds = n + 1; state = next } | running ↦ elim (eqb next.slips s.slips) [ true ↦ record { verdict = settled; rounds = n + 1; state = next } | false ↦ run room j fuel (n + 1) next ] ]) n s
        go (ended v) off rec = closes v off refl
        go running on rec = slip_test (eqb next.slips s.slips) (eqb-true next.slips s.slips) (eqb-false next.slips s.slips) on rec

    -- More fuel changes nothing.
    pub run_fuel : (fuel more n : ℕ) (s : State) → Kept room j s → room ≤ fuel + s.slips → run room j (fuel + more) n s ≡ run room j fuel n s
    run_fuel fuel more n s k enough =
        runs_unique (run room j (fuel + more) n s) (run room j fuel n s) n s (run_runs (fuel + more) n s k (omega arith)) (run_runs fuel n s k enough)

-- Stopped by the room, or by a round limit while the call would go on.
abbrev pub Halted : Status → Type 0
Halted running = Unit {0}
Halted (ended settled) = ⊥
Halted (ended conflict) = ⊥
Halted (ended stopped) = Unit {0}
Halted (ended still_open) = ⊥

pub halted_open : (x : Status) (xs : List Explanation) → Halted x → StatusFits x xs → Narrowings xs
halted_open running xs h f = f
halted_open (ended settled) xs h f = absurd h
halted_open (ended conflict) xs h f = absurd h
halted_open (ended stopped) xs h f = f
halted_open (ended still_open) xs h f = absurd h

-- What a verdict says of the state at the end. Settled: a whole round from there changes nothing.
abbrev pub VerdictFits : ℕ → Job → Verdict → State → Type 0
VerdictFits room j settled s = (s.status ≡ running) × (round room j s ≡ s)
VerdictFits room j conflict s = s.status ≡ ended conflict
VerdictFits room j stopped s = Halted s.status
VerdictFits room j still_open s = ⊥

-- How a run ends that was sent a window table, from a state with n rounds begun and m slips written.
pub record Finished (room : ℕ) (j : Job) (n m : ℕ) (r : Run) : Type 0 where
  pub kept : Kept room j r.state
  pub verdict_fits : VerdictFits room j r.verdict r.state
  pub begun : n < r.rounds
  pub counted : r.rounds + m ≤ n + r.state.slips + 1

module _ (room : ℕ) (j : Job) (sane : Sane j) where
  closed_fits : (s : State) (v : Verdict) → Kept room j s → s.status ≡ ended v → VerdictFits room j v s
  closed_fits s settled k off = absurd (rw off at k.status_fits)
  closed_fits s conflict k off = off
  closed_fits s stopped k off = rw off tt
  closed_fits s still_open k off = absurd (rw off at k.status_fits)

  -- What the end of a run says.
  pub runs_finished : (r : Run) (n : ℕ) (s : State) → Kept room j s → Runs room j r n s → Finished room j n s.slips r
  runs_finished r n s k (closes v off is) =
      let next = round_kept room j sane s k in
      let onward = round_onward room j sane s in
      rw is (record { kept = next; verdict_fits = closed_fits (round room j s) v next off; begun = omega arith; counted = omega (arith, onward.more) })
  runs_finished r n s k (settles on none is) =
      let next = round_kept room j sane s k in
      let onward = round_onward room j sane s in
      let still : round room j s ≡ s = onward.unmoved on none in
      rw is (record { kept = next; verdict_fits = (on, ap (round room j) still); begun = omega arith; counted = omega (arith, onward.more) })
  runs_finished r n s k (goes_on on some more) =
      let onward = round_onward room j sane s in
      let f = runs_finished r (n + 1) (round room j s) (round_kept room j sane s k) more in
      record { kept = f.kept; verdict_fits = f.verdict_fits; begun = omega (arith, f.begun); counted = omega (arith, f.counted, onward.more, some) }

  -- The planner's run: the room is fuel enough, the rounds begun are at most one more than the slips, and so on.
  module _ (whole : length j.window_table ≡ 5 * events j) (standing : Standing j (sent j)) (fit : 3 ≤ room) where
    pub plan_runs : Runs room j (run room j room 0 (start j.window_table)) 0 (start j.window_table)
    plan_runs = run_runs room j sane room 0 (start j.window_table) (start_kept room j whole standing fit) (omega arith)

    pub plan_fuel : (more : ℕ) → run room j (room + more) 0 (start j.window_table) ≡ run room j room 0 (start j.window_table)
    plan_fuel more = run_fuel room j sane room more 0 (start j.window_table) (start_kept room j whole standing fit) (omega arith)

    pub plan_finished : Finished room j 0 0 (run room j room 0 (start j.window_table))
    plan_finished = runs_finished (run room j room 0 (start j.window_table)) 0 (start j.window_table) (start_kept room j whole standing fit) plan_runs
