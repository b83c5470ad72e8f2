-- What the planner writes, the reader accepts: slip by slip, then the whole list with its trailer, with the same windows and the same verdict, whatever the room.
-- Assumes nothing.
use mathlib.Core.Path.{◌≡◌, refl, sym, ap, ap₂, ◌∙◌}
use mathlib.Core.Bool.{Bool, true, false}
use mathlib.Core.List.{List, [], ◌∷◌, ◌++◌, append_assoc}
use Prim.Native.Nat.{ℕ, suc, ◌+◌, ◌*◌, ◌≤◌}
use native.Mathlib.Omega.{arith}
use lib.Dec.{T, eqb, le→leb, eqb_refl}
use lib.IntN.{ℤ, pos, nat_abs}
use lib.ListN.{length, take, length-append}
use lib.Seq.{get_or_at, get_or-append-add}
use Rattle.integers.proofs.Tests.{is_true, and_in}
use Rattle.model.specs.Job.{Windows, windows, widest, Job, events, sent}
use Rattle.model.specs.Standing.{Sane, Standing}
use Rattle.model.specs.Rules.{rule, own_end, finding, Effect, idle, narrows, fails, effect}
use Rattle.model.specs.Slips.{Explanation, slip_words, explanation, trailer, at, log_words, last_begins}
use Rattle.model.specs.Rounds.{Verdict, settled, conflict, stopped, still_open, State, Run}
use Rattle.model.specs.Questions.{pass, questions}
use Rattle.model.specs.Planner.{done, Outcome, planned, plan}
use Rattle.model.specs.Reader.{slip, reading, names, all_true, narrowed, gives, is_conflict, fits_there, slip_questions, applied, Read, read_from, stop_of, counted, marked, ends_right, read_all, accepted, judged, check}
use Rattle.model.specs.Demand.{listed, echoed, Replay}
use Rattle.model.proofs.Questions.{then_in, ask_in, asked, asked_again, limit_asked}
use Rattle.model.proofs.Words.{AllFormed, reading_back}
use Rattle.model.proofs.Suffice.{slip_passes}
use Rattle.model.proofs.Table.{narrows_bound, bound_narrows}
use Rattle.model.proofs.Written.{Wrote, narrows_kind, replayed, Written, ConflictLast, conflicting_after, narrowings_open, wrote_standing}
use Rattle.model.proofs.Rounds.{Kept, VerdictFits, Finished, halted_open}
use Rattle.model.proofs.Refusals.{list_written, run_in, plan_planned, plan_passed, run_finished, plan_rest, check_judged}

-- ---- a list and its trailer

module _ (log : List ℤ) (a b : ℕ) where
  -- Where the trailer begins, and its three words.
  trailer_at : stop_of (log ++ trailer a b) ≡ length log
  trailer_at = omega (arith, length-append log (trailer a b))

  count_at : counted (log ++ trailer a b) ≡ pos a
  count_at = rw trailer_at (get_or_at log (pos a) _ (pos 0) (length log) refl)

  last_at : at (log ++ trailer a b) (stop_of (log ++ trailer a b) + 1) ≡ pos b
  last_at = rw trailer_at (get_or-append-add log (trailer a b) 1 (pos 0))

  mark_at : at (log ++ trailer a b) (stop_of (log ++ trailer a b) + 2) ≡ pos 4207
  mark_at = rw trailer_at (get_or-append-add log (trailer a b) 2 (pos 0))

  -- It passes question 12.
  pub trailer_marked : T (marked (log ++ trailer a b))
  trailer_marked = rw (mark_at, count_at) (le→leb 0 a (omega arith))

  -- It passes question 19, where reading ended at it.
  pub trailer_ends : T (ends_right (log ++ trailer a b) (length log) b)
  trailer_ends = rw (last_at, trailer_at) (and_in (eqb (length log) (length log)) (eqb b b) (eqb_refl (length log)) (eqb_refl b))

-- Reading that refused nothing, by its end.
ends_at : (c : Bool) (table : List ℤ) (last a b : ℕ) → a ≡ b
    → ◌≡◌ {A = Read} (record { check = pass; conflicting = c; table = table; after = a; last = last }) (record { check = pass; conflicting = c; table = table; after = b; last = last })
ends_at c table last a b e = ap (λ (n : ℕ). record { check = pass; conflicting = c; table = table; after = n; last = last }) e

module _ (j : Job) (sane : Sane j) where
  -- ---- one slip

  -- 17 and 18: a narrowing's bound narrows, and a conflict is the last.
  fits_here : (W : Windows) (r e y left : ℕ) (o : Effect) → o ≡ effect (own_end (rule r)) W y (finding (rule r) j W e y) → (o ≡ idle → ⊥) → (is_conflict (explanation r j W e y o) ≡ true → left ≡ 0)
      → fits_there W (explanation r j W e y o) left ≡ pass
  fits_here W r e y left idle is busy last = absurd (busy refl)
  fits_here W r e y left (narrows v) is busy last =
      let n = (narrows_bound (own_end (rule r)) W y (finding (rule r) j W e y) v (sym is)).1 in
      rw (narrows_kind j W r e y v, bound_narrows (own_end (rule r)) W y v n)
  fits_here W r e y left fails is busy last = rw (last refl)

  all_asked : (W : Windows) (x : Explanation) (left : ℕ) → T (names j x) × T (all_true W x.premises) × T (gives j (narrowed (widest j) x.premises) x) → fits_there W x left ≡ pass
      → slip_questions j (widest j) W x left ≡ pass
  unfolding slip_questions
  all_asked W x left t f =
      then_in _ _ (ask_in 14 (names j x) t.0)
      (then_in _ _ (ask_in 15 (all_true W x.premises) t.1)
      (then_in _ _ (ask_in 16 (gives j (narrowed (widest j) x.premises) x) t.2) f))

  -- A slip of the planner passes, whatever is left to read, unless it is a conflict and not the last.
  pub wrote_passes : (table : List ℤ) (x : Explanation) (left : ℕ) → Standing j (windows table) → Wrote j table x → (is_conflict x ≡ true → left ≡ 0)
      → slip_questions j (widest j) (windows table) x left ≡ pass
  wrote_passes table x left std w last =
      let W = windows table in
      rw w.slip_is
      (all_asked W (explanation w.r j W w.e w.y w.outcome) left
      (slip_passes j W w.r w.e w.y sane std w.valid w.outcome w.outcome_is w.busy)
      (fits_here W w.r w.e w.y left w.outcome w.outcome_is w.busy (rw w.slip_is at last)))

  -- ---- all slips

  -- Reading from word p of a list, with the widest windows of the ones sent.
  abbrev reads : List ℤ → ℕ → ℕ → ℕ → ℕ → ℕ → Bool → List ℤ → Read
  reads list stop k i p last c table = read_from j (widest j) list stop k i p last c table

  none_read : (list : List ℤ) (stop i p last : ℕ) (c : Bool) (table : List ℤ) → reads list stop 0 i p last c table ≡ record { check = pass; conflicting = c; table = table; after = p; last = last }
  unfolding read_from
  none_read list stop i p last c table = refl

  one_read : (list : List ℤ) (stop k i p next last : ℕ) (c : Bool) (table : List ℤ) (x : Explanation) → reading list stop p ≡ slip x next → slip_questions j (widest j) (windows table) x k ≡ pass
      → reads list stop (suc k) i p last c table ≡ reads list stop k (i + 1) next p (is_conflict x) (applied table x)
  unfolding read_from
  one_read list stop k i p next last c table x e f = rw (e, f, read_from)

  -- Reading the planner's slips from the table that they were written on gives the table after them.
  pub slips_read : (xs : List Explanation) (pre rest : List ℤ) (stop i p last : ℕ) (c : Bool) (table : List ℤ) → length pre ≡ p → p + length (log_words xs) ≤ stop →
      length table ≡ 5 * events j → Standing j (windows table) → Written j table xs → AllFormed xs → ConflictLast xs →
      read_from j (widest j) (pre ++ (log_words xs ++ rest)) stop (length xs) i p last c table
      ≡ record { check = pass; conflicting = conflicting_after c xs; table = replayed table xs; after = p + length (log_words xs); last = last_begins p last xs }
  unfolding log_words last_begins conflicting_after replayed
  slips_read [] pre rest stop i p last c table here fit long std w fs cs =
      none_read (pre ++ rest) stop i p last c table ∙ ends_at c table last p (p + 0) (omega arith)
  slips_read (x ∷ xs) pre rest stop i p last c table here fit long std w fs cs =
      let size = length-append (slip_words x) (log_words xs) in
      let after = wrote_standing j table x long std w.0 in
      let q = wrote_passes table x (length xs) std w.0 cs.0 in
      let e = reading_back x pre (log_words xs ++ rest) p here stop fs.0 (omega arith) in
      let next = p + length (slip_words x) in
      let one = one_read (pre ++ (slip_words x ++ (log_words xs ++ rest))) stop (length xs) i p next last c table x e q in
      let more = slips_read xs (pre ++ slip_words x) rest stop (i + 1) next p (is_conflict x) (applied table x) (omega (arith, length-append pre (slip_words x))) (omega arith) after.0 after.1 w.1 fs.1 cs.1 in
      ap (λ (l : List ℤ). reads (pre ++ l) stop (suc (length xs)) i p last c table) (append_assoc (slip_words x) (log_words xs) rest)
      ∙ one
      ∙ ap (λ (l : List ℤ). reads l stop (length xs) (i + 1) next p (is_conflict x) (applied table x)) (sym (append_assoc pre (slip_words x) (log_words xs ++ rest)))
      ∙ more
      ∙ ends_at (conflicting_after (is_conflict x) xs) (replayed (applied table x) xs) (last_begins next p xs) (next + length (log_words xs)) (p + length (slip_words x ++ log_words xs)) (omega arith)

module _ (j : Job) (sane : Sane j) (whole : length j.window_table ≡ 5 * events j) (standing : Standing j (sent j)) (xs : List Explanation)
    (written : Written j j.window_table xs) (formed : AllFormed xs) (last_one : ConflictLast xs) where
  list_read : read_all j (listed xs) ≡ record { check = pass; conflicting = conflicting_after false xs; table = replayed j.window_table xs; after = length (log_words xs); last = last_begins 0 0 xs }
  unfolding read_all
  list_read =
      let log = log_words xs in
      let words = listed xs in
      ap₂ (λ (stop count : ℕ). read_from j (widest j) words stop count 0 0 0 false j.window_table)
      (trailer_at log (length xs) (last_begins 0 0 xs)) (ap nat_abs (count_at log (length xs) (last_begins 0 0 xs)))
      ∙ slips_read j sane xs [] (trailer (length xs) (last_begins 0 0 xs)) (length log) 0 0 0 false j.window_table refl (omega arith) whole standing written formed last_one
      ∙ ends_at (conflicting_after false xs) (replayed j.window_table xs) (last_begins 0 0 xs) (0 + length log) (length log) (omega arith)

  -- The reader's judgement of a list of the planner's slips.
  pub list_judged : judged j (listed xs) (read_all j (listed xs)) ≡ record { reply = done (accepted (conflicting_after false xs)) 0 0 0; table = replayed j.window_table xs; buffer = listed xs }
  list_judged =
      ap (judged j (listed xs)) list_read
      ∙ rw (is_true (ends_right (listed xs) (length (log_words xs)) (last_begins 0 0 xs)) (trailer_ends (log_words xs) (length xs) (last_begins 0 0 xs)), judged)

-- What the reader says of the slips that a run wrote is what the planner said.
verdict_read : (room : ℕ) (j : Job) (v : Verdict) (s : State) (k : Kept room j s) → VerdictFits room j v s → accepted (conflicting_after false k.slips_written) ≡ echoed v
verdict_read room j settled s k f = ap accepted (narrowings_open k.slips_written (rw f.0 at k.status_fits))
verdict_read room j conflict s k f = ap accepted (is_true (conflicting_after false k.slips_written) (rw f at k.status_fits))
verdict_read room j stopped s k f = ap accepted (narrowings_open k.slips_written (halted_open s.status k.slips_written f k.status_fits))
verdict_read room j still_open s k f = absurd f

-- The list of a state: its log with the trailer.
abbrev pub list_of : State → List ℤ
list_of s = s.log ++ trailer s.slips s.last

kept_listed : (room : ℕ) (j : Job) (s : State) (k : Kept room j s) → list_of s ≡ listed k.slips_written
kept_listed room j s k = rw (k.log_is, k.count_is, k.last_is)

outcome_path : {v w : Verdict} {t u l m : List ℤ} → v ≡ w → t ≡ u → l ≡ m → ◌≡◌ {A = Outcome} (record { reply = done v 0 0 0; table = t; buffer = l }) (record { reply = done w 0 0 0; table = u; buffer = m })
outcome_path a b c = λ i. record { reply = done (a i) 0 0 0; table = b i; buffer = c i }

-- ---- the planner's list before the reader

module _ (j : Job) where
  -- The reader's outcome of the list of a run that has ended.
  pub finished_replays : (room n m : ℕ) (r : Run) → questions j room ≡ pass → Finished room j n m r
      → check j (list_of r.state) ≡ record { reply = done (echoed r.verdict) 0 0 0; table = r.state.table; buffer = list_of r.state }
  finished_replays room n m r e f =
      let a = asked j room e in
      let s = r.state in
      let k = f.kept in
      let is = kept_listed room j s k in
      let size = length-append s.log (trailer s.slips s.last) in
      let again = asked_again j room (length (list_of s)) e (omega arith) (omega (arith, k.trailer_fits, a.room_high)) in
      let marks = then_in _ _ again (ask_in 12 (marked (list_of s)) (trailer_marked s.log s.slips s.last)) in
      let judge = list_judged j a.sane a.whole_events a.standing k.slips_written k.written k.formed k.conflict_last in
      check_judged j (list_of s) marks
      ∙ ap (λ (l : List ℤ). judged j l (read_all j l)) is
      ∙ judge
      ∙ outcome_path (verdict_read room j r.verdict s k f.verdict_fits) (sym k.table_is) (sym is)

  module _ (limit : ℤ) (buffer : List ℤ) (v : Verdict) (slips rounds len : ℕ) (answer : (plan j limit buffer).reply ≡ done v slips rounds len) where
    -- What the planner wrote, the reader accepts, with the same windows, and says conflict exactly when the planner did.
    pub replay : check j (take len (plan j limit buffer).buffer)
        ≡ record { reply = done (echoed v) 0 0 0; table = (plan j limit buffer).table; buffer = take len (plan j limit buffer).buffer }
    replay =
        let e = plan_passed j limit buffer v slips rounds len answer in
        let r = run_in j limit buffer in
        let p = plan_planned j limit buffer e in
        let d : (planned r buffer).reply ≡ done v slips rounds len = rw p at answer in
        let l : length r.state.log + 3 ≡ len = cc in
        let w : r.verdict ≡ v = cc in
        let f = finished_replays (length buffer) 0 0 r (limit_asked j limit (length buffer) e).0 (run_finished j limit buffer e) in
        rw (p, ← l, ← w, list_written r.state buffer) f

    -- The same as demand 3 states it.
    pub complete : Replay j limit buffer v len
    complete =
        record {
          fits = (plan_rest j limit buffer v slips rounds len answer).2;
          reply = ap (λ (o : Outcome). o.reply) replay;
          same_table = ap (λ (o : Outcome). o.table) replay;
        }
