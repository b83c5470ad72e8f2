-- How the calls of planner and reader go by their questions: a refused call hands both tables back unchanged; every call keeps their lengths; words after a written trailer keep what they held.
-- Assumes nothing.
use mathlib.Core.Path.{◌≡◌, refl, sym, ap, ◌∙◌}
use mathlib.Core.Bool.{Bool, true, false, cond}
use mathlib.Core.List.{List, ◌++◌}
use Prim.Native.Nat.{ℕ, zero, suc, ◌+◌, ◌≤◌}
use native.Mathlib.Omega.{arith}
use lib.IntN.{ℤ, nat_abs}
use lib.ListN.{length, take, drop, set, length-append, length-drop, length-set}
use lib.Seq.{take-append-add, drop-append-add}
use Rattle.model.specs.Job.{slot, Windows, windows, Job}
use Rattle.model.specs.Rules.{own_end}
use Rattle.model.specs.Slips.{Explanation, trailer, rule_of, target_of}
use Rattle.model.specs.Rounds.{Verdict, State, Run}
use Rattle.model.specs.Questions.{Check, pass, refuse, questions, ◌then◌, ask, plan_questions}
use Rattle.model.specs.Planner.{Reply, refused, done, Outcome, written, planned, plan, limited}
use Rattle.model.specs.Reader.{Reading, slip, cut, reading, is_conflict, slip_questions, applied, Read, read_from, marked, ends_right, read_all, accepted, judged, check}
use Rattle.model.specs.Demand.{Untouched}
use Rattle.model.proofs.Questions.{asked, limit_asked}
use Rattle.model.proofs.Rounds.{Finished}
use Rattle.model.proofs.LimitProof.{limited_finished}

-- A refusal is no answer.
pub not_done : {A : Type 0} {o : Reply} {number place slips rounds len : ℕ} {v : Verdict} → o ≡ refused number place → o ≡ done v slips rounds len → A
not_done p q = absurd (let z : ◌≡◌ {A = ℕ} 0 1 = cc in omega arith)

-- ---- what is written

-- The list that is written: the words up to the length in the answer.
pub list_written : (s : State) (buffer : List ℤ) → take (length s.log + 3) (written s buffer) ≡ s.log ++ trailer s.slips s.last
list_written s buffer = take-append-add s.log (trailer s.slips s.last ++ drop (length s.log + 3) buffer) 3

-- The words after it are those that were there.
pub rest_kept : (s : State) (buffer : List ℤ) → drop (length s.log + 3) (written s buffer) ≡ drop (length s.log + 3) buffer
rest_kept s buffer = drop-append-add s.log (trailer s.slips s.last ++ drop (length s.log + 3) buffer) 3

-- The buffer keeps its length.
pub written_length : (s : State) (buffer : List ℤ) → length s.log + 3 ≤ length buffer → length (written s buffer) ≡ length buffer
written_length s buffer fit =
    omega (arith, length-append s.log (trailer s.slips s.last ++ drop (length s.log + 3) buffer), length-drop (length s.log + 3) buffer)

-- ---- what the reader leaves

-- What a call of the reader leaves of the table and the list: the list itself, the table's length, and the table itself where it refuses.
pub record Handed (table list : List ℤ) (o : Outcome) : Type 0 where
  pub same_list : o.buffer ≡ list
  pub same_length : length o.table ≡ length table
  pub untouched : (number place : ℕ) → o.reply ≡ refused number place → o.table ≡ table

pub applied_length : (table : List ℤ) (x : Explanation) → length (applied table x) ≡ length table
applied_length table x = go (is_conflict x)
  where
    go : (c : Bool) → length (cond c table (set table (slot (target_of x) (own_end (rule_of x))) x.value)) ≡ length table
    go true = refl
    go false = length-set table (slot (target_of x) (own_end (rule_of x))) x.value

read_length : (j : Job) (wide : Windows) (list : List ℤ) (stop k i p last : ℕ) (c : Bool) (table : List ℤ) → length (read_from j wide list stop k i p last c table).table ≡ length table
unfolding read_from
read_length j wide list stop zero i p last c table = refl
read_length j wide list stop (suc k) i p last c table = by_reading (λ next d t. read_length j wide list stop k (i + 1) next p d t) (reading list stop p)
  where
    by_questions : (x : Explanation) (next : ℕ) (q : Check) → length (read_from j wide list stop k (i + 1) next p (is_conflict x) (applied table x)).table ≡ length (applied table x)
        → length (elim q as (λ _. Read) [ pass ↦ read_from j wide list stop k (i + 1) next p (is_conflict x) (applied table x) | refuse n _ ↦ record { check = refuse n i; conflicting = c; table = table; after = p; last = last } ]).table ≡ length table
    by_questions x next pass e = e ∙ applied_length table x
    by_questions x next (refuse n m) e = refl

    by_reading : ((next : ℕ) (d : Bool) (t : List ℤ) → length (read_from j wide list stop k (i + 1) next p d t).table ≡ length t) → (r : Reading)
        → length (elim r as (λ _. Read) [ slip x next ↦ elim (slip_questions j wide (windows table) x k) [ pass ↦ read_from j wide list stop k (i + 1) next p (is_conflict x) (applied table x) | refuse n _ ↦ record { check = refuse n i; conflicting = c; table = table; after = p; last = last } ] | cut ↦ record { check = refuse 13 i; conflicting = c; table = table; after = p; last = last } ]).table ≡ length table
    by_reading rec cut = refl
    by_reading rec (slip x next) = by_questions x next (slip_questions j wide (windows table) x k) (rec next (is_conflict x) (applied table x))

read_all_length : (j : Job) (list : List ℤ) → length (read_all j list).table ≡ length j.window_table
unfolding read_all
read_all_length j list = read_length j _ list _ _ 0 0 0 false j.window_table

-- A call of a job.
module _ (j : Job) where
  abbrev asks : ℕ → Check
  asks room = questions j room

  -- The run of a call with a round limit and a slip buffer.
  abbrev pub run_in : ℤ → List ℤ → Run
  run_in limit buffer = limited (nat_abs limit) (length buffer) j

  -- ---- the planner

  module _ (limit : ℤ) (buffer : List ℤ) where
    -- A call goes by its questions.
    pub plan_refused : (number place : ℕ) → plan_questions j limit (length buffer) ≡ refuse number place → plan j limit buffer ≡ record { reply = refused number place; table = j.window_table; buffer = buffer }
    unfolding plan
    plan_refused number place e = rw (e, plan)

    pub plan_planned : plan_questions j limit (length buffer) ≡ pass → plan j limit buffer ≡ planned (run_in limit buffer) buffer
    unfolding plan
    plan_planned e = rw (e, plan)

    -- A call that passed its questions is done.
    pub plan_takes : plan_questions j limit (length buffer) ≡ pass → (v : Verdict) × (slips : ℕ) × (rounds : ℕ) × (len : ℕ) × ((plan j limit buffer).reply ≡ done v slips rounds len)
    plan_takes e =
        let r = run_in limit buffer in
        (r.verdict, r.state.slips, r.rounds, length r.state.log + 3, ap (λ (o : Outcome). o.reply) (plan_planned e))

    -- A call that is done passed its questions.
    pub plan_passed : (v : Verdict) (slips rounds len : ℕ) → (plan j limit buffer).reply ≡ done v slips rounds len → plan_questions j limit (length buffer) ≡ pass
    plan_passed v slips rounds len e = go (plan_questions j limit (length buffer)) refl
      where
        go : (c : Check) → plan_questions j limit (length buffer) ≡ c → plan_questions j limit (length buffer) ≡ pass
        go pass f = f
        go (refuse number place) f = not_done (ap (λ (o : Outcome). o.reply) (plan_refused number place f)) e

    -- A refused call changes no lent word.
    pub planner_refuses : (number place : ℕ) → (plan j limit buffer).reply ≡ refused number place → Untouched j buffer (plan j limit buffer)
    planner_refuses number place e = go (plan_questions j limit (length buffer)) refl
      where
        go : (c : Check) → plan_questions j limit (length buffer) ≡ c → Untouched j buffer (plan j limit buffer)
        go pass f = not_done e (ap (λ (o : Outcome). o.reply) (plan_planned f))
        go (refuse n i) f = rw (plan_refused n i f) (record { same_table = refl; same_buffer = refl })

    -- The run of a call that passed its questions.
    pub run_finished : plan_questions j limit (length buffer) ≡ pass → Finished (length buffer) j 0 0 (run_in limit buffer)
    run_finished e =
        let a = asked j (length buffer) (limit_asked j limit (length buffer) e).0 in
        limited_finished (length buffer) j a.sane a.whole_events a.standing a.room_low (nat_abs limit)

    -- The lent tables keep their lengths.
    pub plan_lengths : (length (plan j limit buffer).table ≡ length j.window_table) × (length (plan j limit buffer).buffer ≡ length buffer)
    plan_lengths = go (plan_questions j limit (length buffer)) refl
      where
        go : (c : Check) → plan_questions j limit (length buffer) ≡ c → (length (plan j limit buffer).table ≡ length j.window_table) × (length (plan j limit buffer).buffer ≡ length buffer)
        go pass f =
            let k = (run_finished f).kept in
            let a = asked j (length buffer) (limit_asked j limit (length buffer) f).0 in
            rw (plan_planned f) (k.whole ∙ sym a.whole_events, written_length (run_in limit buffer).state buffer k.trailer_fits)
        go (refuse n i) f = rw (plan_refused n i f) (refl, refl)

    -- Words after the written trailer keep what they held, and the list fits the room.
    pub plan_rest : (v : Verdict) (slips rounds len : ℕ) → (plan j limit buffer).reply ≡ done v slips rounds len →
        (drop len (plan j limit buffer).buffer ≡ drop len buffer) × (3 ≤ len) × (len ≤ length buffer)
    plan_rest v slips rounds len e =
        let f = plan_passed v slips rounds len e in
        let s = (run_in limit buffer).state in
        let d : (planned (run_in limit buffer) buffer).reply ≡ done v slips rounds len = rw (plan_planned f) at e in
        let l : length s.log + 3 ≡ len = cc in
        rw (plan_planned f, ← l) (rest_kept s buffer, omega arith, (run_finished f).kept.trailer_fits)

  -- ---- the reader

  module _ (list : List ℤ) where
    -- A call goes by its questions.
    pub check_refused : (number place : ℕ) → (asks (length list) then ask 12 (marked list)) ≡ refuse number place → check j list ≡ record { reply = refused number place; table = j.window_table; buffer = list }
    unfolding check
    check_refused number place e = rw (e, check)

    pub check_judged : (asks (length list) then ask 12 (marked list)) ≡ pass → check j list ≡ judged j list (read_all j list)
    unfolding check
    check_judged e = rw (e, check)

    judged_handed : (r : Read) → length r.table ≡ length j.window_table → Handed j.window_table list (judged j list r)
    judged_handed r long = go (r.check then ask 19 (ends_right list r.after r.last))
      where
        go : (c : Check) → Handed j.window_table list (elim c [ refuse n i ↦ record { reply = refused n i; table = j.window_table; buffer = list } | pass ↦ record { reply = done (accepted r.conflicting) 0 0 0; table = r.table; buffer = list } ])
        go (refuse n i) = record { same_list = refl; same_length = refl; untouched = λ _ _ _. refl }
        go pass = record { same_list = refl; same_length = long; untouched = λ n i e. not_done e refl }

    -- The reader leaves its list as it was and keeps the window table's length.
    pub check_handed : Handed j.window_table list (check j list)
    check_handed = go (asks (length list) then ask 12 (marked list)) refl
      where
        go : (c : Check) → (asks (length list) then ask 12 (marked list)) ≡ c → Handed j.window_table list (check j list)
        go pass e = rw (check_judged e) (judged_handed (read_all j list) (read_all_length j list))
        go (refuse n i) e = rw (check_refused n i e) (record { same_list = refl; same_length = refl; untouched = λ _ _ _. refl })

    -- A refused call changes no lent word.
    pub reader_refuses : (number place : ℕ) → (check j list).reply ≡ refused number place → Untouched j list (check j list)
    reader_refuses number place e = record { same_table = check_handed.untouched number place e; same_buffer = check_handed.same_list }
