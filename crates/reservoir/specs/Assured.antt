-- What planner and reader together assure of a call, in the customer's terms.
use Rattle.std.specs.Prelude.{◌≡◌, List, ℕ, ◌≤◌, ℤ, length, take, Result, Ok, Err}
use Rattle.model.specs.Job.{windows, Schedule, value, Inside, Job, events}
use Rattle.model.specs.Rounds.{conflict, Verdict}
use Rattle.model.specs.Planner.{refused, done, plan}
use Rattle.model.specs.Reader.{check}
use Rattle.model.specs.Demand.{echoed, LegalPlan, Acceptance}
use Rattle.questions.specs.declared.Refusal.{Refusal}
use Rattle.propagator.specs.Plans.{reply_of as answer_of}
use Rattle.propagator.specs.declared.Answer.{Answer}
use Rattle.checker.specs.Judgement.{reply_of as judgement_of}
use Rattle.checker.specs.declared.Judgement.{Judgement}
use Rattle.reservoir.specs.declared.Checked.{Checked}

-- The planner's reply, and the reader's to the list; a refusal is both.
abbrev pub planned : Result Checked Refusal → Result Answer Refusal
planned (Ok c) = Ok c.answer
planned (Err r) = Err r

abbrev pub judged : Result Checked Refusal → Result Judgement Refusal
judged (Ok c) = Ok c.judgement
judged (Err r) = Err r

-- The first words of a copy are the table's, where it has room for them.
pub record Copied (table copy : List ℤ) : Type 0 where
  pub whole : length copy ≡ 320
  pub first : length table ≤ 320 → take (length table) copy ≡ table

-- A call of the planner that was taken, with v for its verdict and len words written.
pub record Taken (j : Job) (table' buffer' : List ℤ) (v : Verdict) (len : ℕ) (r : Result Checked Refusal) : Type 0 where
  -- The reader accepts the list as written, from the windows as first sent in, and says conflict exactly when the planner did.
  pub read : judgement_of (judged r) ≡ done (echoed v) 0 0 0
  -- It leaves every word of the window table as the planner left it.
  pub left : (check j (take len buffer')).table ≡ table'
  -- What acceptance means, of every plan and every slip: `Acceptance` of Demand.
  pub means : Acceptance j (take len buffer') (echoed v)
  -- Every legal plan of the windows sent in lies inside the windows left; after a conflict there is none.
  pub keeps : (p : Schedule) → LegalPlan j p → Inside (events j) (windows table') (value p)
  pub none : v ≡ conflict → (p : Schedule) → LegalPlan j p → ⊥

-- Demands 1 to 3 of one call: its job, its round limit, the buffer at entry, then table and buffer at exit.
pub record Assured (j : Job) (limit : ℤ) (buffer table' buffer' : List ℤ) (r : Result Checked Refusal) : Type 0 where
  -- Answer, windows and slips are those of document 01.
  pub answer : answer_of (planned r) ≡ (plan j limit buffer).reply
  pub windows_left : table' ≡ (plan j limit buffer).table
  pub slips_left : buffer' ≡ (plan j limit buffer).buffer
  -- A refused call changes no lent word.
  pub untouched : (number place : ℕ) → answer_of (planned r) ≡ refused number place → (table' ≡ j.window_table) × (buffer' ≡ buffer) × (judgement_of (judged r) ≡ refused number place)
  pub taken : (v : Verdict) (slips rounds len : ℕ) → answer_of (planned r) ≡ done v slips rounds len → Taken j table' buffer' v len r
