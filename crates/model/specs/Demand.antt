-- Demand 3 in one piece, to be read without any proof: what the reader's acceptance means, whoever wrote the list, and that the reader accepts what the planner writes.
-- Read the rest of specs/ first. The proof is in proofs/DemandProof.
use Rattle.std.specs.Prelude.{◌≡◌, List, [], ◌∷◌, ◌++◌, ℕ, zero, suc, ◌+◌, ◌≤◌, T, ℤ, pos, negsuc, nat_abs, length, take, ◌≤ℤ◌}
use Rattle.model.specs.Job.{windows, widest, Job, Schedule, value, Inside, Legal, events, sent}
use Rattle.model.specs.Slips.{Premise, Explanation, slip_length, log_words, last_begins, trailer, premise_count, slip_at}
use Rattle.model.specs.Agenda.{Each}
use Rattle.model.specs.Rounds.{Verdict, settled, conflict, stopped, still_open}
use Rattle.model.specs.Questions.{pass, plan_questions}
use Rattle.model.specs.Planner.{refused, done, Outcome, plan}
use Rattle.model.specs.Reader.{counted, names, is_conflict, accepted, check}

-- ---- what a plan has

-- A plan has a fact or conclusion of kinds 1 to 4 if the minute or amount that it gives the event meets it; no plan has kind 0, and there are no other kinds.
abbrev pub Has : Schedule → ℕ → ℤ → ℤ → Type 0
Has p y (pos zero) v = ⊥
Has p y (pos (suc zero)) v = v ≤ℤ p.time y
Has p y (pos (suc (suc zero))) v = p.time y ≤ℤ v
Has p y (pos (suc (suc (suc zero)))) v = v ≤ℤ p.height y
Has p y (pos (suc (suc (suc (suc zero))))) v = p.height y ≤ℤ v
Has p y (pos (suc (suc (suc (suc (suc n)))))) v = ⊥
Has p y (negsuc n) v = ⊥

abbrev pub HasPremises : Schedule → Explanation → Type 0
HasPremises p x = Each (λ (f : Premise). Has p (nat_abs f.event) f.kind f.value) x.premises

abbrev pub HasConclusion : Schedule → Explanation → Type 0
HasConclusion p x = Has p (nat_abs x.target) x.kind x.value

-- ---- the slips of a list of words

-- k slips, read one after another from word i on.
unfoldable pub slips_from : List ℤ → ℕ → ℕ → List Explanation
slips_from list zero i = []
slips_from list (suc k) i = slip_at list i ∷ slips_from list k (i + slip_length (premise_count list i))

-- The slips that a list counts: as many as the trailer, its last three words, says in its first word.
abbrev pub slips_of : List ℤ → List Explanation
slips_of list = slips_from list (nat_abs (counted list)) 0

-- Slips as a list of words: the slips in turn, then the trailer: their number, where the last one begins (0 if none), 4207.
abbrev pub listed : List Explanation → List ℤ
listed xs = log_words xs ++ trailer (length xs) (last_begins 0 0 xs)

-- Conflict exactly when the last slip counted has kind 0, else open.
abbrev pub said : List Explanation → Verdict
said [] = still_open
said (x ∷ []) = accepted (is_conflict x)
said (x ∷ (y ∷ xs)) = said (y ∷ xs)

-- The reader's word for the planner's: conflict exactly when the planner says so.
abbrev pub echoed : Verdict → Verdict
echoed settled = still_open
echoed conflict = conflict
echoed stopped = still_open
echoed still_open = still_open

-- ---- the demand

-- The job: every word of a call but the slip buffer.
module _ (j : Job) where
  -- The planner's round limit stands apart from the job.
  abbrev pub planner : ℤ → List ℤ → Outcome
  planner limit buffer = plan j limit buffer

  abbrev pub reader : List ℤ → Outcome
  reader list = check j list

  -- A legal plan of the job: in the windows sent in, with all lags and both limits kept at every moment.
  abbrev pub LegalPlan : Schedule → Type 0
  LegalPlan p = Legal j (sent j) p

  -- A legal plan of the same job with the windows opened: 0..H; 1..9,999, −9,999..−1 or 0 for a delivery, a pull or a neutral event.
  abbrev pub OpenPlan : Schedule → Type 0
  OpenPlan p = Legal j (widest j) p

  -- A list that the reader accepts, saying v.
  pub record Acceptance (list : List ℤ) (v : Verdict) : Type 0 where
    -- It is its slips and their trailer, word for word.
    pub words : list ≡ listed (slips_of list)
    -- Each slip's subject, target and fact events exist, its fact kinds are 1 to 4, its kind is its rule's own or 0 with value 0.
    pub named : Each (λ (x : Explanation). T (names j x)) (slips_of list)
    -- Every legal plan lies inside the windows that the reader leaves.
    pub keeps : (p : Schedule) → LegalPlan p → Inside (events j) (windows (reader list).table) (value p)
    -- If the list has a conflict slip, there is no legal plan.
    pub none : Each (λ (x : Explanation). x.kind ≡ pos 0 → (p : Schedule) → LegalPlan p → ⊥) (slips_of list)
    -- The reader says conflict exactly when the last slip counted is one; and then there is no legal plan.
    pub says : v ≡ said (slips_of list)
    pub clash : v ≡ conflict → (p : Schedule) → LegalPlan p → ⊥
    -- Each slip stands alone: in the same job with opened windows, every legal plan that has its facts has its conclusion (so none has the facts of a conflict slip).
    pub alone : Each (λ (x : Explanation). (p : Schedule) → OpenPlan p → HasPremises p x → HasConclusion p x) (slips_of list)
    -- The list is left as it was.
    pub unchanged : (reader list).buffer ≡ list

  -- What the planner wrote, len words saying v, the reader accepts: it says conflict exactly when the planner did, and leaves every word of the window table as the planner left it.
  pub record Replay (limit : ℤ) (buffer : List ℤ) (v : Verdict) (len : ℕ) : Type 0 where
    pub fits : len ≤ length buffer
    pub reply : (reader (take len (planner limit buffer).buffer)).reply ≡ done (echoed v) 0 0 0
    pub same_table : (reader (take len (planner limit buffer).buffer)).table ≡ (planner limit buffer).table

  -- A refusal changes no lent word.
  pub record Untouched (buffer : List ℤ) (o : Outcome) : Type 0 where
    pub same_table : o.table ≡ j.window_table
    pub same_buffer : o.buffer ≡ buffer

  -- Demand 3, with demand 1's word on refused calls. A reader that accepts everything, or weighs a fact or a rule wrongly, breaks `sound`; one that refuses everything, or loses a narrowing, breaks `complete`; and so does a planner
  -- that narrows too far, writes a wrong fact or half a slip, or says conflict where its list does not. That it does all that the rules give is demand 2: `plan` itself.
  pub record Demand3 : Type 0 where
    -- Whatever words the list holds and whoever wrote them.
    pub sound : (list : List ℤ) (v : Verdict) (slips rounds len : ℕ) → (reader list).reply ≡ done v slips rounds len → Acceptance list v
    -- For every job that the planner takes, whatever round limit and slip room it has and whether it answers settled, conflict or stopped.
    pub complete : (limit : ℤ) (buffer : List ℤ) (v : Verdict) (slips rounds len : ℕ) → (planner limit buffer).reply ≡ done v slips rounds len → Replay limit buffer v len
    -- It takes every job that its questions let pass.
    pub takes : (limit : ℤ) (buffer : List ℤ) → plan_questions j limit (length buffer) ≡ pass → (v : Verdict) × (slips : ℕ) × (rounds : ℕ) × (len : ℕ) × ((planner limit buffer).reply ≡ done v slips rounds len)
    pub reader_refuses : (list : List ℤ) (number place : ℕ) → (reader list).reply ≡ refused number place → Untouched list (reader list)
    pub planner_refuses : (limit : ℤ) (buffer : List ℤ) (number place : ℕ) → (planner limit buffer).reply ≡ refused number place → Untouched buffer (planner limit buffer)
