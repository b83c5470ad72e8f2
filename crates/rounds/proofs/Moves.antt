-- Attempts one after the other: what was made of the state, and that the list only grows.
-- Assumes nothing.
use mathlib.Core.Path.{◌≡◌, refl, sym, ap, ◌∙◌}
use mathlib.Core.List.{List, ◌++◌}
use Prim.Native.Nat.{ℕ, ◌+◌, ◌-◌, ◌≤◌}
use native.Mathlib.Omega.{arith}
use lib.IntN.{ℤ}
use Rattle.std.specs.Borrow.{GName}
use Rattle.model.specs.Job.{windows, Job as Call}
use Rattle.model.proofs.Agree.{Agree}
use Rattle.model.specs.Agenda.{Attempt, each_of, event_attempts}
use Rattle.model.specs.Rounds.{State, made}
use Rattle.model.proofs.Sweeps.{made_append, made_more, made_next}
use Rattle.tables.specs.Board.{board, table_of}
use Rattle.tables.proofs.Boarding.{windows_board}
use Rattle.tables.proofs.Holding.{serves_alike}
use Rattle.tables.specs.Job.{Holds}
use Rattle.tables.specs.declared.Job.{Job}
use Rattle.slips.proofs.Wording.{drop_later}
use Rattle.rounds.specs.Held.{Held}
use Rattle.rounds.specs.State.{room, state_of, Grown, Leads, fixed, Of, Moves, Made}
use Rattle.rounds.specs.Sweeps.{between_attempts}
use Rattle.rounds.specs.declared.Log.{Log}
use Rattle.rounds.specs.declared.CageJob.{CageJob}

-- The board and its window table hold the same windows.
pub agree : (n : ℕ) (sent b : List ℤ) → Agree n (windows (table_of n sent b)) (board b)
agree n sent b y l k = windows_board n sent b y k l

-- ---- the list grows

pub grown_none : (l : Log) → Grown l l
grown_none l = record { lent = refl; same = refl; after = refl; longer = omega arith; more = omega arith }

pub grown_more : {l l' l'' : Log} → Grown l l' → Grown l' l'' → Grown l l''
grown_more {l} {l'} {l''} g h =
    record {
      lent = h.lent ∙ g.lent;
      same = h.same ∙ g.same;
      after = h.after ∙ drop_later l'.buffer.now l.buffer.now l'.used l''.used h.longer g.after;
      longer = omega arith;
      more = omega arith;
    }

-- ---- on a board

-- What holds of the board at the end holds of it by another name.
pub held_as : {n n' : ℕ} {b x : List ℤ} → n' ≡ n → x ≡ b → Held n' b → Held n x
held_as e q h = rw (← e, q) h

module _ {n : ℕ} {P : Call → Type 0} where
  -- Nothing is done.
  pub leads_none : {f : Call → State → State} {b : List ℤ} {l : Log} → ((j : Call) → P j → f j (state_of n j.window_table b l) ≡ state_of n j.window_table b l) → Leads n P f b l b l
  leads_none {l = l} h = record { is = λ j q. sym (h j q); kinds = λ y m. refl; grown = grown_none l }

  -- The same in other words.
  pub leads_as : {f g : Call → State → State} {b : List ℤ} {l : Log} {b' : List ℤ} {l' : Log} → ((j : Call) → P j → (s : State) → f j s ≡ g j s) → Leads n P f b l b' l' → Leads n P g b l b' l'
  leads_as {b = b} {l} h d = record { is = λ j q. d.is j q ∙ h j q (state_of n j.window_table b l); kinds = d.kinds; grown = d.grown }

  -- The board at the end by another name.
  pub leads_to : {f : Call → State → State} {b : List ℤ} {l : Log} {b' x : List ℤ} {l' : Log} → x ≡ b' → Leads n P f b l b' l' → Leads n P f b l x l'
  leads_to e d = rw e d

  -- First these attempts, then those: the room is the buffer's length and stays.
  leads_then : {Q : Call → Type 0} (todo more all : Call → List Attempt) {b : List ℤ} {l : Log} {b₁ : List ℤ} {l₁ : Log} {b₂ : List ℤ} {l₂ : Log}
      → ((r : ℕ) (j : Call) (s : State) → made r j (all j) s ≡ made r j (more j) (made r j (todo j) s)) → Leads n P (λ j. made (room l) j (todo j)) b l b₁ l₁
      → ((j : Call) → P j → Q j) → Leads n Q (λ j. made (room l₁) j (more j)) b₁ l₁ b₂ l₂ → Leads n P (λ j. made (room l) j (all j)) b l b₂ l₂
  leads_then todo more all {b} {l} {b₁} {l₁} splits d next e =
      record {
        is = λ j q.
            e.is j (next j q)
            ∙ ap (λ r. made r j (more j) (state_of n j.window_table b₁ l₁)) d.grown.same
            ∙ ap (made (room l) j (more j)) (d.is j q)
            ∙ sym (splits (room l) j (state_of n j.window_table b l));
        kinds = λ y m. e.kinds y m ∙ d.kinds y m;
        grown = grown_more d.grown e.grown;
      }

  module _ {Q : Call → Type 0} {b : List ℤ} {l : Log} {b₁ : List ℤ} {l₁ : Log} {b₂ : List ℤ} {l₂ : Log} where
    pub leads_both : (f g : Call → List Attempt) → Leads n P (λ j. made (room l) j (f j)) b l b₁ l₁ → ((j : Call) → P j → Q j) → Leads n Q (λ j. made (room l₁) j (g j)) b₁ l₁ b₂ l₂ → Leads n P (λ j. made (room l) j (f j ++ g j)) b l b₂ l₂
    leads_both f g d next e = leads_then f g (λ j. f j ++ g j) (λ r j s. made_append r j (f j) (g j) s) d next e

    -- In a loop: those so far, then those of i.
    pub leads_on : (f : ℕ → Call → List Attempt) (i : ℕ) → Leads n P (λ j. made (room l) j (each_of (λ i. f i j) 0 i)) b l b₁ l₁ → ((j : Call) → P j → Q j) → Leads n Q (λ j. made (room l₁) j (f i j)) b₁ l₁ b₂ l₂ → Leads n P (λ j. made (room l) j (each_of (λ i. f i j) 0 (i + 1))) b l b₂ l₂
    leads_on f i d next e = leads_then (λ j. each_of (λ i. f i j) 0 i) (f i) (λ j. each_of (λ i. f i j) 0 (i + 1)) (λ r j s. made_more r j (λ i. f i j) i s) d next e

    -- In one that begins later.
    pub leads_next : (f : ℕ → Call → List Attempt) (from i : ℕ) → from ≤ i → Leads n P (λ j. made (room l) j (each_of (λ i. f i j) from (i - from))) b l b₁ l₁ → ((j : Call) → P j → Q j) → Leads n Q (λ j. made (room l₁) j (f i j)) b₁ l₁ b₂ l₂ → Leads n P (λ j. made (room l) j (each_of (λ i. f i j) from ((i + 1) - from))) b l b₂ l₂
    leads_next f from i o d next e = leads_then (λ j. each_of (λ i. f i j) from (i - from)) (f i) (λ j. each_of (λ i. f i j) from ((i + 1) - from)) (λ r j s. made_next r j (λ i. f i j) from i s o) d next e

-- No attempt.
pub leads_nothing : {n : ℕ} {P : Call → Type 0} (f : ℕ → Call → List Attempt) (b : List ℤ) (l : Log) → Leads n P (λ j. made (room l) j (each_of (λ i. f i j) 0 0)) b l b l
unfolding each_of made
leads_nothing f b l = leads_none (λ j q. refl)

-- ---- in the job at hand

module _ {x y : GName × List ℤ × Job} (e : x ≡ y) where
  pub lent_is : x.0 ≡ y.0
  lent_is = ap (λ (x : GName × List ℤ × Job). x.0) e

  pub job_is : x.2 ≡ y.2
  job_is = ap (λ (x : GName × List ℤ × Job). x.2) e

  pub lags_are : x.1 ≡ y.1
  lags_are = ap (λ (x : GName × List ℤ × Job). x.1) e

-- Attempts that do nothing on the board do nothing in the job.
pub made_rest : (todo : Call → List Attempt) {k k' : CageJob} {l : Log} → fixed k' ≡ fixed k → k'.board.now.words ≡ k.board.now.words → Leads k.job.events (Of k) (λ j. made (room l) j (todo j)) k.board.now.words l k.board.now.words l → Made todo k l k' l
made_rest todo e q d = record { leads = rw q d; stays = e }

-- From the same job on the same board the same is done, and to it.
pub moves_from : {f : Call → State → State} {k k₁ k' : CageJob} {l l' : Log} → fixed k₁ ≡ fixed k → k₁.board.now.words ≡ k.board.now.words → Moves f k₁ l k' l' → Moves f k l k' l'
moves_from e q m = record { leads = rw (job_is e, lags_are e, q) at m.leads; stays = m.stays ∙ e }

pub moves_to : {f : Call → State → State} {k k' k₁ : CageJob} {l l' : Log} → fixed k₁ ≡ fixed k' → k₁.board.now.words ≡ k'.board.now.words → Moves f k l k' l' → Moves f k l k₁ l'
moves_to e q m = record { leads = rw q m.leads; stays = e ∙ m.stays }

pub made_none : (f : ℕ → Call → List Attempt) (k : CageJob) (l : Log) → Made (λ j. each_of (λ i. f i j) 0 0) k l k l
made_none f k l = record { leads = leads_nothing f k.board.now.words l; stays = refl }

pub between_none : (from : ℕ) (k : CageJob) (l : Log) → Made (between_attempts from from) k l k l
unfolding each_of made
between_none from k l =
    let none : from - from ≡ 0 = omega arith in
    record { leads = leads_none (λ j q. rw none); stays = refl }

module _ {k : CageJob} {l : Log} {k₁ : CageJob} {l₁ : Log} {k₂ : CageJob} {l₂ : Log} where
  -- These, then those.
  pub made_both : (f g : Call → List Attempt) → Made f k l k₁ l₁ → Made g k₁ l₁ k₂ l₂ → Made (λ j. f j ++ g j) k l k₂ l₂
  made_both f g m o =
      record {
        leads = leads_both f g m.leads (λ j q. serves_alike q m.leads.kinds) (rw (job_is m.stays, lags_are m.stays) at o.leads);
        stays = o.stays ∙ m.stays;
      }

  -- In a loop: those so far, then those of i.
  pub made_on : (f : ℕ → Call → List Attempt) (i : ℕ) → Made (λ j. each_of (λ i. f i j) 0 i) k l k₁ l₁ → Made (f i) k₁ l₁ k₂ l₂ → Made (λ j. each_of (λ i. f i j) 0 (i + 1)) k l k₂ l₂
  made_on f i m o =
      record {
        leads = leads_on f i m.leads (λ j q. serves_alike q m.leads.kinds) (rw (job_is m.stays, lags_are m.stays) at o.leads);
        stays = o.stays ∙ m.stays;
      }

  -- In one that begins later.
  pub made_between : (from e : ℕ) → from ≤ e → Made (between_attempts from e) k l k₁ l₁ → Made (λ j. event_attempts j e) k₁ l₁ k₂ l₂ → Made (between_attempts from (e + 1)) k l k₂ l₂
  made_between from e i m o =
      record {
        leads = leads_next (λ e j. event_attempts j e) from e i m.leads (λ j q. serves_alike q m.leads.kinds) (rw (job_is m.stays, lags_are m.stays) at o.leads);
        stays = o.stays ∙ m.stays;
      }

-- The same list in other words.
pub made_as : (f g : Call → List Attempt) {k : CageJob} {l : Log} {k' : CageJob} {l' : Log} → ((j : Call) → Holds k.job k.lags.now j → f j ≡ g j) → Made f k l k' l' → Made g k l k' l'
made_as f g {l = l} e m =
    record { leads = leads_as (λ j q s. ap (λ xs. made (room l) j xs s) (e j q.holds)) m.leads; stays = m.stays }
