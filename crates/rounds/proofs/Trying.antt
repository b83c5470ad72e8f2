-- One attempt: its effect on the board is that on the window table, and a slip written with the new end stored is what the definitions record.
-- Assumes nothing.
use mathlib.Core.Path.{◌≡◌, refl, sym, ap, ◌∙◌}
use mathlib.Core.Bool.{Bool, true, false, not, cond}
use mathlib.Core.List.{List, [], ◌∷◌}
use Prim.Native.Nat.{ℕ, zero, suc, ◌+◌, ◌*◌, ◌≤◌, ◌<◌}
use native.Mathlib.Decide.{ℕ_discrete}
use native.Mathlib.Omega.{arith}
use borrow.Author.Tests.{lt-leb, not-true, not-false}
use lib.IntN.{ℤ}
use lib.ListN.{length, take, drop, set, length-set}
use lib.Seq.{length-take-le}
use Rattle.integers.specs.Range.{Within}
use Rattle.integers.proofs.Linear.{ints}
use Rattle.model.specs.Job.{End, t_min, t_max, h_min, h_max, word, windows, Windows, produces, events, Job as Call}
use Rattle.model.specs.Standing.{span, Ranged}
use Rattle.model.specs.Rules.{Rule, Family, level, time, height, lag_upper, lag_lower, reservoir, total, rule, subjects, own_end, finding, Effect, idle, narrows, fails, effect}
use Rattle.model.specs.Slips.{Explanation, slip_words, explanation}
use Rattle.model.specs.Agenda.{try}
use Rattle.model.specs.Rounds as model
use Rattle.model.specs.Rounds.{State, running, ended, recorded, fits, acted, attempt, made}
use Rattle.model.proofs.Agree.{Agree, agree_sym, outcome_agree, explanation_agree}
use Rattle.model.proofs.Words.{slip_words_length, premise_list_length}
use Rattle.tables.specs.Board.{Whole, board, table_of}
use Rattle.tables.specs.Job.{Holds, Fit}
use Rattle.tables.specs.declared.Job.{Job}
use Rattle.tables.proofs.Boarding.{table_set, board_set_same, board_set_event, board_set_end}
use Rattle.tables.proofs.Holding.{lags_of}
use Rattle.rules.specs.Values.{effect_of, is_idle, subjects_of, Narrower}
use Rattle.rules.specs.Numbers.{place_of, number_of}
use Rattle.rules.specs.declared.Effect.{Effect as Done}
use Rattle.rules.proofs.Numbering.{rule_number}
use Rattle.facts.specs.Quotes.{cites_of, says_of, Cites}
use Rattle.facts.specs.declared.Citing.{Citing}
use Rattle.slips.specs.Words.{Appended}
use Rattle.slips.specs.Slip.{slip_of, Writes}
use Rattle.slips.specs.declared.Header.{Header}
use Rattle.slips.specs.declared.writing.Quoting.{Quoting}
use Rattle.slips.specs.Telling.{written_by, Writable}
use Rattle.slips.proofs.Filling.{same_premises}
use Rattle.slips.proofs.Wording.{own_kind}
use Rattle.rounds.specs.Held.{Held}
use Rattle.rounds.specs.State.{status_of, still, room, state_at, state_of, Leads, fixed, Of, Moves, Made}
use Rattle.rounds.specs.Attempts.{stored, table_after, status_after, written, Entered, Tried, Found}
use Rattle.rounds.specs.declared.Status.TheVariants.{Stopped}
use Rattle.rounds.specs.declared.Log.{Log}
use Rattle.rounds.specs.declared.CageJob.{CageJob}
use Rattle.rounds.proofs.Moves.{agree, leads_none, made_rest, moves_from}

-- ---- the number of a rule, and its subject

-- The numbers of the rules end at 18.
pub few_rules : (q : Rule) → number_of q ≤ 18
few_rules lag_upper = omega arith
few_rules lag_lower = omega arith
few_rules (reservoir m b f) = go m b f
  where
    place : (f : Family) → place_of f ≤ 2
    place level = omega arith
    place time = omega arith
    place height = omega arith

    go : (m b : Bool) (f : Family) → number_of (reservoir m b f) ≤ 18
    go false false f = omega (arith, place f)
    go false true f = omega (arith, place f)
    go true false f = omega (arith, place f)
    go true true f = omega (arith, place f)
few_rules (total false) = omega arith
few_rules (total true) = omega arith

-- A subject that a rule has in the job at hand it has in its calls.
subject_there : {k : Job} {ws : List ℤ} {j : Call} {e : ℕ} → Holds k ws j → (r : Rule) → e < subjects_of r k ws → e < subjects r j
subject_there h lag_upper l = rw h.lags_are l
subject_there h lag_lower l = rw h.lags_are l
subject_there h (reservoir m b f) l = rw h.events_are l
subject_there h (total m) l = absurd (omega arith)

-- There are few.
few_subjects : {k : Job} {ws : List ℤ} → Fit k ws → (r : Rule) → subjects_of r k ws ≤ 256
few_subjects f lag_upper = f.few_lags
few_subjects f lag_lower = f.few_lags
few_subjects f (reservoir m b g) = omega (arith, f.few_events)
few_subjects f (total m) = omega arith

-- ---- the attempt by its parts

abbrev tried : model.Status → State → State → State
tried x next s = elim x [ running ↦ next | ended v ↦ s ]

attempt_tried : (room r : ℕ) (j : Call) (e y : ℕ) (s : State) → made room j (try r e y ∷ []) s ≡ tried s.status (acted room r j e y (effect (own_end (rule r)) (windows s.table) y (finding (rule r) j (windows s.table) e y)) s) s
unfolding made attempt
attempt_tried room r j e y s = refl

pub still_running : (x : model.Status) → still x ≡ true → x ≡ running
still_running running e = refl
still_running (ended v) e = cc

tried_off : (x : model.Status) (next s : State) → still x ≡ false → tried x next s ≡ s
tried_off running next s e = cc
tried_off (ended v) next s e = refl

-- None once the call has ended.
attempt_ends : (room r : ℕ) (j : Call) (e y : ℕ) (s : State) → still s.status ≡ false → made room j (try r e y ∷ []) s ≡ s
attempt_ends room r j e y s h = attempt_tried room r j e y s ∙ tried_off s.status _ s h

-- While it goes on, what its effect asks.
attempt_does : (room r : ℕ) (j : Call) (e y : ℕ) (s : State) {x : Effect} → still s.status ≡ true → effect (own_end (rule r)) (windows s.table) y (finding (rule r) j (windows s.table) e y) ≡ x → made room j (try r e y ∷ []) s ≡ acted room r j e y x s
attempt_does room r j e y s h q = attempt_tried room r j e y s ∙ rw (still_running s.status h, q)

acted_idle : (room r : ℕ) (j : Call) (e y : ℕ) (x : Effect) (s : State) → is_idle x ≡ true → acted room r j e y x s ≡ s
unfolding acted
acted_idle room r j e y idle s h = refl
acted_idle room r j e y (narrows v) s h = cc
acted_idle room r j e y fails s h = cc

acted_slip : (room r : ℕ) (j : Call) (e y : ℕ) (x : Effect) (s : State) → is_idle x ≡ false
    → acted room r j e y x s ≡ recorded room s (explanation r j (windows s.table) e y x) (table_after (own_end (rule r)) y x s.table) (status_after x)
unfolding acted
acted_slip room r j e y idle s h = cc
acted_slip room r j e y (narrows v) s h = refl
acted_slip room r j e y fails s h = refl

-- ---- the new end stored

-- What an effect stores on the board it stores in the table.
table_stored : (n : ℕ) (sent b : List ℤ) (y : ℕ) (k : End) (x : Effect) → Whole b → y < n → n ≤ 64 → table_of n sent (stored k y x b) ≡ table_after k y x (table_of n sent b)
table_stored n sent b y k idle w l m = refl
table_stored n sent b y k (narrows v) w l m = table_set n sent b w y k v l m
table_stored n sent b y k fails w l m = refl

stored_whole : (k : End) (y : ℕ) (x : Effect) (b : List ℤ) → Whole b → Whole (stored k y x b)
stored_whole k y idle b w = w
stored_whole k y (narrows v) b w = length-set b (64 * word k + y) v ∙ w
stored_whole k y fails b w = w

-- An end's range goes by its word.
wide : ℕ → ℕ
wide zero = 20000
wide (suc zero) = 20000
wide (suc (suc n)) = 9999

span_wide : (k : End) → span k ≡ wide (word k)
unfolding wide
span_wide t_min = refl
span_wide t_max = refl
span_wide h_min = refl
span_wide h_max = refl

ranged_set : {n : ℕ} (b : List ℤ) (y : ℕ) (k : End) (v : ℤ) → Whole b → Ranged n (board b) → y < n → Within v (span k) → Ranged n (board (set b (64 * word k + y) v))
ranged_set {n} b y k v w r m f = record { few = r.few; range = λ z h l. go z h l (ℕ_discrete y z) (ℕ_discrete (word k) (word l)) }
  where
    go : (z : ℕ) → z < n → (l : End) → Dec (y ≡ z) → Dec (word k ≡ word l) → Within (board (set b (64 * word k + y) v) z l) (span l)
    go z h l (yes e) (yes i) =
        let s : span l ≡ span k = span_wide l ∙ ap wide (sym i) ∙ sym (span_wide k) in
        let q = board_set_same b w v y l (omega (arith, r.few)) in
        rw (i, ← e, q, s) f
    go z h l (yes e) (no i) = rw (← e, board_set_end b w v y k l (omega (arith, r.few)) i) (r.range y m l)
    go z h l (no d) i = rw (board_set_event b w v y z k l (omega (arith, r.few)) (omega (arith, r.few)) d) (r.range z h l)

stored_ranged : {n : ℕ} (b : List ℤ) (k : End) (y : ℕ) (x : Effect) → Whole b → Ranged n (board b) → y < n → ((v : ℤ) → x ≡ narrows v → Within v (span k)) → Ranged n (board (stored k y x b))
stored_ranged b k y idle w r m f = r
stored_ranged b k y (narrows v) w r m f = ranged_set b y k v w r m (f v refl)
stored_ranged b k y fails w r m f = r

-- A new end of an amount is a delivery's where the amounts are.
new_sign : (W : Windows) (y : ℕ) (k : End) (v : ℤ) → 2 ≤ word k → produces (W y h_min) ≡ produces (W y h_max) → Narrower W y k v → produces v ≡ produces (W y h_max)
new_sign W y t_min v l s n = absurd (omega arith)
new_sign W y t_max v l s n = absurd (omega arith)
new_sign W y h_min v l s n = go (produces (W y h_max)) refl
  where
    go : (t : Bool) → produces (W y h_max) ≡ t → produces v ≡ t
    go true q = let a = s ∙ q in let b = n.1 in omega ints
    go false q = let b = n.0 in omega ints
new_sign W y h_max v l s n = go (produces (W y h_max)) refl
  where
    go : (t : Bool) → produces (W y h_max) ≡ t → produces v ≡ t
    go true q = let a = s ∙ q in let b = n.0 in omega ints
    go false q = let b = n.1 in omega ints

module _ {n : ℕ} (b : List ℤ) (k : End) (y : ℕ) (w : Whole b) (few : n ≤ 64) (m : y < n) (signed : (z : ℕ) → z < n → produces (board b z h_min) ≡ produces (board b z h_max)) where
  -- Both amounts of an event are deliveries' as before.
  old_sign : (z : ℕ) → z < n → (l : End) → 2 ≤ word l → produces (board b z l) ≡ produces (board b z h_max)
  old_sign z h t_min i = absurd (omega arith)
  old_sign z h t_max i = absurd (omega arith)
  old_sign z h h_min i = signed z h
  old_sign z h h_max i = refl

  stored_sign : (x : Effect) → ((v : ℤ) → x ≡ narrows v → Narrower (board b) y k v) → (z : ℕ) → z < n → (l : End) → 2 ≤ word l → produces (board (stored k y x b) z l) ≡ produces (board b z h_max)
  stored_sign idle f z h l i = old_sign z h l i
  stored_sign fails f z h l i = old_sign z h l i
  stored_sign (narrows v) f z h l i = go (ℕ_discrete y z) (ℕ_discrete (word k) (word l))
    where
      go : Dec (y ≡ z) → Dec (word k ≡ word l) → produces (board (set b (64 * word k + y) v) z l) ≡ produces (board b z h_max)
      go (yes e) (yes q) =
          let at = board_set_same b w v y l (omega arith) in
          rw (q, ← e, at) (new_sign (board b) y k v (omega arith) (signed y m) (f v refl))
      go (yes e) (no q) = rw (← e, board_set_end b w v y k l (omega arith) q) (old_sign y m l i)
      go (no d) q = rw (board_set_event b w v y z k l (omega arith) (omega arith) d) (old_sign z h l i)

-- ---- the slip written, and the call stopped

-- Whether a slip of 7 + 3m words fits.
room_no : (room : ℕ) (log slip : List ℤ) (used m : ℕ) → length log ≡ used → length slip ≡ 7 + 3 * m → room < used + (10 + 3 * m) → fits room log slip ≡ false
room_no room log slip used m p q h = lt-leb (length log + length slip + 3) room (omega arith)

state_is : {table table' log log' : List ℤ} {slips slips' last last' : ℕ} {s s' : model.Status} → table ≡ table' → log ≡ log' → slips ≡ slips' → last ≡ last' → s ≡ s'
    → ◌≡◌ {A = State} (record { table = table; log = log; slips = slips; last = last; status = s }) (record { table = table'; log = log'; slips = slips'; last = last'; status = s' })
state_is p q o l t = rw (p, q, o, l, t)

module _ (h : Header) (q : Quoting) (l : Log) (writable : Writable h q) where
  abbrev slip : Explanation
  slip = written_by h q

  pub few_facts : length slip.premises ≤ 256
  few_facts =
      let W = board q.board.now.words in
      omega (arith, premise_list_length q.events (cites_of q.cited W) (says_of q.cited W), writable.ranged.few)

  log_size : length (take l.used l.buffer.now) ≡ l.used
  log_size = length-take-le l.used l.buffer.now (omega (arith, l.roomy.trailer_fits))

  module _ {m : ℕ} (count : m ≡ length slip.premises) where
    long : length (slip_words slip) ≡ 7 + 3 * m
    long = slip_words_length slip ∙ rw count

    -- It does not fit.
    pub stop_entered : {l' : Log} → room l < l.used + (10 + 3 * m) → (l'.buffer.ghost_name ≡ l.buffer.ghost_name) × (l'.buffer.now ≡ l.buffer.now) × (l'.used ≡ l.used) × (l'.slips ≡ l.slips) × (l'.last ≡ l.last) × (l'.status ≡ Stopped)
        → Entered slip (status_after (effect_of h.effect)) l l'
    stop_entered {l'} over g =
        let no = room_no (room l) (take l.used l.buffer.now) (slip_words slip) l.used m log_size long over in
        let status = ap status_of g.5 in
        record {
          is = λ t u. state_is (ap (λ s. cond (written s) u t) status) (ap (take l'.used) g.1 ∙ ap (λ i. take i l.buffer.now) g.2) g.3 g.4 status ∙ rw no;
          grown = record {
            lent = g.0;
            same = ap length g.1;
            after = ap (drop l'.used) g.1;
            longer = omega (arith, g.2);
            more = omega (arith, g.3);
          };
        }

    -- It fits and is written.
    pub slip_place : {words : List ℤ} {end : ℕ} → l.used + (10 + 3 * m) ≤ room l → Appended l.used (slip_words slip) l.buffer.now words end → (l.used + 7 ≤ end) × (end + 3 ≤ room l)
    slip_place fit a = (omega (arith, long, a.place), omega (arith, long, a.place))

-- ---- the slip entered and the new end stored

module _ {n : ℕ} {b : List ℤ} {l : Log} (r : ℕ) {y : ℕ} {x : Effect} (held : Held n b) (there : y < n)
    (narrower : (v : ℤ) → x ≡ narrows v → Narrower (board b) y (own_end (rule r)) v) (range : (v : ℤ) → x ≡ narrows v → Within v (span (own_end (rule r))))
    {slip : Explanation} {b' : List ℤ} {l' : Log} {t : Bool} (entered : Entered slip (status_after x) l l') (told : t ≡ written (status_of l'.status)) (put : b' ≡ cond t (stored (own_end (rule r)) y x b) b) where
  table_put : (sent : List ℤ) → table_of n sent b' ≡ cond (written (status_of l'.status)) (table_after (own_end (rule r)) y x (table_of n sent b)) (table_of n sent b)
  table_put sent = ap (table_of n sent) put ∙ go t ∙ ap (λ s. cond s (table_after (own_end (rule r)) y x (table_of n sent b)) (table_of n sent b)) told
    where
      go : (t : Bool) → table_of n sent (cond t (stored (own_end (rule r)) y x b) b) ≡ cond t (table_after (own_end (rule r)) y x (table_of n sent b)) (table_of n sent b)
      go true = table_stored n sent b y (own_end (rule r)) x held.whole there held.ranged.few
      go false = refl

  entered_is : (sent : List ℤ) → state_of n sent b' l' ≡ recorded (room l) (state_of n sent b l) slip (table_after (own_end (rule r)) y x (table_of n sent b)) (status_after x)
  entered_is sent =
      ap (λ w. state_at w l') (table_put sent) ∙ entered.is (table_of n sent b) (table_after (own_end (rule r)) y x (table_of n sent b))

  put_sign : (z : ℕ) → z < n → (l : End) → 2 ≤ word l → produces (board b' z l) ≡ produces (board b z h_max)
  put_sign z h l w = ap (λ s. produces (board s z l)) put ∙ go t
    where
      go : (t : Bool) → produces (board (cond t (stored (own_end (rule r)) y x b) b) z l) ≡ produces (board b z h_max)
      go true = stored_sign b (own_end (rule r)) y held.whole held.ranged.few there held.signed x narrower z h l w
      go false = old_sign b (own_end (rule r)) y held.whole held.ranged.few there held.signed z h l w

  put_ranged : (t : Bool) → b' ≡ cond t (stored (own_end (rule r)) y x b) b → Whole b' × Ranged n (board b')
  put_ranged true e = (rw e (stored_whole (own_end (rule r)) y x b held.whole), rw e (stored_ranged b (own_end (rule r)) y x held.whole held.ranged there range))
  put_ranged false e = (rw e held.whole, rw e held.ranged)

  pub entered_held : Held n b'
  entered_held =
      let w = put_ranged t put in
      record {
        whole = w.0;
        ranged = w.1;
        signed = λ z l. put_sign z l h_min (omega arith) ∙ sym (put_sign z l h_max (omega arith));
      }

  -- It is what the calls' rule does, where its slip is theirs.
  pub act_leads : {P : Call → Type 0} {e : ℕ} → is_idle x ≡ false → ((j : Call) → P j → slip ≡ explanation r j (windows (table_of n j.window_table b)) e y x) → Leads n P (λ j. acted (room l) r j e y x) b l b' l'
  act_leads {e = e} busy slip_is =
      record {
        is = λ j q. entered_is j.window_table ∙ sym (acted_slip (room l) r j e y x (state_of n j.window_table b l) busy ∙ rw (← slip_is j q));
        kinds = λ z m. put_sign z m h_max (omega arith);
        grown = entered.grown;
      }

-- ---- the attempt on a board

module _ {n : ℕ} {P : Call → Type 0} (r e y : ℕ) {b : List ℤ} {l : Log} where
  -- The call has ended.
  pub attempt_off : {t : Bool} → t ≡ still (status_of l.status) → not t ≡ true → Leads n P (λ j. made (room l) j (try r e y ∷ [])) b l b l
  attempt_off {t} h f = leads_none (λ j q. attempt_ends (room l) r j e y (state_of n j.window_table b l) (sym h ∙ not-true t f))

  module _ {t : Bool} {x : Effect} (h : t ≡ still (status_of l.status)) (f : not t ≡ false)
      (does : (j : Call) → P j → effect (own_end (rule r)) (windows (table_of n j.window_table b)) y (finding (rule r) j (windows (table_of n j.window_table b)) e y) ≡ x) where
    -- It does nothing.
    pub attempt_idle : {i : Bool} → i ≡ is_idle x → i ≡ true → Leads n P (λ j. made (room l) j (try r e y ∷ [])) b l b l
    attempt_idle u w =
        leads_none (λ j q. attempt_does (room l) r j e y (state_of n j.window_table b l) (sym h ∙ not-false t f) (does j q) ∙ acted_idle (room l) r j e y x (state_of n j.window_table b l) (sym u ∙ w))

    -- It is acted on.
    pub attempt_acts : {b' : List ℤ} {l' : Log} → Leads n P (λ j. acted (room l) r j e y x) b l b' l' → Leads n P (λ j. made (room l) j (try r e y ∷ [])) b l b' l'
    attempt_acts m =
        record {
          is = λ j q. m.is j q ∙ sym (attempt_does (room l) r j e y (state_of n j.window_table b l) (sym h ∙ not-false t f) (does j q));
          kinds = m.kinds;
          grown = m.grown;
        }

-- ---- in the job at hand

module _ (k : CageJob) (q : Rule) {e y : ℕ} {x : Done} (tries : Tried k q e y) (does : Found k q e y x) where
  -- A call's rule does on its windows what it does on the board.
  does_there : (j : Call) → Of k j → effect (own_end (rule (number_of q))) (windows (table_of k.job.events j.window_table k.board.now.words)) y (finding (rule (number_of q)) j (windows (table_of k.job.events j.window_table k.board.now.words)) e y) ≡ effect_of x
  does_there j o =
      let n = k.job.events in
      let b = k.board.now.words in
      let h = o.holds in
      rw (rule_number q)
      (outcome_agree j (windows (table_of n j.window_table b)) (board b) (rw h.events_are (agree n j.window_table b)) (lags_of h tries.fit) q e y (subject_there h q tries.subject) (rw h.events_are tries.target)
      ∙ sym (does.is j o))

  -- A slip names the rule by a number, and by the end of its bounds.
  module _ {c : Citing} {r : ℕ} {i : End} (cites : Cites k.job k.lags.now (board k.board.now.words) q e y x c) (named : rule r ≡ q) (own : i ≡ own_end q) where
    -- The slip that the code writes can be written.
    pub writes : r ≤ 18 → Writes k.job.events (board k.board.now.words) c r e y
    writes few =
        record {
          ranged = k.held.ranged;
          known = cites.known;
          numbered = few;
          subject = omega (arith, tries.subject, few_subjects tries.fit q);
          target = omega (arith, tries.target, k.held.ranged.few);
        }

    -- It is the definitions' slip.
    slip_is : (j : Call) → Of k j → slip_of k.job.events (board k.board.now.words) c r i e y x ≡ explanation r j (windows (table_of k.job.events j.window_table k.board.now.words)) e y (effect_of x)
    slip_is j s =
        let n = k.job.events in
        let b = k.board.now.words in
        let h = s.holds in
        let same : Agree (events j) (board b) (windows (table_of n j.window_table b)) = rw h.events_are (agree_sym n (windows (table_of n j.window_table b)) (board b) (agree n j.window_table b)) in
        let here : slip_of n (board b) c r i e y x ≡ explanation r j (board b) e y (effect_of x) = rw (named, own, own_kind q (effect_of x), same_premises j s cites) in
        here ∙ explanation_agree j (board b) (windows (table_of n j.window_table b)) same r e y (effect_of x) (rw named (subject_there h q tries.subject))

    module _ {l l' : Log} {b' : List ℤ} {t : Bool} (entered : Entered (slip_of k.job.events (board k.board.now.words) c r i e y x) (status_after (effect_of x)) l l') (told : t ≡ written (status_of l'.status)) (put : b' ≡ cond t (stored i y (effect_of x) k.board.now.words) k.board.now.words) where
      pub act_held : Held k.job.events b'
      act_held = entered_held r k.held tries.target (rw named does.narrower) (rw named does.range) entered told (rw (named, ← own) put)

      pub act_made : {k' : CageJob} → is_idle (effect_of x) ≡ false → k'.board.now.words ≡ b' → fixed k' ≡ fixed k → Moves (λ j. acted (room l) r j e y (effect_of x)) k l k' l'
      act_made busy same s =
          record {
            leads = rw same (act_leads r k.held tries.target (rw named does.narrower) (rw named does.range) entered told (rw (named, ← own) put) busy slip_is);
            stays = s;
          }

  module _ (l : Log) {t : Bool} (h : t ≡ still (status_of l.status)) (f : not t ≡ false) where
    pub made_idle : {k' : CageJob} {i : Bool} → fixed k' ≡ fixed k → k'.board.now.words ≡ k.board.now.words → i ≡ is_idle (effect_of x) → i ≡ true → Made (λ j. try (number_of q) e y ∷ []) k l k' l
    made_idle s same u w = made_rest (λ j. try (number_of q) e y ∷ []) s same (attempt_idle (number_of q) e y h f does_there u w)

    pub made_acts : {k₁ k' : CageJob} {l' : Log} → fixed k₁ ≡ fixed k → k₁.board.now.words ≡ k.board.now.words → Moves (λ j. acted (room l) (number_of q) j e y (effect_of x)) k₁ l k' l' → Made (λ j. try (number_of q) e y ∷ []) k l k' l'
    made_acts s same m =
        let m' = moves_from {k = k} s same m in
        record { leads = attempt_acts (number_of q) e y h f does_there m'.leads; stays = m'.stays }
