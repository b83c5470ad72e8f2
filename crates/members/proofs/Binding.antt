-- Rules 17 and 18 on the board: their effects are those on the window table, and a slip entered with the new end stored is what the definitions record.
-- Assumes nothing.
use mathlib.Core.Path.{◌≡◌, refl, sym, ap, subst, ◌∙◌}
use mathlib.Core.Bool.{Bool, true, false, cond, ◌&&◌}
use mathlib.Core.List.{List, [], ◌∷◌, ◌++◌}
use Prim.Native.Nat.{ℕ, ◌+◌, ◌<◌, ◌≤◌}
use native.Mathlib.Omega.{arith}
use lib.Dec.{eqb, eqb_refl}
use lib.IntN.{ℤ, pos, nat_abs, ◌-ℤ◌}
use lib.Signed.{le_z, ◌≤ℤ◌}
use Rattle.std.specs.Borrow.{GName}
use Rattle.integers.specs.Range.{Within}
use Rattle.integers.proofs.Linear.{ints}
use Rattle.integers.proofs.Sums.{sum_ext}
use Rattle.integers.proofs.Tests.{is_true, true_is, and_out, and_in}
use Rattle.model.specs.Job.{End, t_min, t_max, h_min, h_max, Windows, windows, events, member_count, member_word, member, in_set, Job as Call}
use Rattle.model.specs.Standing.{span}
use Rattle.model.specs.View.{look}
use Rattle.model.specs.Rules.{bound, total, rule, total_limit, others, side_finding, subjects, finding, own_end, idle, effect}
use Rattle.model.specs.Facts.{quotes, quoted}
use Rattle.model.specs.Slips.{premise_list, explanation}
use Rattle.model.specs.Agenda.{Attempt, try, each_of}
use Rattle.model.specs.Rounds.{State, acted, made}
use Rattle.model.proofs.Agree.{Agree, agree_sym, look_agree, effect_agree, explanation_agree}
use Rattle.model.proofs.Premises.{any_in}
use Rattle.model.proofs.Silence.{Idle, made_still}
use Rattle.tables.specs.Board.{board, table_of}
use Rattle.sets.specs.Sets.{count_at}
use Rattle.totals.specs.Totals.{event_at, Adds, SetOf, does_by, bound_by, Slack}
use Rattle.totals.proofs.Summing.{adds_at}
use Rattle.totals.proofs.Slackening.{spared}
use Rattle.silence.specs.Slack.{spares}
use Rattle.rules.specs.Values.{effect_of, is_idle}
use Rattle.rules.specs.Numbers.{number_of}
use Rattle.rules.specs.declared.Effect.{Effect as Done}
use Rattle.rules.proofs.Doing.{new_narrower, new_range}
use Rattle.facts.specs.Quotes.{cites_of, says_of, Shows, TotalCites}
use Rattle.facts.specs.declared.Citing.{Citing}
use Rattle.slips.specs.Slip.{slip_of, Writes}
use Rattle.slips.proofs.Filling.{set_premises}
use Rattle.slips.proofs.Wording.{own_kind}
use Rattle.rounds.specs.Held.{Held}
use Rattle.rounds.specs.State.{status_of, room, state_of, Leads}
use Rattle.rounds.specs.Attempts.{stored, status_after, written, Entered}
use Rattle.rounds.specs.declared.Log.{Log}
use Rattle.rounds.proofs.Moves.{agree, leads_none, leads_nothing, leads_as, leads_both, leads_on}
use Rattle.rounds.proofs.Trying.{entered_held, act_leads}
use Rattle.members.specs.declared.SetJob.{SetJob}
use Rattle.members.specs.Placed.{is_member}
use Rattle.members.specs.Members.{Of, fixed, Moved, Swept, number, both_attempts, amount, Alone, Does, Spares}

rule_is : (m : Bool) → rule (number m) ≡ total m
rule_is true = refl
rule_is false = refl

number_is : (m : Bool) → number_of (total m) ≡ number m
number_is true = refl
number_is false = refl

few : (m : Bool) → number m ≤ 18
few true = omega arith
few false = omega arith

-- ---- a call's set

module _ (k : SetJob) where
  pub set_adds : Adds k.set.table.now k.set.at (board k.board.now.words)
  set_adds =
      let p = k.placed in
      subst (λ at. Adds k.set.table.now at (board k.board.now.words)) (sym p.begins) (adds_at p.sane k.held.ranged)

  -- What is listed is an event of the job and a member.
  pub listed_member : (i : ℕ) {y : ℕ} → i < count_at k.set.table.now k.set.at → y ≡ event_at k.set.table.now k.set.at i → (y < k.events) × (is_member k.set.table.now k.subject y ≡ true)
  listed_member i {y} l e =
      let p = k.placed in
      let ws = k.set.table.now in
      let g = k.subject in
      let there : i < member_count ws g = rw (← p.begins) (omega arith) in
      let y-is : y ≡ nat_abs (member_word ws g i) = rw (← p.begins) e in
      (rw y-is (p.sane.member_real i there), rw y-is (is_true (is_member ws g (nat_abs (member_word ws g i))) (any_in (member_count ws g) i (λ k. eqb (nat_abs (member_word ws g k)) (nat_abs (member_word ws g i))) there (eqb_refl (nat_abs (member_word ws g i))))))

  module _ {j : Call} (h : Of k j) where
    pub member_is : (i : ℕ) {y : ℕ} → y ≡ event_at k.set.table.now k.set.at i → y ≡ member j k.subject i
    member_is i e = rw (h.sets_are, ← k.placed.begins) e

    set_of : SetOf k.set.table.now k.set.at j k.subject
    set_of = record { sets_are = h.sets_are; begins = k.placed.begins; sane = rw h.events_are k.placed.sane }

    in_set_is : (y : ℕ) → in_set j k.subject y ≡ is_member k.set.table.now k.subject y
    in_set_is y = rw h.sets_are

    set_there : (m : Bool) → k.subject < subjects (rule (number m)) j
    set_there true = rw h.sets_are k.placed.there
    set_there false = rw h.sets_are k.placed.there

-- ---- what a slack says

-- A smaller slack that spares a window lets a larger one spare it.
spares_more : (r s low high : ℤ) → r ≤ℤ s → spares r low high ≡ true → spares s low high ≡ true
spares_more r s low high l e =
    let p = and_out (le_z (pos 0) r) (le_z (high -ℤ low) r) (true_is e) in
    is_true (le_z (pos 0) s && le_z (high -ℤ low) s) (and_in (le_z (pos 0) s) (le_z (high -ℤ low) s) (omega ints) (omega ints))

module _ (k : SetJob) where
  abbrev W : Windows
  W = board k.board.now.words

  abbrev Tells : Bool → ℤ → Type 0
  Tells m s = (j : Call) (g : ℕ) → SetOf k.set.table.now k.set.at j g → Slack j g m W s

  gives : {j : Call} → Of k j → (m : Bool) {s : ℤ} → Tells m s → (y : ℕ) → y < k.events → is_member k.set.table.now k.subject y ≡ true → effect (own_end (total m)) W y (finding (total m) j W k.subject y) ≡ does_by m W y s
  gives {j} h m {s} t y l i =
      ap (effect (own_end (total m)) W y) ((t j k.subject (set_of k h)).gives y (rw h.events_are l) (true_is (in_set_is k h y ∙ i)))

  pub spares_least : {s t r : ℤ} → Tells false s → Tells true t → (r ≤ℤ s) × (r ≤ℤ t) → Spares k r
  spares_least {s} {t} {r} f g l = record { still = λ j h m y p i e. go j h m y p i e }
    where
      go : (j : Call) → Of k j → (m : Bool) (y : ℕ) → y < k.events → is_member k.set.table.now k.subject y ≡ true → spares r (W y h_min) (W y h_max) ≡ true → effect (own_end (total m)) W y (finding (total m) j W k.subject y) ≡ idle
      go j h false y p i e = gives h false f y p i ∙ spared false W y s (spares_more r s (W y h_min) (W y h_max) l.0 e)
      go j h true y p i e = gives h true g y p i ∙ spared true W y t (spares_more r t (W y h_min) (W y h_max) l.1 e)

  pub does_of : {m : Bool} {y : ℕ} {s : ℤ} (x : Done) → y < k.events → is_member k.set.table.now k.subject y ≡ true → Tells m s → effect_of x ≡ does_by m W y s → Does k m y x
  does_of {m} {y} {s} x l i t e =
      record {
        target = l;
        member = i;
        is = λ j h. rw (rule_is m) (gives h m t y l i ∙ sym e);
        narrower = λ w q. rw (rule_is m) (new_narrower W (own_end (total m)) y (bound (bound_by m W y s)) w (sym e ∙ q));
        range = λ w q. rw (rule_is m) (new_range (own_end (total m)) y (bound (bound_by m W y s)) w k.held.ranged l (sym e ∙ q));
      }

-- ---- the board and the table

module _ (j : Call) (W X : Windows) (a : Agree (events j) W X) where
  total_agree : (m : Bool) (g y : ℕ) → finding (total m) j W g y ≡ finding (total m) j X g y
  unfolding finding others
  total_agree m g y =
      let A = look_agree (in_set j g) m (events j) W X a in
      ap (λ v. side_finding m h_min (bound (total_limit m j g -ℤ v)))
      (sum_ext (events j) (λ z. cond (eqb z y) (pos 0) (look (in_set j g) m W z h_max)) (λ z. cond (eqb z y) (pos 0) (look (in_set j g) m X z h_max)) (λ z l. ap (cond (eqb z y) (pos 0)) (A z l h_max)))

  outcome_agree : (m : Bool) (g y : ℕ) → y < events j → effect (own_end (rule (number m))) W y (finding (rule (number m)) j W g y) ≡ effect (own_end (rule (number m))) X y (finding (rule (number m)) j X g y)
  outcome_agree m g y l =
      rw (rule_is m) (effect_agree j W X a (own_end (total m)) y l (finding (total m) j W g y) ∙ ap (effect (own_end (total m)) X y) (total_agree m g y))

module _ (k : SetJob) {j : Call} (h : Of k j) where
  -- The windows in a call's table.
  abbrev U : Windows
  U = windows (table_of k.events j.window_table k.board.now.words)

  table_agree : Agree (events j) U (board k.board.now.words)
  table_agree = rw h.events_are (agree k.events j.window_table k.board.now.words)

  -- A call's rule does on its windows what it does on the board.
  pub does_there : {m : Bool} {y : ℕ} {x : Done} → Does k m y x → effect (own_end (rule (number m))) U y (finding (rule (number m)) j U k.subject y) ≡ effect_of x
  does_there {m} {y} d = outcome_agree j U (board k.board.now.words) table_agree m k.subject y (rw h.events_are d.target) ∙ d.is j h

-- ---- its slip

amount_within : (t : Bool) (k : End) (v : ℤ) → Within v (span k) → Within (amount t k v) (span k)
amount_within t t_min v w = record { most = omega arith; least = omega arith }
amount_within t t_max v w = record { most = omega arith; least = omega arith }
amount_within true h_min v w = w
amount_within true h_max v w = w
amount_within false h_min v w = record { most = omega arith; least = omega arith }
amount_within false h_max v w = record { most = omega arith; least = omega arith }

-- It names its rule by number, and by the end of the rule's bounds.
module _ (k : SetJob) {m : Bool} {y : ℕ} {x : Done} {s : List ℤ} {c : Citing} {r : ℕ} {i : End} (does : Does k m y x) (alone : Alone k (count_at k.set.table.now k.set.at) s) (cites : TotalCites m y (effect_of x) c) (named : r ≡ number_of (total m)) (own : i ≡ own_end (total m)) where
  -- It can be written.
  pub writes : Writes k.events (board s) c r k.subject y
  writes =
      record {
        ranged = record {
          few = k.held.ranged.few;
          range = λ z l i. rw (alone.is z (omega (arith, k.held.ranged.few)) i) (amount_within _ i (board k.board.now.words z i) (k.held.ranged.range z l i));
        };
        known = cites.known k.events;
        numbered = rw (named, number_is m) (few m);
        subject = omega (arith, k.placed.there, k.placed.few);
        target = omega (arith, does.target, k.held.ranged.few);
      }

  module _ (j : Call) (h : Of k j) where
    shows : Shows (events j) (in_set j k.subject) (board k.board.now.words) (board s)
    shows =
        let small : (z : ℕ) → z < events j → z < 64 = λ z l. omega (arith, k.held.ranged.few, h.events_are) in
        rw h.sets_are
        (record {
          low = λ z l. alone.is z (small z l) h_min ∙ rw k.placed.begins;
          high = λ z l. alone.is z (small z l) h_max ∙ rw k.placed.begins;
        })

    -- Its facts are the definitions'.
    premises_are : premise_list k.events (cites_of c (board s)) (says_of c (board s)) ≡ premise_list (events j) (quotes (rule (number m)) j (board k.board.now.words) k.subject y (effect_of x)) (quoted (rule (number m)) j (board k.board.now.words) k.subject y (effect_of x))
    premises_are =
        ap (λ i. premise_list i (cites_of c (board s)) (says_of c (board s))) (sym h.events_are)
        ∙ rw (rule_is m) (set_premises j k.subject (board k.board.now.words) (board s) cites shows (in_set_is k h y ∙ does.member))

    slip_is : slip_of k.events (board s) c r i k.subject y x ≡ explanation (number m) j (windows (table_of k.events j.window_table k.board.now.words)) k.subject y (effect_of x)
    slip_is =
        let W = windows (table_of k.events j.window_table k.board.now.words) in
        let here : slip_of k.events (board s) c r i k.subject y x ≡ explanation (number m) j (board k.board.now.words) k.subject y (effect_of x) = rw (premises_are, named, number_is m, own, own_kind (total m) (effect_of x), rule_is m) in
        here ∙ explanation_agree j (board k.board.now.words) W (agree_sym (events j) W (board k.board.now.words) (table_agree k h)) (number m) k.subject y (effect_of x) (set_there k h m)

  -- Entered, and the new end stored.
  module _ {l l' : Log} {b' : List ℤ} {t : Bool} (entered : Entered (slip_of k.events (board s) c r i k.subject y x) (status_after (effect_of x)) l l') (told : t ≡ written (status_of l'.status)) (put : b' ≡ cond t (stored i y (effect_of x) k.board.now.words) k.board.now.words) where
    pub act_held : Held k.events b'
    act_held = entered_held (number m) k.held does.target does.narrower does.range entered told (rw (rule_is m, ← own) put)

    pub act_moved : {k' : SetJob} → is_idle (effect_of x) ≡ false → k'.board.now.words ≡ b' → fixed k' ≡ fixed k → Moved (λ j. acted (room l) (number m) j k.subject y (effect_of x)) k l k' l'
    act_moved busy same stays =
        record { leads = rw same (act_leads (number m) k.held does.target does.narrower does.range entered told (rw (rule_is m, ← own) put) busy slip_is); stays = stays }

-- ---- in turn

module _ {x y : GName × ℕ × List ℤ × ℕ × ℕ} (e : x ≡ y) where
  pub lent_is : x.0 ≡ y.0
  lent_is = ap (λ (x : GName × ℕ × List ℤ × ℕ × ℕ). x.0) e

  pub events_are : x.1 ≡ y.1
  events_are = ap (λ (x : GName × ℕ × List ℤ × ℕ × ℕ). x.1) e

  pub sets_are : x.2 ≡ y.2
  sets_are = ap (λ (x : GName × ℕ × List ℤ × ℕ × ℕ). x.2) e

  pub place_is : x.3 ≡ y.3
  place_is = ap (λ (x : GName × ℕ × List ℤ × ℕ × ℕ). x.3) e

  pub subject_is : x.4 ≡ y.4
  subject_is = ap (λ (x : GName × ℕ × List ℤ × ℕ × ℕ). x.4) e

-- A place below the number of its members is so still.
pub here : (k k' : SetJob) {n i : ℕ} → fixed k' ≡ fixed k → n ≡ count_at k.set.table.now k.set.at → i < n → i < count_at k'.set.table.now k'.set.at
here k k' e size l = rw (sets_are e, place_is e, ← size) l

-- Attempts that do nothing on the board do nothing to the set.
pub swept_rest : (todo : Call → List Attempt) {k k' : SetJob} {l : Log} → fixed k' ≡ fixed k → k'.board.now.words ≡ k.board.now.words → Leads k.events (Of k) (λ j. made (room l) j (todo j)) k.board.now.words l k.board.now.words l → Swept todo k l k' l
swept_rest todo e q d = record { leads = rw q d; stays = e }

-- From the same set on the same board the same is done, and to it.
pub moved_from : {f : Call → State → State} {k k₁ k' : SetJob} {l l' : Log} → fixed k₁ ≡ fixed k → k₁.board.now.words ≡ k.board.now.words → Moved f k₁ l k' l' → Moved f k l k' l'
moved_from e q m = record { leads = rw (events_are e, sets_are e, q) at m.leads; stays = m.stays ∙ e }

pub swept_none : (f : ℕ → Call → List Attempt) (k : SetJob) (l : Log) → Swept (λ j. each_of (λ i. f i j) 0 0) k l k l
swept_none f k l = record { leads = leads_nothing f k.board.now.words l; stays = refl }

module _ {k : SetJob} {l : Log} {k₁ : SetJob} {l₁ : Log} {k₂ : SetJob} {l₂ : Log} where
  -- These, then those.
  swept_both : (f g : Call → List Attempt) → Swept f k l k₁ l₁ → Swept g k₁ l₁ k₂ l₂ → Swept (λ j. f j ++ g j) k l k₂ l₂
  swept_both f g m o =
      record { leads = leads_both f g m.leads (λ j q. q) (rw (events_are m.stays, sets_are m.stays) at o.leads); stays = o.stays ∙ m.stays }

  -- In a loop: those so far, then those of i.
  pub swept_on : (f : ℕ → Call → List Attempt) (i : ℕ) → Swept (λ j. each_of (λ i. f i j) 0 i) k l k₁ l₁ → Swept (f i) k₁ l₁ k₂ l₂ → Swept (λ j. each_of (λ i. f i j) 0 (i + 1)) k l k₂ l₂
  swept_on f i m o =
      record { leads = leads_on f i m.leads (λ j q. q) (rw (events_are m.stays, sets_are m.stays) at o.leads); stays = o.stays ∙ m.stays }

-- Both attempts of a member, in turn.
pub both_swept : {k : SetJob} {l : Log} {k₁ : SetJob} {l₁ : Log} {k₂ : SetJob} {l₂ : Log} (y : ℕ) → Swept (λ j. try 17 k.subject y ∷ []) k l k₁ l₁ → Swept (λ j. try 18 k₁.subject y ∷ []) k₁ l₁ k₂ l₂ → Swept (λ j. both_attempts k.subject y) k l k₂ l₂
both_swept {k} {k₁ = k₁} {l₁} {k₂} {l₂} y m o =
    swept_both (λ j. try 17 k.subject y ∷ []) (λ j. try 18 k.subject y ∷ []) m (subst (λ g. Swept (λ j. try 18 g y ∷ []) k₁ l₁ k₂ l₂) (subject_is m.stays) o)

-- As listed.
pub member_swept : {k k' : SetJob} {l l' : Log} (g i : ℕ) {y : ℕ} → k.subject ≡ g → y ≡ event_at k.set.table.now k.set.at i → Swept (λ j. both_attempts k.subject y) k l k' l' → Swept (λ j. both_attempts g (member j g i)) k l k' l'
member_swept {k} {l = l} g i q e m =
    record { leads = leads_as (λ j h s. ap (λ xs. made (room l) j xs s) (rw (← q) (ap (both_attempts k.subject) (member_is k h i e)))) m.leads; stays = m.stays }

-- A member that the slack spares: both its attempts are as if made.
pub spared_passed : (k : SetJob) (l : Log) {k' : SetJob} {y : ℕ} {s : ℤ} → fixed k' ≡ fixed k → k'.board.now.words ≡ k.board.now.words → Spares k s → y < k.events → is_member k.set.table.now k.subject y ≡ true → spares s (board k.board.now.words y h_min) (board k.board.now.words y h_max) ≡ true → Swept (λ j. both_attempts k.subject y) k l k' l
spared_passed k l {y = y} stays same sp m i e =
    swept_rest (λ j. both_attempts k.subject y) stays same (leads_none (λ j q. made_still (room l) j (state_of k.events j.window_table k.board.now.words l) (both_attempts k.subject y) (one j q false, (one j q true, tt))))
  where
    one : (j : Call) → Of k j → (m : Bool) → Idle (rule (number m)) j (windows (table_of k.events j.window_table k.board.now.words)) k.subject y
    one j q n = outcome_agree j (windows (table_of k.events j.window_table k.board.now.words)) (board k.board.now.words) (table_agree k q) n k.subject y (rw q.events_are m) ∙ rw (rule_is n) (sp.still j q n y m i e)
