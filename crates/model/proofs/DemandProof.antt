-- The proof of demand 3, as Demand states it.
-- Assumes nothing.
use mathlib.Core.Path.{◌≡◌, refl, sym, ap, ap₂, ◌∙◌}
use mathlib.Core.Bool.{Bool, true, false, ◌&&◌}
use mathlib.Core.List.{List, [], ◌∷◌, ◌++◌}
use Prim.Native.Nat.{ℕ, zero, suc, ◌+◌, ◌≤◌}
use native.Mathlib.Omega.{arith}
use lib.Dec.{T, eqb, eqb→eq}
use lib.IntN.{ℤ, pos, negsuc, nat_abs}
use lib.ListN.{length, drop, take, drop_of_length-le}
use lib.Signed.{le_z, le_z_yes}
use Rattle.integers.specs.Range.{eq_z}
use Rattle.integers.proofs.Linear.{eq_z→}
use Rattle.integers.proofs.Tests.{is_true, and_out, and_in}
use Rattle.model.specs.Job.{End, t_min, t_max, h_min, h_max, meets, Windows, windows, widest, Job, Schedule, value, Inside, Legal, events, sent}
use Rattle.model.specs.Rules.{own_end}
use Rattle.model.specs.Slips.{Premise, Explanation, trailer, number, at, end, premise_event, premise_end, rule_of, target_of, log_words, last_begins}
use Rattle.model.specs.Agenda.{Each}
use Rattle.model.specs.Rounds.{Verdict, conflict}
use Rattle.model.specs.Questions.{Check, pass, refuse, questions, ◌then◌, ask}
use Rattle.model.specs.Planner.{refused, done, Outcome, plan}
use Rattle.model.specs.Reader.{kind_fits, has_bound, names, all_true, gives, narrowed, is_conflict, applied, Read, read_all, stop_of, counted, marked, ends_right, accepted, judged, check}
use Rattle.model.specs.Demand.{Has, HasPremises, HasConclusion, slips_of, listed, said, echoed, LegalPlan, Acceptance, Demand3}
use Rattle.model.proofs.Order.{inside_refl, inside_trans}
use Rattle.model.proofs.Questions.{then_out, ask_out, Asked, asked}
use Rattle.model.proofs.Written.{replayed, conflicting_after}
use Rattle.model.proofs.Reading.{three_more, count_is}
use Rattle.model.proofs.Accepted.{AllPassed, ReadOut, read_out, slips_from_length, all_kept}
use Rattle.model.proofs.Sound.{named, Concludes, legal_in, stands_alone}
use Rattle.model.proofs.Refusals.{not_done, check_refused, check_judged, plan_takes, planner_refuses, reader_refuses}
use Rattle.model.proofs.Replay.{complete}

-- ---- what a plan has, as tests

has_met : (p : Schedule) (y : ℕ) (k v : ℤ) → Has p y k v → T (meets (end (nat_abs k)) v (value p y (end (nat_abs k))))
has_met p y (pos zero) v h = absurd h
has_met p y (pos (suc zero)) v h = h.le
has_met p y (pos (suc (suc zero))) v h = h.le
has_met p y (pos (suc (suc (suc zero)))) v h = h.le
has_met p y (pos (suc (suc (suc (suc zero))))) v h = h.le
has_met p y (pos (suc (suc (suc (suc (suc n)))))) v h = absurd h
has_met p y (negsuc n) v h = absurd h

has_all : (p : Schedule) (fs : List Premise) → Each (λ (f : Premise). Has p (nat_abs f.event) f.kind f.value) fs → T (all_true (value p) fs)
unfolding all_true
has_all p [] h = tt
has_all p (f ∷ fs) h =
    and_in (meets (premise_end f) f.value (value p (premise_event f) (premise_end f))) (all_true (value p) fs)
    (has_met p (premise_event f) f.kind f.value h.0)
    (has_all p fs h.1)

met_has : (p : Schedule) (y : ℕ) (k : End) (v : ℤ) → T (meets k v (value p y k)) → Has p y (pos (number k)) v
met_has p y t_min v t = le_z_yes t
met_has p y t_max v t = le_z_yes t
met_has p y h_min v t = le_z_yes t
met_has p y h_max v t = le_z_yes t

concluded_has : (p : Schedule) (x : Explanation) → T (kind_fits (rule_of x) x.kind x.value) → Concludes p x → HasConclusion p x
concluded_has p x t c = go (is_conflict x) refl
  where
    go : (b : Bool) → is_conflict x ≡ b → HasConclusion p x
    go true e = absurd (rw e at c)
    go false e =
        let k = own_end (rule_of x) in
        let u : T (has_bound (rule_of x) && eq_z x.kind (pos (number k))) = rw e at t in
        let f = eq_z→ x.kind (pos (number k)) (is_true _ (and_out (has_bound (rule_of x)) (eq_z x.kind (pos (number k))) u).1) in
        rw f (met_has p (target_of x) k x.value (rw e at c))

-- ---- an accepted call

-- How the reader ends after reading.
judged_as : (j : Job) (list : List ℤ) (r : Read) (t : Check) → (r.check then ask 19 (ends_right list r.after r.last)) ≡ t → judged j list r ≡
    (elim t [
      | refuse n i ↦ record { reply = refused n i; table = j.window_table; buffer = list }
      | pass ↦ record { reply = done (accepted r.conflicting) 0 0 0; table = r.table; buffer = list }
    ])
judged_as j list r t e = rw (e, judged)

module _ (j : Job) where
  abbrev left : List ℤ → Read
  left list = read_all j list

  -- What an accepted call passed, and what it leaves.
  record Accepting (list : List ℤ) (v : Verdict) : Type 0 where
    asks : questions j (length list) ≡ pass
    marks : T (marked list)
    reads : (left list).check ≡ pass
    ends : T (ends_right list (left list).after (left list).last)
    leaves : check j list ≡ record { reply = done (accepted (left list).conflicting) 0 0 0; table = (left list).table; buffer = list }
    verdict : v ≡ accepted (left list).conflicting

  accepting : (list : List ℤ) (v : Verdict) (a b c : ℕ) → (check j list).reply ≡ done v a b c → Accepting list v
  accepting list v a b c e = go (questions j (length list) then ask 12 (marked list)) refl ((left list).check then ask 19 (ends_right list (left list).after (left list).last)) refl
    where
      go : (s : Check) → (questions j (length list) then ask 12 (marked list)) ≡ s → (t : Check) → ((left list).check then ask 19 (ends_right list (left list).after (left list).last)) ≡ t → Accepting list v
      go (refuse n i) f t g = not_done (ap (λ (o : Outcome). o.reply) (check_refused j list n i f)) e
      go pass f (refuse n i) g = not_done (ap (λ (o : Outcome). o.reply) (check_judged j list f ∙ judged_as j list (left list) (refuse n i) g)) e
      go pass f pass g =
          let w = check_judged j list f ∙ judged_as j list (left list) pass g in
          let x = then_out (questions j (length list)) (ask 12 (marked list)) f in
          let y = then_out (left list).check (ask 19 (ends_right list (left list).after (left list).last)) g in
          let z : done (accepted (left list).conflicting) 0 0 0 ≡ done v a b c = rw w at e in
          record { asks = x.0; marks = ask_out 12 (marked list) x.1; reads = y.0; ends = ask_out 19 (ends_right list (left list).after (left list).last) y.1; leaves = w; verdict = cc }

-- ---- its slips

each_map : {A : Type 0} {P Q : A → Type 0} (xs : List A) → ((x : A) → P x → Q x) → Each P xs → Each Q xs
each_map [] f h = tt
each_map (x ∷ xs) f h = (f x h.0, each_map xs f h.1)

each_for : {A I : Type 0} (P : A → I → Type 0) (xs : List A) → ((i : I) → Each (λ x. P x i) xs) → Each (λ x. (i : I) → P x i) xs
each_for P [] h = tt
each_for P (x ∷ xs) h = (λ i. (h i).0, each_for P xs (λ i. (h i).1))

-- What each passed, whatever the windows stood at.
all_given : (j : Job) (wide : Windows) (xs : List Explanation) (table : List ℤ) → AllPassed j wide table xs → Each (λ (x : Explanation). T (names j x) × T (gives j (narrowed wide x.premises) x)) xs
all_given j wide [] table h = tt
all_given j wide (x ∷ xs) table h = ((h.0.named, h.0.given), all_given j wide xs (applied table x) h.1)

last_said : (x : Explanation) (xs : List Explanation) → accepted (conflicting_after (is_conflict x) xs) ≡ said (x ∷ xs)
unfolding conflicting_after
last_said x [] = refl
last_said x (y ∷ ys) = last_said y ys

all_said : (xs : List Explanation) → accepted (conflicting_after false xs) ≡ said xs
unfolding conflicting_after
all_said [] = refl
all_said (x ∷ xs) = last_said x xs

-- Where no slip is a conflict, none is said.
accepted_conflict : (b : Bool) → accepted b ≡ conflict → b ≡ true
accepted_conflict true e = refl
accepted_conflict false e = absurd (let z : ◌≡◌ {A = ℕ} 0 1 = cc in omega arith)

said_none : (xs : List Explanation) → Each (λ (x : Explanation). is_conflict x ≡ true → ⊥) xs → said xs ≡ conflict → ⊥
said_none [] h e = let z : ◌≡◌ {A = ℕ} 0 1 = cc in omega arith
said_none (x ∷ []) h e = h.0 (accepted_conflict (is_conflict x) e)
said_none (x ∷ (y ∷ ys)) h e = said_none (y ∷ ys) h.1 e

-- The trailer's words.
trailer_there : (list : List ℤ) (last : ℕ) → 3 ≤ length list → T (marked list) → at list (stop_of list + 1) ≡ pos last → drop (stop_of list) list ≡ trailer (nat_abs (counted list)) last
trailer_there list last l m e =
    let t = and_out (eq_z (at list (stop_of list + 2)) (pos 4207)) (le_z (pos 0) (counted list)) m in
    let mark = eq_z→ (at list (stop_of list + 2)) (pos 4207) (is_true _ t.0) in
    let count = count_is (counted list) t.1 in
    let empty = drop_of_length-le list {i = stop_of list + 3} (omega arith) in
    let three = three_more list (stop_of list) (omega arith) in
    three ∙ ap₂ ◌∷◌ count (ap₂ ◌∷◌ e (ap₂ ◌∷◌ mark empty))

module _ (j : Job) (list : List ℤ) (v : Verdict) (a : Accepting j list v) where
  abbrev wide : Windows
  wide = widest j

  abbrev xs : List Explanation
  xs = slips_of list

  given : Asked j (length list)
  given = asked j (length list) a.asks

  out : ReadOut j wide list (nat_abs (counted list)) 0 0 false j.window_table (left j list)
  unfolding read_all
  out = read_out j wide list (stop_of list) (omega arith) (nat_abs (counted list)) 0 0 0 false j.window_table a.reads

  abbrev result : Read
  result = left j list

  words_there : list ≡ listed xs
  words_there =
      let t = and_out (eqb result.after (stop_of list)) (eq_z (at list (stop_of list + 1)) (pos result.last)) a.ends in
      let there = eqb→eq result.after (stop_of list) t.0 in
      let last = eq_z→ (at list (stop_of list + 1)) (pos result.last) (is_true _ t.1) in
      let tail = trailer_there list (last_begins 0 0 xs) given.room_low a.marks (last ∙ ap pos out.last_there) in
      out.words ∙ ap (λ (w : List ℤ). log_words xs ++ w) (ap (λ (i : ℕ). drop i list) there ∙ tail ∙ ap (λ (n : ℕ). trailer n (last_begins 0 0 xs)) (sym (slips_from_length list (nat_abs (counted list)) 0)))

  signs : Inside (events j) (widest j) wide
  signs = inside_refl (events j) wide

  opened : (p : Schedule) → Legal j (sent j) p → Legal j wide p
  opened p l = legal_in l (inside_trans given.standing.within l.within)

  kept : (p : Schedule) → Legal j (sent j) p → Inside (events j) (windows (replayed j.window_table xs)) (value p) × Each (λ (x : Explanation). is_conflict x ≡ true → ⊥) xs
  kept p l = all_kept j given.sane wide signs p (opened p l) xs j.window_table given.whole_events out.all_passed l.within

  left_table : (check j list).table ≡ replayed j.window_table xs
  left_table = ap (λ (o : Outcome). o.table) a.leaves ∙ out.table_left

  all_passed : Each (λ (x : Explanation). T (names j x) × T (gives j (narrowed wide x.premises) x)) xs
  all_passed = all_given j wide xs j.window_table out.all_passed

  one_alone : (x : Explanation) → T (names j x) × T (gives j (narrowed wide x.premises) x) → (p : Schedule) → Legal j wide p → HasPremises p x → HasConclusion p x
  one_alone x g p l f = concluded_has p x (named j x g.0).kind_right (stands_alone j wide p x given.sane signs l g.0 (has_all p x.premises f) g.1)

  says : v ≡ said xs
  says = a.verdict ∙ ap accepted out.conflict_last ∙ all_said xs

  -- What acceptance means.
  acceptance : Acceptance j list v
  acceptance =
      record {
        words = words_there;
        named = each_map xs (λ x g. g.0) all_passed;
        keeps = λ p l. rw left_table (kept p l).0;
        none = each_map xs (λ x c e p l. c (p, l) (rw e)) (each_for (λ (x : Explanation) (i : (p : Schedule) × Legal j (sent j) p). is_conflict x ≡ true → ⊥) xs (λ i. (kept i.0 i.1).1));
        says = says;
        clash = λ e p l. said_none xs (kept p l).1 (sym says ∙ e);
        alone = each_map xs one_alone all_passed;
        unchanged = ap (λ (o : Outcome). o.buffer) a.leaves;
      }

-- ---- demand 3

-- Demand 3, for every call, whatever words it is sent.
pub demand3 : (j : Job) → Demand3 j
demand3 j =
    record {
      sound = λ list v a b c e. acceptance j list v (accepting j list v a b c e);
      complete = complete j;
      takes = plan_takes j;
      reader_refuses = reader_refuses j;
      planner_refuses = planner_refuses j;
    }

-- So every legal plan lies inside the windows that the planner leaves, and there is none where it says conflict.
module _ (j : Job) (limit : ℤ) (buffer : List ℤ) (v : Verdict) (slips rounds len : ℕ) (answer : (plan j limit buffer).reply ≡ done v slips rounds len) where
  replayed_list : Acceptance j (take len (plan j limit buffer).buffer) (echoed v)
  replayed_list =
      let d = demand3 j in
      d.sound (take len (plan j limit buffer).buffer) (echoed v) 0 0 0 (d.complete limit buffer v slips rounds len answer).reply

  pub planner_keeps : (p : Schedule) → LegalPlan j p → Inside (events j) (windows (plan j limit buffer).table) (value p)
  planner_keeps p l = rw ((demand3 j).complete limit buffer v slips rounds len answer).same_table at (replayed_list.keeps p l)

  pub planner_clash : v ≡ conflict → (p : Schedule) → LegalPlan j p → ⊥
  planner_clash e p l = replayed_list.clash (ap echoed e) p l
