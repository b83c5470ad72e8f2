-- A list that the reader accepts: the slips it counts are its words, each passed questions 14 to 18 on the windows as they stood, no plan that is legal in the windows sent in is lost on the way, and the windows keep standing.
-- Assumes nothing.
use mathlib.Core.Path.{◌≡◌, refl, sym, ap, subst, ◌∙◌}
use mathlib.Core.Bool.{Bool, true, false, cond, ◌&&◌}
use mathlib.Core.List.{List, [], ◌∷◌, ◌++◌, append_assoc}
use Prim.Native.Nat.{ℕ, zero, suc, ◌+◌, ◌*◌, ◌≤◌, ◌<◌}
use lib.Dec.{T, eqb, eqb→eq}
use lib.IntN.{ℤ}
use lib.ListN.{length, drop}
use Rattle.integers.proofs.Tests.{true_is, and_out}
use Rattle.model.specs.Job.{End, opposite, meets, slot, Windows, windows, Job, Schedule, value, Inside, Legal, events, widest}
use Rattle.model.specs.Standing.{Sane, Standing}
use Rattle.model.specs.Rules.{own_end, bound, idle, narrows, fails, effect, is_narrowing}
use Rattle.model.specs.Slips.{Explanation, slip_words, slip_length, premise_count, slip_at, rule_of, target_of, log_words, last_begins}
use Rattle.model.specs.Agenda.{Each}
use Rattle.model.specs.Questions.{Check, pass, refuse, ask}
use Rattle.model.specs.Reader.{whole, reading, names, same_end, all_true, narrowed, is_conflict, gives, fits_there, slip_questions, applied, Read, read_from}
use Rattle.model.specs.Demand.{slips_from}
use Rattle.model.proofs.Order.{same_end_is, all_true_inside}
use Rattle.model.proofs.Table.{store, slot_inside, windows_set, standing_narrow}
use Rattle.model.proofs.Sound.{Named, named, Concludes, stands_alone}
use Rattle.model.proofs.Questions.{refusal, then_out, ask_out}
use Rattle.model.proofs.Written.{replayed, conflicting_after}
use Rattle.model.proofs.Words.{slip_words_length}
use Rattle.model.proofs.Refusals.{applied_length}
use Rattle.model.proofs.Reading.{premises_at_length, slip_there}

-- ---- one slip

-- The slip x passed questions 14 to 18 on the windows W, with k slips left to read.
pub record Passed (j : Job) (wide W : Windows) (x : Explanation) (k : ℕ) : Type 0 where
  pub named : T (names j x)
  pub premises_true : T (all_true W x.premises)
  pub given : T (gives j (narrowed wide x.premises) x)
  pub last_one : is_conflict x ≡ true → k ≡ 0
  pub narrowing : is_conflict x ≡ false → T (is_narrowing (effect (own_end (rule_of x)) W (target_of x) (bound x.value)))

pub passed : (j : Job) (wide W : Windows) (x : Explanation) (k : ℕ) → slip_questions j wide W x k ≡ pass → Passed j wide W x k
unfolding slip_questions
passed j wide W x k e =
    let a = then_out (ask 14 (names j x)) _ e in
    let b = then_out (ask 15 (all_true W x.premises)) _ a.1 in
    let c = then_out (ask 16 (gives j (narrowed wide x.premises) x)) (fits_there W x k) b.1 in
    record {
      named = ask_out 14 (names j x) a.0;
      premises_true = ask_out 15 (all_true W x.premises) b.0;
      given = ask_out 16 (gives j (narrowed wide x.premises) x) c.0;
      last_one = λ f. eqb→eq k 0 (ask_out 18 (eqb k 0) (rw f at c.1));
      narrowing = λ f. ask_out 17 (is_narrowing (effect (own_end (rule_of x)) W (target_of x) (bound x.value))) (rw f at c.1);
    }

-- ---- all slips

-- All slips pass in turn, each on the windows that those before it left.
abbrev pub AllPassed : Job → Windows → List ℤ → List Explanation → Type 0
AllPassed j wide table [] = Unit {0}
AllPassed j wide table (x ∷ xs) = Passed j wide (windows table) x (length xs) × AllPassed j wide (applied table x) xs

-- What reading k slips from word p on gives, where it refuses none.
pub record ReadOut (j : Job) (wide : Windows) (list : List ℤ) (k p last : ℕ) (c : Bool) (table : List ℤ) (r : Read) : Type 0 where
  pub all_passed : AllPassed j wide table (slips_from list k p)
  pub table_left : r.table ≡ replayed table (slips_from list k p)
  pub conflict_last : r.conflicting ≡ conflicting_after c (slips_from list k p)
  pub last_there : r.last ≡ last_begins p last (slips_from list k p)
  pub words : drop p list ≡ log_words (slips_from list k p) ++ drop r.after list

pub slips_from_length : (list : List ℤ) (k i : ℕ) → length (slips_from list k i) ≡ k
unfolding slips_from
slips_from_length list zero i = refl
slips_from_length list (suc k) i = ap suc (slips_from_length list k (i + slip_length (premise_count list i)))

-- The slip at word p is as long as its words.
slip_at_length : (list : List ℤ) (p : ℕ) → length (slip_words (slip_at list p)) ≡ slip_length (premise_count list p)
unfolding slip_at
slip_at_length list p = rw (slip_words_length, premises_at_length)

module _ (j : Job) (wide : Windows) (list : List ℤ) (stop : ℕ) (long : stop ≤ length list) where
  -- The first of them: it is whole, it passes, and the rest is read after it.
  abbrev next : ℕ → ℕ
  next p = p + slip_length (premise_count list p)

  one_read : (k i p last : ℕ) (c : Bool) (table : List ℤ) → (read_from j wide list stop (suc k) i p last c table).check ≡ pass →
      T (whole list stop p)
      × (slip_questions j wide (windows table) (slip_at list p) k ≡ pass)
      × (read_from j wide list stop (suc k) i p last c table ≡ read_from j wide list stop k (i + 1) (next p) p (is_conflict (slip_at list p)) (applied table (slip_at list p)))
  unfolding read_from reading
  one_read k i p last c table e = go (whole list stop p) refl (slip_questions j wide (windows table) (slip_at list p) k) refl
    where
      go : (b : Bool) → whole list stop p ≡ b → (q : Check) → slip_questions j wide (windows table) (slip_at list p) k ≡ q →
          T (whole list stop p)
          × (slip_questions j wide (windows table) (slip_at list p) k ≡ pass)
          × (read_from j wide list stop (suc k) i p last c table ≡ read_from j wide list stop k (i + 1) (next p) p (is_conflict (slip_at list p)) (applied table (slip_at list p)))
      go true a pass b = (true_is a, b, rw (a, b, read_from))
      go true a (refuse q n) b = refusal q i (rw (a, b, read_from) at e)
      go false a q b = refusal 13 i (rw (a, read_from) at e)

  read_more : (k p last : ℕ) (c : Bool) (table : List ℤ) (r : Read) → T (whole list stop p) → slip_questions j wide (windows table) (slip_at list p) k ≡ pass →
      ReadOut j wide list k (next p) p (is_conflict (slip_at list p)) (applied table (slip_at list p)) r → ReadOut j wide list (suc k) p last c table r
  unfolding slips_from last_begins log_words replayed conflicting_after
  read_more k p last c table r there e t =
      let x = slip_at list p in
      let xs = slips_from list k (next p) in
      record {
        all_passed = (subst (λ m. Passed j wide (windows table) x m) (sym (slips_from_length list k (next p))) (passed j wide (windows table) x k e), t.all_passed);
        table_left = t.table_left;
        conflict_last = t.conflict_last;
        last_there = t.last_there ∙ ap (λ (m : ℕ). last_begins (p + m) p xs) (sym (slip_at_length list p));
        words = slip_there list stop p there long ∙ ap (λ (w : List ℤ). slip_words x ++ w) t.words ∙ sym (append_assoc (slip_words x) (log_words xs) (drop r.after list));
      }

  -- Reading that refuses no slip.
  pub read_out : (k i p last : ℕ) (c : Bool) (table : List ℤ) → (read_from j wide list stop k i p last c table).check ≡ pass → ReadOut j wide list k p last c table (read_from j wide list stop k i p last c table)
  unfolding read_from slips_from last_begins log_words replayed conflicting_after
  read_out zero i p last c table e = record { all_passed = tt; table_left = refl; conflict_last = refl; last_there = refl; words = refl }
  read_out (suc k) i p last c table e =
      let a = one_read k i p last c table e in
      let x = slip_at list p in
      let t = read_out k (i + 1) (next p) p (is_conflict x) (applied table x) (rw a.2 at e) in
      rw a.2 (read_more k p last c table _ a.0 a.1 t)

-- ---- no plan is lost

-- A bound that is met, stored.
inside_store : {n : ℕ} {W x : Windows} → Inside n W x → (y : ℕ) (k : End) (v : ℤ) → T (meets k v (x y k)) → (z : ℕ) → z < n → (l : End) → T (meets l (store W y k v z l) (x z l))
inside_store {n} {W} {x} i y k v h z m l = go (same_end l k && eqb z y) (λ t. t)
  where
    go : (b : Bool) → (T b → T (same_end l k && eqb z y)) → T (meets l (cond b v (W z l)) (x z l))
    go false f = i.inside z m l
    go true f =
        let a = and_out (same_end l k) (eqb z y) (f tt) in
        rw (eqb→eq z y a.1, same_end_is l k a.0) h

module _ (j : Job) (sane : Sane j) (wide : Windows) (signs : Inside (events j) (widest j) wide) (p : Schedule) (legal : Legal j wide p) where
  -- A plan in the windows is in those that the slip leaves, and the slip is no conflict.
  one_kept : (table : List ℤ) (x : Explanation) (k : ℕ) → length table ≡ 5 * events j → Passed j wide (windows table) x k → Inside (events j) (windows table) (value p)
      → Inside (events j) (windows (applied table x)) (value p) × (is_conflict x ≡ true → ⊥)
  one_kept table x k long q i = go (is_conflict x) refl done
    where
      n : Named j x
      n = named j x q.named

      done : Concludes p x
      done = stands_alone j wide p x sane signs legal q.named (all_true_inside i x.premises n.premises_real q.premises_true) q.given

      go : (b : Bool) → is_conflict x ≡ b → Concludes p x → Inside (events j) (windows (applied table x)) (value p) × (is_conflict x ≡ true → ⊥)
      go true e c = absurd (rw e at c)
      go false e c =
          let y = target_of x in
          let k = own_end (rule_of x) in
          let there : slot y k < length table = rw long (slot_inside (events j) y k n.target_real) in
          let met : T (meets k x.value (value p y k)) = rw e at c in (
            rw e (record { inside = λ z m l. rw (windows_set table y k x.value there z l) (inside_store i y k x.value met z m l) }),
            λ f. let z : true ≡ false = cc in subst T z tt,
          )

  -- A plan in the windows is in those that the slips leave, and none of them is a conflict.
  pub all_kept : (xs : List Explanation) (table : List ℤ) → length table ≡ 5 * events j → AllPassed j wide table xs → Inside (events j) (windows table) (value p)
      → Inside (events j) (windows (replayed table xs)) (value p) × Each (λ (x : Explanation). is_conflict x ≡ true → ⊥) xs
  unfolding replayed
  all_kept [] table long q i = (i, tt)
  all_kept (x ∷ xs) table long q i =
      let a = one_kept table x (length xs) long q.0 i in
      let b = all_kept xs (applied table x) (applied_length table x ∙ long) q.1 a.0 in
      (b.0, (a.1, b.1))

-- ---- standing windows

narrowing_is : (a b : Bool) (v : ℤ) → T (is_narrowing (cond a (cond b idle (narrows v)) fails)) → cond a (cond b idle (narrows v)) fails ≡ narrows v
narrowing_is true true v t = absurd t
narrowing_is true false v t = refl
narrowing_is false b v t = absurd t

-- A slip that passes leaves the windows standing.
pub passed_standing : (j : Job) (wide : Windows) (table : List ℤ) (x : Explanation) (k : ℕ) → length table ≡ 5 * events j → Standing j (windows table) → Passed j wide (windows table) x k → Standing j (windows (applied table x))
passed_standing j wide table x k long std q = go (is_conflict x) refl
  where
    go : (b : Bool) → is_conflict x ≡ b → Standing j (windows (applied table x))
    go true e = rw e std
    go false e =
        let W = windows table in
        let y = target_of x in
        let l = own_end (rule_of x) in
        let n = narrowing_is (meets (opposite l) (W y (opposite l)) x.value) (meets l x.value (W y l)) x.value (q.narrowing e) in
        rw e (standing_narrow j table y l (bound x.value) x.value long (named j x q.named).target_real std n)

pub all_standing : (j : Job) (wide : Windows) (xs : List Explanation) (table : List ℤ) → length table ≡ 5 * events j → Standing j (windows table) → AllPassed j wide table xs → Standing j (windows (replayed table xs))
unfolding replayed
all_standing j wide [] table long std q = std
all_standing j wide (x ∷ xs) table long std q =
    all_standing j wide xs (applied table x) (applied_length table x ∙ long) (passed_standing j wide table x (length xs) long std q.0) q.1
