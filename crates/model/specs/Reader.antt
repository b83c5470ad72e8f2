-- Document 01, questions 12 to 19: the slip reader (checker), and its whole outcome from the words at entry.
use Rattle.std.specs.Prelude.{Bool, true, false, not, cond, ◌&&◌, List, [], ◌∷◌, ℕ, zero, suc, ◌+◌, ◌*◌, ◌-◌, eqb, leb, ℤ, pos, nat_abs, length, set}
use Rattle.std.specs.Int.Signed.{le_z}
use Rattle.integers.specs.Range.{eq_z}
use Rattle.model.specs.Job.{End, meets, word, slot, Windows, windows, widest, Job, events}
use Rattle.model.specs.Rules.{Rule, lag_upper, lag_lower, reservoir, level, time, height, Finding, nothing, clash, bound, finding, own_end, effect, failed, subjects, is_narrowing, target_fits, known_rule, total}
use Rattle.model.specs.Slips.{Premise, Explanation, number, slip_length, at, slip_at, premise_end, premise_event, rule_of, target_of, premise_count, subject_of}
use Rattle.model.specs.Rounds.{Verdict, conflict, still_open}
use Rattle.model.specs.Questions.{Check, pass, refuse, ask, is_event, in_range, questions, ◌then◌}
use Rattle.model.specs.Planner.{refused, done, Outcome}

-- ---- 13. A slip read

-- 13. Whole before the trailer (at stop), rule 1..14, 17 or 18, m in 0..256, length right?
unfoldable pub whole : List ℤ → ℕ → ℕ → Bool
whole list stop i =
    leb (i + 7) stop
    && known_rule (at list i)
    && in_range (pos 0) (pos 256) (at list (i + 5))
    && leb (i + slip_length (premise_count list i)) stop
    && eq_z (at list (i + (6 + 3 * premise_count list i))) (pos (slip_length (premise_count list i)))

-- A slip read comes apart as a slip and the place after it, or as a refusal.
pub data Reading : Type 0 where
  slip : Explanation → ℕ → Reading
  cut : Reading

unfoldable pub reading : List ℤ → ℕ → ℕ → Reading
reading list stop i =
    cond (whole list stop i) (slip (slip_at list i) (i + slip_length (premise_count list i))) cut

-- ---- 14. What it names

-- A level rule concludes conflict alone.
abbrev pub has_bound : Rule → Bool
has_bound lag_upper = true
has_bound lag_lower = true
has_bound (reservoir m b level) = false
has_bound (reservoir m b time) = true
has_bound (reservoir m b height) = true
has_bound (total m) = true

-- The kind is the rule's own, or 0 with value 0.
abbrev pub kind_fits : Rule → ℤ → ℤ → Bool
kind_fits r kind value = cond (eq_z kind (pos 0)) (eq_z value (pos 0)) (has_bound r && eq_z kind (pos (number (own_end r))))

unfoldable pub premises_fit : ℕ → List Premise → Bool
premises_fit n [] = true
premises_fit n (f ∷ fs) = is_event n f.event && in_range (pos 1) (pos 4) f.kind && premises_fit n fs

-- 14. Subject, target and fact events exist, fact kinds are 1..4, the target fits the rule, the kind is the rule's own or 0 with value 0.
unfoldable pub names : Job → Explanation → Bool
names j x =
    is_event (subjects (rule_of x) j) x.subject
    && is_event (events j) x.target
    && premises_fit (events j) x.premises
    && target_fits (rule_of x) j (subject_of x) (target_of x)
    && kind_fits (rule_of x) x.kind x.value

-- ---- 15 and 16. Its facts and its rule

-- 15. Every fact is true of the windows as they stand.
unfoldable pub all_true : Windows → List Premise → Bool
all_true W [] = true
all_true W (f ∷ fs) =
    meets (premise_end f) f.value (W (premise_event f) (premise_end f)) && all_true W fs

-- Windows narrowed by a bound; a weaker one changes nothing.
abbrev pub same_end : End → End → Bool
same_end k l = eqb (word k) (word l)

abbrev pub narrow : Windows → ℕ → End → ℤ → Windows
narrow W y k v z l = cond (same_end l k && eqb z y && not (meets k v (W z l))) v (W z l)

unfoldable pub narrowed : Windows → List Premise → Windows
narrowed W [] = W
narrowed W (f ∷ fs) = narrowed (narrow W (premise_event f) (premise_end f) f.value) fs

abbrev pub is_conflict : Explanation → Bool
is_conflict x = eq_z x.kind (pos 0)

-- A finding is the bound v at an end or a stricter one.
abbrev pub as_strict : End → ℤ → Finding → Bool
as_strict k v nothing = false
as_strict k v clash = false
as_strict k v (bound w) = meets k v w

-- The slip's rule on windows gives its conclusion or a stricter one. For kind 0: the level rule gives a conflict, or the bound passes the opposite end.
unfoldable pub gives : Job → Windows → Explanation → Bool
gives j X x =
    let f = finding (rule_of x) j X (subject_of x) (target_of x) in
    cond (is_conflict x)
    (failed (effect (own_end (rule_of x)) X (target_of x) f))
    (as_strict (own_end (rule_of x)) x.value f)

-- ---- 17 and 18. What it does

-- 17, of kinds 1 to 4: a bound narrows the standing window without emptying it. 18, of kind 0: a conflict is the last slip counted (none is left).
abbrev pub fits_there : Windows → Explanation → ℕ → Check
fits_there W x left =
    cond (is_conflict x)
    (ask 18 (eqb left 0))
    (ask 17 (is_narrowing (effect (own_end (rule_of x)) W (target_of x) (bound x.value))))

-- Questions 14 to 18 of one slip on the windows as they stand, with the widest windows; the place is 0 here.
unfoldable pub slip_questions : Job → Windows → Windows → Explanation → ℕ → Check
slip_questions j wide W x left =
    ask 14 (names j x)
    then ask 15 (all_true W x.premises)
    then ask 16 (gives j (narrowed wide x.premises) x)
    then fits_there W x left

-- The window table after the slip.
abbrev pub applied : List ℤ → Explanation → List ℤ
applied table x = cond (is_conflict x) table (set table (slot (target_of x) (own_end (rule_of x))) x.value)

-- ---- all slips

-- What reading leaves: the check, whether a conflict was read, the windows, the place after the last slip, the place where it begins.
pub record Read : Type 0 where
  pub check : Check
  pub conflicting : Bool
  pub table : List ℤ
  pub after : ℕ
  pub last : ℕ

-- At slip i, word p, k slips left to read.
unfoldable pub read_from : Job → Windows → List ℤ → ℕ → ℕ → ℕ → ℕ → ℕ → Bool → List ℤ → Read
read_from j wide list stop zero i p last conflicting table =
    record { check = pass; conflicting = conflicting; table = table; after = p; last = last }
read_from j wide list stop (suc k) i p last conflicting table =
    elim (reading list stop p) [
      | cut ↦ record { check = refuse 13 i; conflicting = conflicting; table = table; after = p; last = last }
      | slip x next ↦ elim (slip_questions j wide (windows table) x k) [
        | refuse q _ ↦ record { check = refuse q i; conflicting = conflicting; table = table; after = p; last = last }
        | pass ↦ read_from j wide list stop k (i + 1) next p (is_conflict x) (applied table x)
      ]
    ]

-- The trailer stands in the last three words.
abbrev pub stop_of : List ℤ → ℕ
stop_of list = length list - 3

abbrev pub counted : List ℤ → ℤ
counted list = at list (stop_of list)

-- 12. The last word is 4207 and the count not negative.
abbrev pub marked : List ℤ → Bool
marked list = eq_z (at list (stop_of list + 2)) (pos 4207) && le_z (pos 0) (counted list)

-- 19. The slips end at the trailer, its second word where the last begins (0 if none).
abbrev pub ends_right : List ℤ → ℕ → ℕ → Bool
ends_right list after last = eqb after (stop_of list) && eq_z (at list (stop_of list + 1)) (pos last)

-- All slips read.
unfoldable pub read_all : Job → List ℤ → Read
read_all j list =
    read_from j (widest j) list (stop_of list) (nat_abs (counted list)) 0 0 0 false j.window_table

-- Conflict exactly when the last slip counted has kind 0, else open.
abbrev pub accepted : Bool → Verdict
accepted true = conflict
accepted false = still_open

abbrev pub judged : Job → List ℤ → Read → Outcome
judged j list r =
    elim (r.check then ask 19 (ends_right list r.after r.last)) [
      | refuse q i ↦ record { reply = refused q i; table = j.window_table; buffer = list }
      | pass ↦ record { reply = done (accepted r.conflicting) 0 0 0; table = r.table; buffer = list }
    ]

-- The job, the list. Questions 1 to 11 (its list is the buffer), 12, then 13 to 18 of each slip in turn, then 19. A refusal changes no lent word.
unfoldable pub check : Job → List ℤ → Outcome
check j list =
    elim (questions j (length list) then ask 12 (marked list)) [
      | refuse number place ↦ record { reply = refused number place; table = j.window_table; buffer = list }
      | pass ↦ judged j list (read_all j list)
    ]
