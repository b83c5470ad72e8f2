-- The slips that the planner writes, as a list: each by a rule on the windows as they then stand; the window table after them; where a conflict may stand.
-- Assumes nothing.
use mathlib.Core.Path.{◌≡◌, refl, sym, ◌∙◌}
use mathlib.Core.Bool.{Bool, true, false}
use mathlib.Core.List.{List, [], ◌∷◌, ◌++◌}
use Prim.Native.Nat.{ℕ, ◌*◌}
use native.Mathlib.Omega.{arith}
use lib.Dec.{T}
use lib.IntN.{ℤ, pos}
use lib.ListN.{length, set, length-set}
use Rattle.integers.specs.Range.{eq_z}
use Rattle.model.specs.Job.{End, t_min, t_max, h_min, h_max, slot, Windows, windows, Job, events}
use Rattle.model.specs.Standing.{Sane, Standing}
use Rattle.model.specs.Rules.{rule, own_end, finding, Effect, idle, narrows, fails, effect, known_rule}
use Rattle.model.specs.Facts.{quotes, quoted}
use Rattle.model.specs.Slips.{number, Explanation, explanation}
use Rattle.model.specs.Agenda.{Valid}
use Rattle.model.specs.Reader.{is_conflict, applied}
use Rattle.model.proofs.Words.{premise_list_length, Formed}
use Rattle.model.proofs.Table.{standing_narrow}

-- ---- one slip

-- The slip x is the one that rule r, subject e and target y have on a window table.
pub record Wrote (j : Job) (table : List ℤ) (x : Explanation) : Type 0 where
  pub r : ℕ
  pub e : ℕ
  pub y : ℕ
  pub outcome : Effect
  pub valid : Valid j r e y
  pub outcome_is : outcome ≡ effect (own_end (rule r)) (windows table) y (finding (rule r) j (windows table) e y)
  pub busy : outcome ≡ idle → ⊥
  pub slip_is : x ≡ explanation r j (windows table) e y outcome

-- The planner's slips are formed: a rule, at most 256 facts.
pub formed_explanation : (j : Job) → Sane j → (W : Windows) (r e y : ℕ) (x : Effect) → T (known_rule (pos r)) → Formed (explanation r j W e y x)
formed_explanation j sane W r e y x known =
    record {
      rule_known = known;
      few_premises = omega (arith, sane.few_events, premise_list_length (events j) (quotes (rule r) j W e y x) (quoted (rule r) j W e y x));
    }

own_kind : (k : End) → eq_z (pos (number k)) (pos 0) ≡ false
own_kind t_min = refl
own_kind t_max = refl
own_kind h_min = refl
own_kind h_max = refl

-- A narrowing's slip is no conflict, and changes the table as the planner does.
pub narrows_kind : (j : Job) (W : Windows) (r e y : ℕ) (v : ℤ) → is_conflict (explanation r j W e y (narrows v)) ≡ false
narrows_kind j W r e y v = own_kind (own_end (rule r))

pub narrows_applied : (j : Job) (W : Windows) (r e y : ℕ) (v : ℤ) (table : List ℤ) → applied table (explanation r j W e y (narrows v)) ≡ set table (slot y (own_end (rule r))) v
narrows_applied j W r e y v table = rw (own_kind (own_end (rule r)))

-- ---- a list of slips

-- The window table after the slips.
unfoldable pub replayed : List ℤ → List Explanation → List ℤ
replayed table [] = table
replayed table (x ∷ xs) = replayed (applied table x) xs

-- Each slip is the planner's on the table after those before it.
abbrev pub Written : Job → List ℤ → List Explanation → Type 0
Written j table [] = Unit {0}
Written j table (x ∷ xs) = Wrote j table x × Written j (applied table x) xs

-- No slip is a conflict.
abbrev pub Narrowings : List Explanation → Type 0
Narrowings [] = Unit {0}
Narrowings (x ∷ xs) = (is_conflict x ≡ false) × Narrowings xs

-- A conflict has no slip after it.
abbrev pub ConflictLast : List Explanation → Type 0
ConflictLast [] = Unit {0}
ConflictLast (x ∷ xs) = (is_conflict x ≡ true → length xs ≡ 0) × ConflictLast xs

-- Is the last slip a conflict; c if there is none.
unfoldable pub conflicting_after : Bool → List Explanation → Bool
conflicting_after c [] = c
conflicting_after c (x ∷ xs) = conflicting_after (is_conflict x) xs

-- One slip more at the end.
pub replayed_snoc : (xs : List Explanation) (x : Explanation) (table : List ℤ) → replayed table (xs ++ (x ∷ [])) ≡ applied (replayed table xs) x
unfolding replayed
replayed_snoc [] x table = refl
replayed_snoc (z ∷ xs) x table = replayed_snoc xs x (applied table z)

pub written_snoc : (j : Job) (xs : List Explanation) (x : Explanation) (table : List ℤ) → Written j table xs → Wrote j (replayed table xs) x → Written j table (xs ++ (x ∷ []))
unfolding replayed
written_snoc j [] x table w o = (o, tt)
written_snoc j (z ∷ xs) x table w o = (w.0, written_snoc j xs x (applied table z) w.1 o)

pub narrowings_snoc : (xs : List Explanation) (x : Explanation) → Narrowings xs → is_conflict x ≡ false → Narrowings (xs ++ (x ∷ []))
narrowings_snoc [] x n e = (e, tt)
narrowings_snoc (z ∷ xs) x n e = (n.0, narrowings_snoc xs x n.1 e)

pub conflict_last_snoc : (xs : List Explanation) (x : Explanation) → Narrowings xs → ConflictLast (xs ++ (x ∷ []))
conflict_last_snoc [] x n = (λ _. refl, tt)
conflict_last_snoc (z ∷ xs) x n = (λ c. absurd (let e : ◌≡◌ {A = ℕ} 0 1 = cc n.0 in omega arith), conflict_last_snoc xs x n.1)

pub conflicting_snoc : (xs : List Explanation) (x : Explanation) (c : Bool) → conflicting_after c (xs ++ (x ∷ [])) ≡ is_conflict x
unfolding conflicting_after
conflicting_snoc [] x c = refl
conflicting_snoc (z ∷ xs) x c = conflicting_snoc xs x (is_conflict z)

-- Without a conflict none is said.
pub narrowings_open : (xs : List Explanation) → Narrowings xs → conflicting_after false xs ≡ false
unfolding conflicting_after
narrowings_open [] n = refl
narrowings_open (x ∷ xs) n = rw n.0 (narrowings_open xs n.1)

-- ---- the windows after a slip

-- A slip of the planner keeps the table whole and its windows standing.
pub wrote_standing : (j : Job) (table : List ℤ) (x : Explanation) → length table ≡ 5 * events j → Standing j (windows table) → Wrote j table x
    → (length (applied table x) ≡ 5 * events j) × Standing j (windows (applied table x))
wrote_standing j table x long std w = rw w.slip_is (go w.outcome w.outcome_is w.busy)
  where
    go : (o : Effect) → o ≡ effect (own_end (rule w.r)) (windows table) w.y (finding (rule w.r) j (windows table) w.e w.y) → (o ≡ idle → ⊥)
        → (length (applied table (explanation w.r j (windows table) w.e w.y o)) ≡ 5 * events j)
        × Standing j (windows (applied table (explanation w.r j (windows table) w.e w.y o)))
    go idle is busy = absurd (busy refl)
    go (narrows v) is busy =
        let k = own_end (rule w.r) in
        let f = finding (rule w.r) j (windows table) w.e w.y in
        rw (narrows_applied j (windows table) w.r w.e w.y v table)
        (length-set table (slot w.y k) v ∙ long, standing_narrow j table w.y k f v long w.valid.event std (sym is))
    go fails is busy = (long, std)
