-- An attempt of the planner: those of the agenda are the job's, what each does; what every attempt keeps, a round keeps.
-- Assumes nothing.
use mathlib.Core.Path.{◌≡◌, refl, sym, ap, ◌∙◌}
use mathlib.Core.Bool.{Bool, true, false, cond}
use mathlib.Core.List.{List, [], ◌∷◌, ◌++◌, append-nil, append_assoc}
use Prim.Native.Nat.{ℕ, zero, suc, ◌+◌, ◌-◌, ◌≤◌, ◌<◌}
use native.Mathlib.Nat.{zero-add, add-zero, suc-add}
use native.Mathlib.Omega.{arith}
use lib.Dec.{T, eqb_refl, eqb}
use lib.IntN.{ℤ, pos}
use lib.ListN.{length, set}
use Rattle.model.specs.Job.{slot, windows, Job, lags, lag_a, lag_b, events, sets, set_size, member}
use Rattle.model.specs.Standing.{Sane}
use Rattle.model.specs.Rules.{reservoir, level, time, height, rule, own_end, finding, Effect, idle, narrows, fails, effect, known_rule}
use Rattle.model.specs.Slips.{Explanation, slip_words, explanation}
use Rattle.model.specs.Agenda.{Attempt, try, each_of, lag_attempts, three_attempts, event_attempts, agenda, Each, Allowed, Valid, set_attempts}
use Rattle.model.specs.Rounds.{conflict, stopped, Status, running, ended, State, fits, acted, attempt, round, made}
use Rattle.model.proofs.Premises.{any_in}

-- ---- the agenda

pub each_append : {A : Type 0} (P : A → Type 0) (xs ys : List A) → Each P xs → Each P ys → Each P (xs ++ ys)
each_append P [] ys p q = q
each_append P (x ∷ xs) ys p q = (p.0, each_append P xs ys p.1 q)

pub each_of_range : {A : Type 0} (P : A → Type 0) (f : ℕ → List A) (i k : ℕ) → ((y : ℕ) → i ≤ y → y < i + k → Each P (f y)) → Each P (each_of f i k)
unfolding each_of
each_of_range P f i zero h = tt
each_of_range P f i (suc k) h =
    each_append P (f i) (each_of f (i + 1) k) (h i (omega arith) (omega arith)) (each_of_range P f (i + 1) k (λ y p q. h y (omega arith) (omega arith)))

pub each_of_all : {A : Type 0} (P : A → Type 0) (f : ℕ → List A) (n i k : ℕ) → ((y : ℕ) → y < n → Each P (f y)) → i + k ≤ n → Each P (each_of f i k)
each_of_all P f n i k h l = each_of_range P f i k (λ y p q. h y (omega arith))

module _ (j : Job) (sane : Sane j) where
  lag_valid : (g : ℕ) → g < lags j → Each (Allowed j) (lag_attempts j g)
  lag_valid g l = (
    record { known = tt; subject = l; event = (sane.lag g l).real_a; target = eqb_refl (lag_a j g) },
    (record { known = tt; subject = l; event = (sane.lag g l).real_b; target = eqb_refl (lag_b j g) }, tt),
  )

  set_valid : (g : ℕ) → g < sets j → Each (Allowed j) (set_attempts j g)
  set_valid g l =
      each_of_all (Allowed j) (λ i. try 17 g (member j g i) ∷ try 18 g (member j g i) ∷ []) (set_size j g) 0 (set_size j g)
      (λ i n.
      let here = any_in (set_size j g) i (λ k. eqb (member j g k) (member j g i)) n (eqb_refl (member j g i)) in
      (record { known = tt; subject = l; event = (sane.set_sane g l).member_real i n; target = here }, (record { known = tt; subject = l; event = (sane.set_sane g l).member_real i n; target = here }, tt)))
      (omega arith)

  -- Rules r, r + 1 and r + 2 are the level's, the time's and the amount's of one side and switch.
  three_valid : (r : ℕ) (m b : Bool) → T (known_rule (pos r)) → T (known_rule (pos (r + 1))) → T (known_rule (pos (r + 2))) → rule r ≡ reservoir m b level → rule (r + 1) ≡ reservoir m b time → rule (r + 2) ≡ reservoir m b height →
      (e : ℕ) → e < events j → Each (Allowed j) (three_attempts j r e)
  three_valid r m b k1 k2 k3 f g h e l = (
    record { known = k1; subject = rw f l; event = l; target = rw f (eqb_refl e) },
    (
      record { known = k2; subject = rw g l; event = l; target = rw g (eqb_refl e) },
      each_of_all (Allowed j) (λ y. try (r + 2) e y ∷ []) (events j) 0 (events j) (λ y n. (record { known = k3; subject = rw h l; event = n; target = rw h tt }, tt)) (omega arith),
    ),
  )

  event_valid : (e : ℕ) → e < events j → Each (Allowed j) (event_attempts j e)
  event_valid e l =
      each_append (Allowed j) (three_attempts j 3 e) _ (three_valid 3 false true tt tt tt refl refl refl e l)
      (each_append (Allowed j) (three_attempts j 6 e) _ (three_valid 6 true true tt tt tt refl refl refl e l)
      (each_append (Allowed j) (three_attempts j 9 e) _ (three_valid 9 false false tt tt tt refl refl refl e l)
      (three_valid 12 true false tt tt tt refl refl refl e l)))

  -- Every attempt of a round is one of the job's.
  pub agenda_valid : Each (Allowed j) (agenda j)
  unfolding agenda
  agenda_valid =
      each_append (Allowed j) (each_of (lag_attempts j) 0 (lags j)) _ (each_of_all (Allowed j) (lag_attempts j) (lags j) 0 (lags j) lag_valid (omega arith))
      (each_append (Allowed j) (each_of (set_attempts j) 0 (sets j)) _ (each_of_all (Allowed j) (set_attempts j) (sets j) 0 (sets j) set_valid (omega arith))
      (each_of_all (Allowed j) (event_attempts j) (events j) 0 (events j) event_valid (omega arith)))

-- ---- attempts in turn

pub made_append : (room : ℕ) (j : Job) (xs ys : List Attempt) (s : State) → made room j (xs ++ ys) s ≡ made room j ys (made room j xs s)
unfolding made
made_append room j [] ys s = refl
made_append room j (x ∷ xs) ys s = made_append room j xs ys (attempt room x.rule j x.subject x.target s)

-- What f has for k + l in turn is what it has for the first k and then for the l behind them.
pub each_of_append : {A : Type 0} (f : ℕ → List A) (i k l : ℕ) → each_of f i (k + l) ≡ each_of f i k ++ each_of f (i + k) l
unfolding each_of
each_of_append f i zero l = rw (zero-add l, add-zero i)
each_of_append f i (suc k) l =
    let e : (i + 1) + k ≡ i + suc k = omega arith in
    rw (suc-add k l)
    (ap (λ xs. f i ++ xs) (each_of_append f (i + 1) k l ∙ ap (λ z. each_of f (i + 1) k ++ each_of f z l) e) ∙ sym (append_assoc (f i) (each_of f (i + 1) k) (each_of f (i + suc k) l)))

module _ (room : ℕ) (j : Job) (f : ℕ → List Attempt) where
  one_more : (i k : ℕ) (s : State) → made room j (each_of f i (k + 1)) s ≡ made room j (f (i + k)) (made room j (each_of f i k) s)
  unfolding each_of
  one_more i k s =
      ap (λ xs. made room j xs s) (each_of_append f i k 1 ∙ ap (λ xs. each_of f i k ++ xs) (append-nil (f (i + k))))
      ∙ made_append room j (each_of f i k) (f (i + k)) s

  -- A loop from 0 on: what was made so far, then what f has for i.
  pub made_more : (i : ℕ) (s : State) → made room j (each_of f 0 (i + 1)) s ≡ made room j (f i) (made room j (each_of f 0 i) s)
  made_more i s =
      let e : 0 + i ≡ i = omega arith in
      one_more 0 i s ∙ ap (λ z. made room j (f z) (made room j (each_of f 0 i) s)) e

  -- A loop that begins later.
  pub made_next : (from i : ℕ) (s : State) → from ≤ i → made room j (each_of f from ((i + 1) - from)) s ≡ made room j (f i) (made room j (each_of f from (i - from)) s)
  made_next from i s l =
      let c : (i + 1) - from ≡ (i - from) + 1 = omega arith in
      let e : from + (i - from) ≡ i = omega arith in
      ap (λ c. made room j (each_of f from c) s) c ∙ one_more from (i - from) s ∙ ap (λ z. made room j (f z) (made room j (each_of f from (i - from)) s)) e

-- A round's three loops.
pub round_loops : (room : ℕ) (j : Job) (s : State) →
    round room j s ≡ made room j (each_of (event_attempts j) 0 (events j)) (made room j (each_of (set_attempts j) 0 (sets j)) (made room j (each_of (lag_attempts j) 0 (lags j)) s))
unfolding agenda
round_loops room j s =
    made_append room j (each_of (lag_attempts j) 0 (lags j)) _ s
    ∙ made_append room j (each_of (set_attempts j) 0 (sets j)) (each_of (event_attempts j) 0 (events j)) (made room j (each_of (lag_attempts j) 0 (lags j)) s)

-- What every attempt keeps, a round keeps.
module _ (room : ℕ) (j : Job) (P : State → Type 0) (attempt-keeps : (r e y : ℕ) → Valid j r e y → (s : State) → P s → P (attempt room r j e y s)) where
  pub made_keeps : (xs : List Attempt) → Each (Allowed j) xs → (s : State) → P s → P (made room j xs s)
  unfolding made
  made_keeps [] v s p = p
  made_keeps (x ∷ xs) v s p = made_keeps xs v.1 (attempt room x.rule j x.subject x.target s) (attempt-keeps x.rule x.subject x.target v.0 s p)

  pub round_keeps : Sane j → (s : State) → P s → P (round room j s)
  round_keeps sane s p = made_keeps (agenda j) (agenda_valid j sane) s p

-- ---- what an attempt does

-- The effect of an attempt on a state, and the slip for an effect.
abbrev pub effect_on : ℕ → Job → ℕ → ℕ → State → Effect
effect_on r j e y s = effect (own_end (rule r)) (windows s.table) y (finding (rule r) j (windows s.table) e y)

abbrev pub slip_on : ℕ → Job → ℕ → ℕ → State → Effect → Explanation
slip_on r j e y s x = explanation r j (windows s.table) e y x

-- The states with one slip more, and stopped.
abbrev pub with_slip : State → Explanation → List ℤ → Status → State
with_slip s x table status = record { table = table; log = s.log ++ slip_words x; slips = s.slips + 1; last = length s.log; status = status }

abbrev pub with_stop : State → State
with_stop s = record { table = s.table; log = s.log; slips = s.slips; last = s.last; status = ended stopped }

-- What an attempt leaves of the state s.
pub data Step (room r : ℕ) (j : Job) (e y : ℕ) (s : State) : State → Type 0 where
  same : Step room r j e y s s
  stops : s.status ≡ running → Step room r j e y s (with_stop s)
  narrowed : (v : ℤ) → s.status ≡ running → effect_on r j e y s ≡ narrows v → T (fits room s.log (slip_words (slip_on r j e y s (narrows v))))
      → Step room r j e y s (with_slip s (slip_on r j e y s (narrows v)) (set s.table (slot y (own_end (rule r))) v) running)
  failing : s.status ≡ running → effect_on r j e y s ≡ fails → T (fits room s.log (slip_words (slip_on r j e y s fails)))
      → Step room r j e y s (with_slip s (slip_on r j e y s fails) s.table (ended conflict))

module _ (room r : ℕ) (j : Job) (e y : ℕ) (s : State) where
  by_fit : (b : Bool) (t : State) → s.status ≡ running → (T b → Step room r j e y s t) → Step room r j e y s (cond b t (with_stop s))
  by_fit true t on f = f tt
  by_fit false t on f = stops on

  by_effect : (x : Effect) → s.status ≡ running → effect_on r j e y s ≡ x → Step room r j e y s (acted room r j e y x s)
  unfolding acted
  by_effect idle on q = same
  by_effect (narrows v) on q = by_fit (fits room s.log (slip_words (slip_on r j e y s (narrows v)))) _ on (narrowed v on q)
  by_effect fails on q = by_fit (fits room s.log (slip_words (slip_on r j e y s fails))) _ on (failing on q)

  pub attempt_step : Step room r j e y s (attempt room r j e y s)
  unfolding attempt
  attempt_step = go s.status refl
    where
      go : (x : Status) → s.status ≡ x → Step room r j e y s (elim x [ running ↦ acted room r j e y (effect_on r j e y s) s | ended v ↦ s ])
      go running on = by_effect (effect_on r j e y s) on refl
      go (ended v) off = same
