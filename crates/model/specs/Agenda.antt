-- Document 01, "A round": the attempts of a round, one list in the paper's order.
use Rattle.std.specs.Prelude.{List, [], ◌∷◌, ◌++◌, ℕ, zero, suc, ◌+◌, ◌<◌, T, pos}
use Rattle.model.specs.Job.{Job, events, lags, lag_a, lag_b, member, set_size, sets}
use Rattle.model.specs.Rules.{known_rule, rule, subjects, target_fits}

-- Rule r with its subject and its target.
pub record Attempt : Type 0 where
  pub rule : ℕ
  pub subject : ℕ
  pub target : ℕ

abbrev pub try : ℕ → ℕ → ℕ → Attempt
try r e y = record { rule = r; subject = e; target = y }

-- It is one of the job's: a rule, a subject that the rule has, a target that fits.
pub record Valid (j : Job) (r e y : ℕ) : Type 0 where
  pub known : T (known_rule (pos r))
  pub subject : e < subjects (rule r) j
  pub event : y < events j
  pub target : T (target_fits (rule r) j e y)

abbrev pub Allowed : Job → Attempt → Type 0
Allowed j a = Valid j a.rule a.subject a.target

-- So it is for every one of a list.
abbrev pub Each : {A : Type 0} → (A → Type 0) → List A → Type 0
Each P [] = Unit {0}
Each P (a ∷ rest) = P a × Each P rest

-- ---- a round

-- What f has for i, i + 1, .., k of them, in turn.
unfoldable pub each_of : {A : Type 0} → (ℕ → List A) → ℕ → ℕ → List A
each_of f i zero = []
each_of f i (suc k) = f i ++ each_of f (i + 1) k

-- A lag: rule 1, target a, then rule 2, target b.
abbrev pub lag_attempts : Job → ℕ → List Attempt
lag_attempts j g = try 1 g (lag_a j g) ∷ try 2 g (lag_b j g) ∷ []

-- A set: its members as listed, for each rule 17, then 18.
abbrev pub set_attempts : Job → ℕ → List Attempt
set_attempts j g = each_of (λ i. try 17 g (member j g i) ∷ try 18 g (member j g i) ∷ []) 0 (set_size j g)

-- Rule r at e with every target in event order.
abbrev pub target_attempts : Job → ℕ → ℕ → List Attempt
target_attempts j r e = each_of (λ y. try r e y ∷ []) 0 (events j)

-- Three rules in a row at e: r and r + 1 with target e, then r + 2 with every target.
abbrev pub three_attempts : Job → ℕ → ℕ → List Attempt
three_attempts j r e = try r e e ∷ try (r + 1) e e ∷ target_attempts j (r + 2) e

-- Rules 3, 4, 5, 6 .. 14 at e.
abbrev pub event_attempts : Job → ℕ → List Attempt
event_attempts j e =
    three_attempts j 3 e ++ (three_attempts j 6 e ++ (three_attempts j 9 e ++ three_attempts j 12 e))

-- A round: lags in table order; then sets in order; then events in order.
unfoldable pub agenda : Job → List Attempt
agenda j =
    each_of (lag_attempts j) 0 (lags j)
    ++ (each_of (set_attempts j) 0 (sets j) ++ each_of (event_attempts j) 0 (events j))
