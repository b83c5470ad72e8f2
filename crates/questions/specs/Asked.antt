-- The answer to a call's questions, read as the papers' number and place; a set's members.
use Rattle.std.specs.Prelude.{◌≡◌, Bool, not, ◌&&◌, List, ℕ, ◌<◌, ℤ, pos, get_or, Result, Ok, Err}
use Rattle.integers.specs.Range.{eq_z}
use Rattle.model.specs.Job.{every, set_begin}
use Rattle.model.specs.Questions as model
use Rattle.model.specs.Questions.{is_event}
use Rattle.sets.specs.declared.Set.{Set}
use Rattle.questions.specs.Numbers.{number_of}
use Rattle.questions.specs.declared.Question.{Question}
use Rattle.questions.specs.declared.Refusal.{Refusal}

-- Passed, or refused with the question's number and the place.
abbrev pub check_of : Result (Unit {0}) Refusal → model.Check
check_of (Ok _) = model.pass
check_of (Err r) = model.refuse (number_of r.question) r.place

-- A question put, as a check: passed, whatever is answered then, or refused with place 0.
abbrev pub put : {A : Type 0} → Result A Question → model.Check
put (Ok _) = model.pass
put (Err q) = model.refuse (number_of q) 0

-- It is set g of the table.
pub record Nth (ws : List ℤ) (g : ℕ) (s : Set) : Type 0 where
  pub table_is : s.table.now ≡ ws
  pub at_is : s.at ≡ set_begin ws g
  pub near : s.at < 100000000000

-- Of a set's members, member i is another than those before it.
abbrev pub is_new : List ℤ → ℕ → Bool
is_new ms i = every i (λ k. not (eq_z (get_or ms k (pos 0)) (get_or ms i (pos 0))))

-- It is an event, of n, and another than those before it.
abbrev pub member_right : ℕ → List ℤ → ℕ → Bool
member_right n ms i = is_event n (get_or ms i (pos 0)) && is_new ms i
