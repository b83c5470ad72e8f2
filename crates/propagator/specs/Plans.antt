-- The planner's answer read as document 01's reply.
use Rattle.std.specs.Prelude.{◌≡◌, List, ℤ, Result, Ok, Err}
use Rattle.model.specs.Planner.{Reply, refused, done, Outcome}
use Rattle.questions.specs.Numbers.{number_of}
use Rattle.questions.specs.declared.Refusal.{Refusal}
use Rattle.propagator.specs.Runs.{verdict_of}
use Rattle.propagator.specs.declared.Answer.{Answer}

-- The verdict with slips, rounds and length; or refused, with number and place.
abbrev pub reply_of : Result Answer Refusal → Reply
reply_of (Ok a) = done (verdict_of a.verdict) a.slips a.rounds a.length
reply_of (Err r) = refused (number_of r.question) r.place

-- An answer and both tables at exit are what a call leaves.
pub record Outcomes (o : Outcome) (table buffer : List ℤ) (r : Result Answer Refusal) : Type 0 where
  pub answer : reply_of r ≡ o.reply
  pub windows : table ≡ o.table
  pub slips : buffer ≡ o.buffer
