-- The reader's answer read as document 01's reply.
use Rattle.std.specs.Prelude.{◌≡◌, true, cond, List, ◌≤◌, T, ℤ, pos, length, Result, Ok, Err}
use Rattle.std.specs.Int.Signed.{le_z}
use Rattle.model.specs.Rounds.{conflict, still_open}
use Rattle.model.specs.Questions.{pass, questions}
use Rattle.model.specs.Planner.{Reply, refused, done, Outcome}
use Rattle.model.specs.Reader.{counted, marked, ends_right, accepted}
use Rattle.tables.specs.Job.{call}
use Rattle.questions.specs.Numbers.{number_of}
use Rattle.questions.specs.declared.Refusal.{Refusal}
use Rattle.checker.specs.declared.Tail.{Tail}
use Rattle.checker.specs.declared.Judgement.{Judgement}
use Rattle.checker.specs.declared.Judgement.TheVariants.{Open, Conflict}

-- Open or conflict; or refused, with number and place.
abbrev pub reply_of : Result Judgement Refusal → Reply
reply_of (Ok Open) = done still_open 0 0 0
reply_of (Ok Conflict) = done conflict 0 0 0
reply_of (Err r) = refused (number_of r.question) r.place

-- Of two tables, the one that a judgement leaves: the narrowed windows if the list is accepted, else those kept.
abbrev pub left_by : Result Judgement Refusal → List ℤ → List ℤ → List ℤ
left_by (Ok v) narrowed kept = narrowed
left_by (Err r) narrowed kept = kept

-- The reply to a list whose slips were all read.
abbrev pub closing_reply : List ℤ → Tail → Reply
closing_reply list t =
    cond (ends_right list t.after t.last) (done (accepted t.conflict) 0 0 0) (refused 19 0)

-- A call whose questions up to 12 passed.
pub record Passing (h : ℤ) (cs table ws gs list : List ℤ) : Type 0 where
  pub asked : questions (call h cs table ws gs) (length list) ≡ pass
  pub trailer : marked list ≡ true

-- A list with room for a trailer and a count that is not negative.
pub record Trailed (list : List ℤ) : Type 0 where
  pub room : 3 ≤ length list
  pub short : length list ≤ 1000000
  pub sign : T (le_z (pos 0) (counted list))

-- The answer and the window table at exit are what a call leaves.
pub record Judges (o : Outcome) (table : List ℤ) (v : Result Judgement Refusal) : Type 0 where
  pub answer : reply_of v ≡ o.reply
  pub windows : table ≡ o.table
