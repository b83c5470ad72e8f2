-- One slip after another, as the reader takes them in turn.
use Rattle.std.specs.Prelude.{◌≡◌, List, ℕ, ◌+◌, ◌≤◌, ◌<◌, ℤ, Result, Ok, Err}
use Rattle.model.specs.Job as model
use Rattle.model.specs.Job.{Windows, sent}
use Rattle.model.specs.Standing.{Standing}
use Rattle.model.specs.Slips.{slip_length, premise_count, slip_at}
use Rattle.model.specs.Questions.{Check, pass, refuse, ◌then◌, ask}
use Rattle.model.specs.Reader.{Read, whole, slip_questions, is_conflict, applied}
use Rattle.tables.specs.Board.{board, table_of, Loaded}
use Rattle.judging.specs.Ready.{job_of, Sits}
use Rattle.judging.specs.Wide.{Wide}
use Rattle.judging.specs.declared.Call.{Call}
use Rattle.judging.specs.declared.Named.{Named}
use Rattle.questions.specs.Numbers.{number_of}
use Rattle.questions.specs.declared.Question.{Question}
use Rattle.questions.specs.declared.Refusal.{Refusal}
use Rattle.checker.specs.declared.Tail.{Tail}

-- ---- one slip

-- A slip whose narrowing can be stored.
pub record Applies (n : ℕ) (s : Named) : Type 0 where
  pub few : n ≤ 64
  pub event : s.target < n

-- Questions 13 to 18 of the slip at word p; the place is 0 here.
abbrev pub slip_asked : model.Job → Windows → Windows → List ℤ → ℕ → ℕ → ℕ → Check
slip_asked j wide W list stop p left =
    ask 13 (whole list stop p) then slip_questions j wide W (slip_at list p) left

-- What a step leaves of it on the board: a "no", or the slip's narrowing made.
abbrev pub Stepped : Call → List ℤ → ℕ → ℕ → ℕ → List ℤ → List ℤ → Result Tail Question → Type 0
Stepped c list stop p left b b' (Err q) = slip_asked (job_of c) (board c.wide.now.words) (board b) list stop p left ≡ refuse (number_of q) 0
Stepped c list stop p left b b' (Ok t) =
    (slip_asked (job_of c) (board c.wide.now.words) (board b) list stop p left ≡ pass)
    × (t.after ≡ p + slip_length (premise_count list p))
    × (t.last ≡ p)
    × (t.conflict ≡ is_conflict (slip_at list p))
    × (table_of c.job.events c.table.now b' ≡ applied (table_of c.job.events c.table.now b) (slip_at list p))
    × (t.after ≤ stop)

-- ---- all slips

-- Its questions before 12 passed, its windows are on the board b, and the widest on the wide board.
pub record Called (c : Call) (b : List ℤ) : Type 0 where
  pub seated : Sits c
  pub standing : Standing (job_of c) (sent (job_of c))
  pub loaded : Loaded c.job.events c.table.now b
  pub opened : Wide c.job.events c.job.horizon.0 (board b) c.wide.now.words

-- What reading leaves: refused, or all read with the windows on the board.
abbrev pub Ends : Call → Read → List ℤ → ℕ → Result Tail Refusal → Type 0
Ends c r b' stop (Err k) = r.check ≡ refuse (number_of k.question) k.place
Ends c r b' stop (Ok t) =
    (r
    ≡ record {
      check = pass;
      conflicting = t.conflict;
      table = table_of c.job.events c.table.now b';
      after = t.after;
      last = t.last;
    })
    × (t.last ≤ stop)
