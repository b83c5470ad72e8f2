-- The facts of a slip as the code holds them.
use Rattle.std.specs.Prelude.{Bool, cond, List, [], ◌∷◌, ◌++◌, ℕ, leb, ℤ, pos, Option, Some, None}
use Rattle.model.specs.Job.{End, t_min, t_max, h_min, h_max}
use Rattle.model.specs.Standing.{Ranged}
use Rattle.model.specs.Slips.{Premise, Explanation, number, quote, premise_list}
use Rattle.tables.specs.Board.{board}
use Rattle.tables.specs.Ends.{end_of}
use Rattle.tables.specs.declared.ends.Word.{Word}
use Rattle.facts.specs.Quotes.{cites_of, says_of, Known}
use Rattle.facts.specs.declared.LagCiting.{LagCiting}
use Rattle.slips.specs.Slip.{slip_of, Writes}
use Rattle.slips.specs.declared.Header.{Header}
use Rattle.slips.specs.declared.writing.EventFacts.{EventFacts}
use Rattle.slips.specs.declared.writing.Quoting.{Quoting}

-- ---- of one event

-- One fact or none.
abbrev pub told : ℕ → End → Option Word → List Premise
told y k (Some w) = record { event = pos y; kind = pos (number k); value = w.0 } ∷ []
told y k None = []

-- Those of event z.
abbrev pub told_by : ℕ → EventFacts → List Premise
told_by z f = told z t_min f.lower ++ (told z t_max f.upper ++ told z (end_of f.end) f.height)

-- Those of event z, where c says which are quoted and v what is said of them.
abbrev pub premises_of : (ℕ → End → Bool) → (ℕ → End → ℤ) → ℕ → List Premise
premises_of c v z =
    quote (c z t_min) z t_min (v z t_min)
    ++ (quote (c z t_max) z t_max (v z t_max)
    ++ (quote (c z h_min) z h_min (v z h_min) ++ quote (c z h_max) z h_max (v z h_max)))

-- Those of a lag's slip, by event.
abbrev pub told_by_lag : LagCiting → List Premise
told_by_lag c =
    cond (leb c.a c.b)
    (told c.a t_min c.from ++ told c.b t_max c.to)
    (told c.b t_max c.to ++ told c.a t_min c.from)

-- ---- of a slip

abbrev pub quoted_by : Quoting → List Premise
quoted_by q = premise_list q.events (cites_of q.cited (board q.board.now.words)) (says_of q.cited (board q.board.now.words))

-- They can be written: the windows in range, a lag's events among those of the board.
pub record Quotable (q : Quoting) : Type 0 where
  pub ranged : Ranged q.events (board q.board.now.words)
  pub known : Known q.events q.cited

-- The slip with a header and these facts; it can be written.
abbrev pub written_by : Header → Quoting → Explanation
written_by h q = slip_of q.events (board q.board.now.words) q.cited h.number (end_of h.end) h.subject h.target h.effect

abbrev pub Writable : Header → Quoting → Type 0
Writable h q = Writes q.events (board q.board.now.words) q.cited h.number h.subject h.target
