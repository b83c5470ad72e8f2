-- What the program's reading of standard input comes to, whatever `read` gives.
use Rattle.std.specs.Prelude.{◌≡◌, List, [], ◌⊎◌, ℕ, ◌-◌, ◌^◌, ◌≤◌, length, Option, IfSome}
use Rattle.std.specs.Io.KnownBytes.{Consumes, Keeps, Appends, IsAtEnd}
use Rattle.model.specs.Text.{parsed, on, job_text}
use Rattle.model.specs.Program.{Piece, gave, failed, text_of, Ended, answered}
use Rattle.std.specs.declared.ops.ControlFlow.{ControlFlow}
use Rattle.scanner.specs.Scanning.{State, finished, taken, goes_on, has_more}

-- One piece that `read` gave was taken.
pub record Took (s : State) (r : ControlFlow (Unit {0}) (Unit {0})) (s' : State) : Type 0 where
  pub piece : Piece
  pub scan : s' ≡ taken s piece
  pub more : has_more r ≡ goes_on piece

-- All pieces were taken, and the scan over the table says what their text says.
pub record Heard (s : State) : Type 0 where
  pub pieces : List Piece
  pub all : Ended pieces ⊎ (2 ^ 64 - 1 ≤ length pieces)
  pub says : finished s ≡ on (text_of pieces) job_text

-- ---- a reader whose bytes are known

-- A piece that `read` gave is the first of the bytes that the reader is known to have left, and is empty only where none are left. A call that failed leaves them all.
abbrev pub Gives : Option (List ℕ) → Option (List ℕ) → Piece → Type 0
Gives before after (gave bytes) = Consumes before after bytes × (bytes ≡ [] → IsAtEnd after)
Gives before after failed = Keeps before after

-- The piece taken is what the reader had next.
pub record TookNext (before after : Option (List ℕ)) (s : State) (r : ControlFlow (Unit {0}) (Unit {0})) (s' : State) : Type 0 where
  pub took : Took s r s'
  pub gives : Gives before after took.piece

-- The text of these pieces, if it is known to its end, is all that the reader was known to have left before the first.
abbrev pub Whole : Option (List ℕ) → List Piece → Type 0
Whole before pieces = IfSome before (λ bytes. (text : List ℕ) → text_of pieces ≡ parsed text → text ≡ bytes)

-- The pieces taken are all that the reader had.
pub record HeardAll (before : Option (List ℕ)) (s : State) : Type 0 where
  pub heard : Heard s
  pub whole : Whole before heard.pieces

-- A writer took what the program prints of all pieces of a reader.
pub record Wrote (left before after : Option (List ℕ)) : Type 0 where
  pub pieces : List Piece
  pub all : Ended pieces ⊎ (2 ^ 64 - 1 ≤ length pieces)
  pub whole : Whole left pieces
  pub prints : Appends before after (answered (on (text_of pieces) job_text))
