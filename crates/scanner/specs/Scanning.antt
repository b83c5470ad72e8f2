-- The text byte by byte: the code's own state, its step at a byte and its end, as definitions. proofs/Reading.antt shows that they read what Text.antt of `model` says.
use Rattle.std.specs.Prelude.{Bool, true, false, cond, List, ℕ, ◌+◌, ◌*◌, ◌-◌, ltb, leb, ℤ, length, set, take, fold, Option, Some, None}
use Rattle.std.specs.declared.ops.ControlFlow.{ControlFlow}
use Rattle.std.specs.declared.ops.ControlFlow.TheVariants.{Continue, Break}
use Rattle.model.specs.Job.{Job}
use Rattle.model.specs.Text.{Parsed, malformed, blank, minus, digit, signed, fits_word, job_of}
use Rattle.model.specs.Program.{Piece, gave, failed}
use Rattle.scanner.specs.declared.scan.Scan.{Scan}
use Rattle.scanner.specs.declared.scan.Scanner.{Scanner}
use Rattle.scanner.specs.declared.scan.Scan.TheVariants.{Between, Minus, Digits, Malformed}

-- Where the scanner stands after some bytes, and the table that holds the numbers read.
pub record State : Type 0 where
  pub scan : Scan
  pub table : List ℤ

abbrev pub state : Scan → List ℤ → State
state s t = record { scan = s; table = t }

abbrev pub state_of : Scanner → State
state_of s = state s.scan s.table.now

-- A value with a sign as a word, if it is in 32 bits.
abbrev pub sized : Bool → ℕ → Option ℤ
sized negative v = cond (fits_word (signed negative v)) (Some (signed negative v)) None

-- Number n of the text is z, if the table has room for it.
abbrev pub kept : ℕ → ℤ → List ℤ → State
kept n z t = cond (ltb n (length t)) (state (Between (n + 1)) (set t n z)) (state Malformed t)

abbrev pub closed : ℕ → Option ℤ → List ℤ → State
closed n (Some z) t = kept n z t
closed n None t = state Malformed t

-- A token ends: its number is stored.
abbrev pub ended : Scan → List ℤ → State
ended (Between n) t = state (Between n) t
ended (Minus n) t = state Malformed t
ended (Digits n negative v) t = closed n (sized negative v) t
ended Malformed t = state Malformed t

-- A token begins with '-'.
abbrev pub negated : Scan → Scan
negated (Between n) = Minus n
negated (Minus n) = Malformed
negated (Digits n negative v) = Malformed
negated Malformed = Malformed

-- One digit more. A value above 2³¹ fits with neither sign, and further digits only raise it.
abbrev pub valued : ℕ → Bool → ℕ → Scan
valued n negative v = cond (leb v 2147483648) (Digits n negative v) Malformed

abbrev pub grown : Scan → ℕ → Scan
grown (Between n) d = valued n false d
grown (Minus n) d = valued n true d
grown (Digits n negative v) d = valued n negative (10 * v + d)
grown Malformed d = Malformed

unfoldable pub step : State → ℕ → State
step s b =
    cond (blank b) (ended s.scan s.table)
    (state (cond (minus b) (negated s.scan) (cond (digit b) (grown s.scan (b - 48)) Malformed)) s.table)

-- All bytes of a piece.
abbrev pub fed : State → List ℕ → State
fed s bytes = fold step s bytes

-- The end of the text ends its last token.
abbrev pub read : State → Parsed (Job × ℤ)
read s = go s.scan
  where
    go : Scan → Parsed (Job × ℤ)
    go (Between n) = job_of (take n s.table)
    go (Minus n) = malformed
    go (Digits n negative v) = malformed
    go Malformed = malformed

abbrev pub finished : State → Parsed (Job × ℤ)
finished s = read (ended s.scan s.table)

-- ---- pieces

-- What a call of `read` gave, or that it failed.
abbrev pub piece_of : Option (List ℕ) → Piece
piece_of (Some bytes) = gave bytes
piece_of None = failed

-- One piece more; where the call failed, the text is not known to its end.
abbrev pub taken : State → Piece → State
taken s (gave bytes) = fed s bytes
taken s failed = state Malformed s.table

-- More may come.
abbrev pub goes_on : Piece → Bool
goes_on (gave bytes) = ltb 0 (length bytes)
goes_on failed = false

-- Whether the text goes on behind a piece.
abbrev pub has_more : ControlFlow (Unit {0}) (Unit {0}) → Bool
has_more (Continue _) = true
has_more (Break _) = false
