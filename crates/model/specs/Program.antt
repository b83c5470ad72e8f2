-- Document 01, "The program reads .. It prints ..": the whole program, text in, text out; and its text as `read` gives it, in pieces.
use Rattle.std.specs.Prelude.{◌≡◌, List, [], ◌∷◌, ◌++◌, ◌⊎◌, ℕ, ◌-◌, ◌^◌, ◌≤◌, ℤ, pos, length, replicate}
use Rattle.model.specs.Job.{Job}
use Rattle.model.specs.Planner.{refused, plan}
use Rattle.model.specs.Text.{Parsed, parsed, malformed, on, job_text}
use Rattle.model.specs.Print.{printed}

-- Its slip room is 16,000 words.
unfoldable pub slip_room : List ℤ
slip_room = replicate 16000 (pos 0)

-- The planner's reply and the windows as they then stand; text otherwise formed is 20, place 0.
abbrev pub answered : Parsed (Job × ℤ) → List ℕ
answered (parsed x) =
    let o = plan x.0 x.1 slip_room in
    printed o.reply o.table
answered malformed = printed (refused 20 0) []

-- What the program prints of a text.
abbrev pub program : List ℕ → List ℕ
program text = answered (job_text text)

-- ---- standard input

-- What a call of `read` gives: bytes, none at the end of the text; or it fails.
pub data Piece : Type 0 where
  gave : List ℕ → Piece
  failed : Piece

-- The text of all pieces up to its end. One that fails, or that does not come, leaves a text that is not known to its end.
unfoldable pub text_of : List Piece → Parsed (List ℕ)
text_of [] = malformed
text_of (failed ∷ pieces) = malformed
text_of (gave [] ∷ pieces) = parsed []
text_of (gave (b ∷ bytes) ∷ pieces) = on (text_of pieces) (λ text. parsed ((b ∷ bytes) ++ text))

-- Pieces asked for one after the other, while bytes come.
pub data Ended : List Piece → Type 0 where
  came_to_end : Ended (gave [] ∷ [])
  broke_off : Ended (failed ∷ [])
  went_on : {b : ℕ} {bytes : List ℕ} {pieces : List Piece} → Ended pieces → Ended (gave (b ∷ bytes) ∷ pieces)

-- These bytes are what the program prints of pieces that `read` gave, asked for to the end, or 2⁶⁴ − 1 of them.
pub record Told (out : List ℕ) : Type 0 where
  pub pieces : List Piece
  pub all : Ended pieces ⊎ (2 ^ 64 - 1 ≤ length pieces)
  pub prints : out ≡ answered (on (text_of pieces) job_text)
