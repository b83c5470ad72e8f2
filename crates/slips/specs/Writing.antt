-- What a writer does to its buffer.
use Rattle.std.specs.Prelude.{List, ℕ, ◌+◌, ◌≤◌, ℤ, length}
use Rattle.slips.specs.Words.{Appended}
use Rattle.slips.specs.declared.writer.Writer.{Writer}

-- There is room for so many words more.
abbrev pub HasRoom : ℕ → Writer → Type 0
HasRoom k w = w.at + k ≤ length w.words.now

-- Words were appended.
pub record Wrote (words : List ℤ) (v w : Writer) : Type 0 where
  pub appended : Appended v.at words v.words.now w.words.now w.at
