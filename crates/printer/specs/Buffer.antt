-- Bytes in a lent buffer, as the code puts them.
use Rattle.std.specs.Prelude.{◌≡◌, List, ◌++◌, ℕ, ◌+◌, ◌≤◌, length, take}
use Rattle.printer.specs.declared.text.Text.{Text}

-- Room for so many bytes more.
abbrev pub HasRoom : Text → ℕ → Type 0
HasRoom t n = t.at + n ≤ length t.out.now

-- Room for the longest reply.
abbrev pub HoldsReply : List ℕ → Type 0
HoldsReply buffer = 8192 ≤ length buffer

-- Bytes, at most so many, were put behind what stood in the buffer.
pub record Put (most : ℕ) (before after : Text) (bytes : List ℕ) : Type 0 where
  pub same : after.out.ghost_name ≡ before.out.ghost_name
  pub long : length after.out.now ≡ length before.out.now
  pub few : length bytes ≤ most
  pub ends : after.at ≡ before.at + length bytes
  pub holds : take after.at after.out.now ≡ take before.at before.out.now ++ bytes

-- The first n bytes of a buffer are these.
pub record Printed (buffer : List ℕ) (n : ℕ) (bytes : List ℕ) : Type 0 where
  pub fits : n ≤ length buffer
  pub all : n ≡ length (take n buffer)
  pub are : take n buffer ≡ bytes
