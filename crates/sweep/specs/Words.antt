-- The words of a stream as four bytes, lowest first, and the checksum of a table's words.
use Rattle.std.specs.Prelude.{List, ℕ, ◌+◌, ◌*◌, ◌%◌, ◌^◌, ℤ, fold}
use Rattle.std.specs.Int.{w32}
use Rattle.std.proofs.Common.{to_z, of_z}

-- Four bytes, lowest first, as a number below 2³².
abbrev pub four : ℕ → ℕ → ℕ → ℕ → ℕ
four a b c d = a + b * 256 + c * 65536 + d * 16777216

-- The signed word whose bits the number has.
abbrev pub word_of : ℕ → ℤ
word_of n = to_z w32 n

-- The bits of a signed word.
abbrev pub bits_of : ℤ → ℕ
bits_of z = of_z w32 z

-- One word more: multiply, add the word's bits, modulo 2³².
abbrev pub mixed : ℕ → ℤ → ℕ
mixed sum z = (sum * 16777619 + bits_of z) % 2 ^ 32

-- The checksum of a table.
abbrev pub checksum : List ℤ → ℕ
checksum words = fold mixed 2166136261 words
