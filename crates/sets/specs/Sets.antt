-- A set of the table by the place of its first word.
use Rattle.std.specs.Prelude.{List, ℕ, ◌+◌, ℤ, pos, get_or}
use Rattle.model.specs.Job.{to_count}

-- Its words; its member i; how many it has.
abbrev pub word_at : List ℤ → ℕ → ℕ → ℤ
word_at ws at i = get_or ws (at + i) (pos 0)

abbrev pub member_at : List ℤ → ℕ → ℕ → ℤ
member_at ws at i = word_at ws at (3 + i)

abbrev pub count_at : List ℤ → ℕ → ℕ
count_at ws at = to_count (word_at ws at 2)
