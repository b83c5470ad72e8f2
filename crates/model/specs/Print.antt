-- Document 01, "It prints ..": a reply as bytes, with single blanks, and a line end after every line.
use Rattle.std.specs.Prelude.{cond, List, [], ◌∷◌, ◌++◌, ℕ, zero, suc, ◌+◌, ◌*◌, ◌/◌, ◌%◌, ltb, ℤ, pos, negsuc, length, take, drop}
use Rattle.model.specs.Rounds.{Verdict, settled, conflict, stopped, still_open}
use Rattle.model.specs.Planner.{Reply, refused, done}
use Rattle.model.specs.Text.{bytes}

-- The last digits of n, at most k of them, the most significant first.
unfoldable pub last_digits : ℕ → ℕ → List ℕ
last_digits zero n = []
last_digits (suc k) n =
    let more = last_digits k (n / 10) ++ ((48 + n % 10) ∷ []) in
    cond (ltb n 10) ((48 + n) ∷ []) more

-- The decimal digits of n without leading zeros: there are no more than n + 1.
unfoldable pub numeral : ℕ → List ℕ
numeral n = last_digits (suc n) n

-- With a '-' where it is negative.
unfoldable pub integer : ℤ → List ℕ
integer (pos n) = numeral n
integer (negsuc n) = 45 ∷ numeral (suc n)

-- Numbers, each behind a blank, and the line's end.
unfoldable pub line_of : List ℤ → List ℕ
line_of [] = 10 ∷ []
line_of (z ∷ zs) = (32 ∷ integer z) ++ line_of zs

-- "refused", number, place; or the verdict, slips, rounds.
abbrev pub headline : List ℕ → ℕ → ℕ → List ℕ
headline name a b = name ++ line_of (pos a ∷ pos b ∷ [])

-- Each event's number and the four words of its windows, of the first n events; its cage is not printed.
unfoldable pub event_lines : List ℤ → ℕ → List ℕ
event_lines table zero = []
event_lines table (suc y) = event_lines table y ++ numeral y ++ line_of (take 4 (drop (5 * y) table))

-- The reader's "open" is not printed by the program.
abbrev pub verdict_name : Verdict → List ℕ
verdict_name settled = bytes "settled"
verdict_name conflict = bytes "conflict"
verdict_name stopped = bytes "stopped"
verdict_name still_open = bytes "open"

-- A reply, and the window table as it then stands.
abbrev pub printed : Reply → List ℤ → List ℕ
printed (refused number place) table = headline (bytes "refused") number place
printed (done verdict slips rounds words) table =
    headline (verdict_name verdict) slips rounds ++ event_lines table (length table / 5)
