-- `levels::added` sums what each event adds. The loop's invariant: whatever the closure's answers are, the total is the opening amount and the first y of them. Assumes nothing.
use mathlib.Core.Path.{◌≡◌}
use Prim.Native.Nat.{ℕ, ◌<◌, ◌*◌, ◌+◌}
use lib.IntN.{ℤ, ◌+ℤ◌}
use Rattle.integers.specs.Sum.{sum}
use Rattle.integers.specs.Range.{Within}
use Rattle.tables.specs.declared.measures.Height.{Height}
use Rattle.levels.proofs.levels.added.Given as goal

abbrev pub invariant-loop-y : goal.invariant-loop-y
invariant-loop-y g l =
    ((f : ℕ → ℤ) → ((y : ℕ) → y < l.n → (h : Height) → goal.F-post g l.gain y h → h.0 ≡ f y) → l.total.0 ≡ l.initial.total.0 +ℤ sum l.y f)
    × Within l.total.0 (1000000 + 9999 * l.y)
