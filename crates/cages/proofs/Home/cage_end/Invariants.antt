-- `cages::Home::cage_end`: no event from y on is in the subject's cage. Assumes nothing.
use mathlib.Core.Path.{◌≡◌}
use mathlib.Core.Bool.{false}
use Prim.Native.Nat.{ℕ, ◌≤◌, ◌<◌}
use Rattle.cages.specs.Masking.{together}
use Rattle.cages.proofs.Home.cage_end.Given as goal

abbrev pub invariant-loop-y : goal.invariant-loop-y
invariant-loop-y l =
    (z : ℕ) → l.y ≤ z → z < l.self.events → together l.self.table.now l.self.subject z ≡ false
