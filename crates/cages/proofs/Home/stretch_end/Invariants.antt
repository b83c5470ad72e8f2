-- `cages::Home::stretch_end`: the events so far are in the subject's cage. Assumes nothing.
use mathlib.Core.Path.{◌≡◌}
use mathlib.Core.Bool.{true}
use Prim.Native.Nat.{ℕ, ◌≤◌, ◌<◌}
use Rattle.cages.specs.Masking.{together}
use Rattle.cages.proofs.Home.stretch_end.Given as goal

abbrev pub invariant-loop-y : goal.invariant-loop-y
invariant-loop-y l =
    (z : ℕ) → l.self.subject ≤ z → z < l.y → together l.self.table.now l.self.subject z ≡ true
