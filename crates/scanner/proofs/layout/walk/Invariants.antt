-- `scanner::layout::walk` goes set by set: what is left of the walk is the whole walk. Assumes nothing.
use mathlib.Core.Path.{◌≡◌}
use Prim.Native.Nat.{◌+◌, ◌*◌, ◌-◌, ◌≤◌}
use Rattle.scanner.specs.Layout.{walked}
use Rattle.scanner.proofs.layout.walk.Given as goal

abbrev pub invariant-loop : goal.invariant-loop
invariant-loop l = (l.i ≤ l.at) × (l.at ≤ l.i + 67 * l.counter) × (walked l.numbers l.at (l.sets - l.counter) ≡ walked l.numbers l.i l.sets)
