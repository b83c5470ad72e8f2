-- The scan stands after the bytes so far. Assumes nothing.
use Rattle.std.proofs.Common.{◌≡◌, take}
use Rattle.scanner.specs.Scanning.{state, fed}
use Rattle.scanner.proofs.scan.steps.Given as goal

abbrev pub invariant-loop-b : goal.invariant-loop-b
invariant-loop-b l = state l.scan l.table ≡ fed (state l.fn.s l.initial.table) (take l.b-index l.piece)
