-- The scanner stands after the text of the pieces so far, each of which gave bytes.
use Rattle.scanner.specs.Scanning.{state_of}
use Rattle.orthmuzi.proofs.Listening.{Going}
use Rattle.orthmuzi.proofs.read_all.Given as goal

abbrev pub invariant-loop : goal.invariant-loop
invariant-loop g l = Going (g.R.Read.remaining l.initial.input) (g.R.Read.remaining l.input) (state_of l.scanner) l.counter
