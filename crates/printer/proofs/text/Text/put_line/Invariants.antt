-- The first words are put, each behind a blank.
use Rattle.std.proofs.Common.{◌*◌, take}
use Rattle.printer.specs.Buffer.{Put}
use Rattle.printer.proofs.Writing.{spaced}
use Rattle.printer.proofs.text.Text.put_line.Given as goal

abbrev pub invariant-loop-word : goal.invariant-loop-word
invariant-loop-word l = Put (12 * l.word-index) l.initial.self l.self (spaced (take l.word-index l.words))
