-- The piece that was taken is the first of what the reader had, or tells that the read failed.
use Rattle.std.proofs.Common.{rules, take}
use Rattle.model.specs.Program.{gave, failed}
use Rattle.orthmuzi.proofs.read_some.Goals as goal

pub returns-in_default : goal.returns-in_default
returns-in_default g c =
    record { took = record { piece = failed; scan = c.take.ensures.scan; more = c.take.ensures.more }; gives = search rules }

pub returns : goal.returns
returns g c =
    record { took = record { piece = gave (take c.in-Ok.n c.read.new.buf); scan = c.take-2.ensures.scan; more = c.take-2.ensures.more }; gives = search rules }
