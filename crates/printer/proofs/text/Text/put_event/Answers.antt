-- The event's number and its line, one behind the other.
use Rattle.std.proofs.Common.{arith}
use Rattle.printer.proofs.Writing.{put_event}
use Rattle.printer.proofs.text.Text.put_event.Goals as goal

pub returns : goal.returns
returns c = put_event c.args.event.now (omega arith) c.put_number.ensures c.put_line.ensures
