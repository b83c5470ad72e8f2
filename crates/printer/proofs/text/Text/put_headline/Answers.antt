-- The name, the two numbers and the line's end, one behind the other.
use Rattle.std.proofs.Common.{arith}
use Rattle.printer.proofs.Writing.{put_headline}
use Rattle.printer.proofs.text.Text.put_headline.Goals as goal

pub returns : goal.returns
returns c = put_headline (omega arith) (omega arith) c.put.ensures c.put_word.ensures c.put_word-2.ensures c.put-2.ensures
