use Rattle.std.proofs.Common.{rules}
use Rattle.printer.proofs.Writing.{word_more, line_end}
use Rattle.printer.proofs.text.Text.put_line.Goals as goal

pub loop-word-preserved : goal.loop-word-preserved
loop-word-preserved c =
    word_more c.args.words.now c.loop-word.word-index c.loop-word-test.true (search rules) c.loop-word.invariant c.put_word.ensures

pub returns : goal.returns
returns c =
    line_end c.args.words.now c.loop-word.word-index c.loop-word-test.false c.loop-word.auto.word-index-end c.loop-word.invariant c.put.ensures
