use Rattle.std.proofs.Common.{◌∙◌}
use Rattle.questions.specs.Numbers.{number_of}
use Rattle.questions.proofs.Questions.{each_end, each_no, each_yes}
use Rattle.questions.proofs.asked.each.Goals as goal

pub loop-i-preserved : goal.loop-i-preserved
loop-i-preserved g c = λ ok h.
    let l = c.loop-i in
    let t = c.loop-i-test.true in
    each_yes (number_of c.args.question) ok l.i c.args.n t (h l.i t c.right.result c.right.ensures) c.if-not-right.false (l.invariant ok h)

pub returns-then-not-right : goal.returns-then-not-right
returns-then-not-right g c = λ ok h.
    let l = c.loop-i in
    let t = c.loop-i-test.true in
    c.refuse.ensures ∙ each_no (number_of c.args.question) ok l.i c.args.n t (h l.i t c.right.result c.right.ensures) c.if-not-right.true (l.invariant ok h)

pub returns : goal.returns
returns g c = λ ok h. each_end (number_of c.args.question) ok c.loop-i.i c.args.n c.loop-i-test.false (c.loop-i.invariant ok h)
