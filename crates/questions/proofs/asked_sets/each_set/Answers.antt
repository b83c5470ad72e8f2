use Rattle.std.proofs.Common.{◌∙◌, ◌≡◌, arith}
use Rattle.model.specs.Job.{set_begin}
use Rattle.questions.specs.Numbers.{number_of}
use Rattle.questions.specs.Asked.{Nth}
use Rattle.sets.proofs.Walking.{begin_next}
use Rattle.questions.proofs.Questions.{each_end, each_no, each_yes}
use Rattle.questions.proofs.asked_sets.each_set.Goals as goal

pub loop-g-preserved : goal.loop-g-preserved
loop-g-preserved g c =
    let l = c.loop-g in
    let i = l.invariant in
    let t = c.loop-g-test.true in
    let few = c.requires.few in
    let next = c.next-set.ensures in
    let here : Nth c.args.table.now l.g l.set = record { table_is = i.0; at_is = i.1; near = omega arith } in (
      next.0 ∙ i.0,
      begin_next c.args.table.now l.g i.1 (rw i.0 at next.1),
      omega arith,
      λ ok h. each_yes (number_of c.args.question) ok l.g c.args.m t (h l.g l.set t here c.right.result c.right.ensures) c.if-not-right.false (i.3 ok h),
    )

pub returns-then-not-right : goal.returns-then-not-right
returns-then-not-right g c = λ ok h.
    let l = c.loop-g in
    let i = l.invariant in
    let t = c.loop-g-test.true in
    let few = c.requires.few in
    let here : Nth c.args.table.now l.g l.set = record { table_is = i.0; at_is = i.1; near = omega arith } in
    c.refuse.ensures ∙ each_no (number_of c.args.question) ok l.g c.args.m t (h l.g l.set t here c.right.result c.right.ensures) c.if-not-right.true (i.3 ok h)

pub returns : goal.returns
returns g c = λ ok h. each_end (number_of c.args.question) ok c.loop-g.g c.args.m c.loop-g-test.false (c.loop-g.invariant.3 ok h)
