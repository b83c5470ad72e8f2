use Rattle.tables.specs.Board.{board}
use Rattle.model.specs.Reader.{narrowed}
use Rattle.slips.specs.Slip.{premise_of, premises_in}
use Rattle.judging.proofs.Facts.{both_fit, narrowed_none, narrowed_more}
use Rattle.judging.proofs.premises.narrow_by.Goals as goal

pub tighten-requires : goal.tighten-requires
tighten-requires c =
    let i = c.loop-f.invariant in
    (both_fit (premise_of c.in-Some.f) (premises_in c.next.new.self.words.now) (rw c.in-Some.ensures.steps at i.2)).0

pub loop-f-preserved : goal.loop-f-preserved
loop-f-preserved c =
    let i = c.loop-f.invariant in
    let e = c.in-Some.ensures.steps in
    let Y = narrowed (board c.args.b.now.words) (premises_in c.args.facts.words.now) in (
      tt,
      tt,
      (both_fit (premise_of c.in-Some.f) (premises_in c.next.new.self.words.now) (rw e at i.2)).1,
      narrowed_more (board c.loop-f.b.words) Y (premises_in c.loop-f.f-iterator.words.now) i.3 (board c.tighten.new.b.words) e c.tighten.ensures,
    )

pub returns : goal.returns
returns c =
    let i = c.loop-f.invariant in
    narrowed_none (board c.loop-f.b.words) (narrowed (board c.args.b.now.words) (premises_in c.args.facts.words.now)) (premises_in c.loop-f.f-iterator.words.now) i.3 c.in-None.ensures.steps
