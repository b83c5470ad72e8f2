-- `judging::premises::tighten` stores a bound that the window does not keep. Assumes nothing.
use mathlib.Core.Path.{sym, ◌∙◌}
use Rattle.tables.specs.Board.{board}
use Rattle.tables.specs.Ends.{end_of}
use Rattle.model.specs.Slips.{premise_event}
use Rattle.slips.specs.Slip.{premise_of}
use Rattle.judging.proofs.Facts.{kind_end}
use Rattle.judging.proofs.Storing.{board_store, narrow_store}
use Rattle.judging.proofs.premises.tighten.Goals as goal

pub returns-then-not-meets : goal.returns-then-not-meets
returns-then-not-meets c =
    let a = c.args in
    let f = premise_of a.f in
    let W = board a.b.now.words in
    let k = c.in-Ok.end in
    let is = kind_end (end_of k) c.in-Ok.ensures in
    let t = sym (rw (c.end.ensures, c.index-y.ensures) at c.meets.ensures) ∙ c.if-not-meets.true in
    let e = rw c.index-y.ensures at c.set_end.ensures in
    rw is
    (λ z h l. board_store a.b.now.words a.b.now.whole (premise_event f) (end_of k) a.f.value.0 c.requires.event_high e z h l ∙ narrow_store W (premise_event f) (end_of k) a.f.value.0 t z l)
