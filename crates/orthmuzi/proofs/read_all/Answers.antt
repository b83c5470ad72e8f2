-- The pieces so far and the last one make up the text.
use Rattle.std.proofs.Common.{arith, sym, ◌∙◌}
use Rattle.orthmuzi.proofs.Listening.{going_start, going_on, going_end, going_over}
use Rattle.orthmuzi.proofs.read_all.Goals as goal

pub loop-init : goal.loop-init
loop-init g c = going_start _ c.requires c.new-scanner.ensures.start

pub loop-preserved : goal.loop-preserved
loop-preserved g c = going_on c.loop.invariant _ c.read_some.result (sym c.is_break.ensures ∙ c.if-is_break.false) c.read_some.ensures

pub returns-then-is_break : goal.returns-then-is_break
returns-then-is_break g c = going_end c.loop.invariant _ c.read_some.result (sym c.is_break.ensures ∙ c.if-is_break.true) c.read_some.ensures

pub returns : goal.returns
returns g c = going_over c.loop.invariant (omega (arith, c.loop-test.false))
