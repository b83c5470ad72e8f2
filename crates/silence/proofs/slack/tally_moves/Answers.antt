use native.Mathlib.Omega.{arith}
use Rattle.tables.specs.Board.{board}
use Rattle.model.specs.View.{side}
use Rattle.levels.specs.Values.{strict_at}
use Rattle.silence.specs.Slack.{may_move}
use mathlib.Core.Path.{◌∙◌}
use Rattle.silence.proofs.Sparing.{count_none, count_more, byte_cond, byte_small}
use Rattle.silence.proofs.slack.tally_moves.Goals as goal

pub loop-y-init : goal.loop-y-init
loop-y-init c = let a = c.args in (count_none (may_move (strict_at a.s.now (board a.b.now.words)) (side a.s.now.mirror (board a.b.now.words)) (board a.b.now.words) a.u.0 a.v.0 a.k.0), omega arith)

pub loop-y-preserved : goal.loop-y-preserved
loop-y-preserved c =
    let a = c.args in
    let l = c.loop-y in
    (count_more (may_move (strict_at a.s.now (board a.b.now.words)) (side a.s.now.mirror (board a.b.now.words)) (board a.b.now.words) a.u.0 a.v.0 a.k.0) l.y l.invariant.0 c.may_move-t.ensures (c.from-total.ensures ∙ byte_cond c.may_move-t.result), let b = byte_small c.may_move-t.result in let e = c.from-total.ensures in omega arith)
