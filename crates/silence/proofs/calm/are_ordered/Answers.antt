use borrow.Author.Rules.{rules}
use Rattle.tables.specs.Board.{board}
use Rattle.silence.proofs.Calming.{ordered_none, ordered_more}
use Rattle.silence.proofs.calm.are_ordered.Goals as goal

pub loop-y-init : goal.loop-y-init
loop-y-init c = ordered_none (board c.args.b.now.words)

pub loop-y-preserved : goal.loop-y-preserved
loop-y-preserved c =
    let l = c.loop-y in
    let a = c.args in
    (ordered_more (board a.b.now.words) l.y l.invariant c.t_min.ensures c.t_max.ensures (search rules))
