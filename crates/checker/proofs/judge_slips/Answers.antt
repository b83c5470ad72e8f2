-- `checker::judge_slips` judges the list by what reading its slips leaves. Assumes nothing.
use Rattle.std.proofs.lemmas.Result.{err_from_is_err_and}
use Rattle.std.specs.Prelude.{Ok, Err}
use Rattle.checker.proofs.Judging.{judges_cut, judges_all, cut_ends}
use Rattle.checker.proofs.judge_slips.Goals as goal

pub returns-in_err-tail : goal.returns-in_err-tail
returns-in_err-tail c =
    let a = c.args in
    let p = err_from_is_err_and c.from_residual.result c.from_residual.ensures.1 in
    rw (p.1, p.2) (judges_cut a.c.now a.list.now c.read_slips.new.b.words (cut_ends a.c.now a.list.now c.read_slips.new.b.words (Err _) (rw (c.index-count.ensures, c.trailer_of.ensures.slips_are) at c.in_err-tail.ensures)))

pub returns : goal.returns
returns c =
    let a = c.args in
    judges_all a.c.now a.list.now c.read_slips.new.b.words (cut_ends a.c.now a.list.now c.read_slips.new.b.words (Ok _) (rw (c.index-count.ensures, c.trailer_of.ensures.slips_are) at c.in_ok-tail.ensures)) c.closing.ensures
