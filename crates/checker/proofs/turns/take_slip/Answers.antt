-- `checker::turns::take_slip` reads the slip at p, asks it and makes its narrowing. Assumes nothing.
use Rattle.std.proofs.Common.{◌≡◌, refl, sym, ap, ◌∙◌, arith, None, Some, length}
use Rattle.std.proofs.lemmas.Result.{err_from_is_err_and}
use Rattle.model.specs.Reader.{is_conflict, applied}
use Rattle.slips.specs.Slip.{explanation_of}
use Rattle.tables.specs.Board.{board, table_of}
use Rattle.judging.specs.Ready.{job_of}
use Rattle.checker.proofs.Turning.{asked_cut, slip_there, applies_is, no_bound}
use Rattle.checker.proofs.turns.take_slip.Goals as goal

pub returns-in_default : goal.returns-in_default
returns-in_default c =
    let a = c.args in
    let f : c.read_slip.result ≡ None = grind arith in
    asked_cut (job_of a.c.now) (board a.c.now.wide.now.words) (board a.b.now.words) a.slips.now (length a.slips.now) a.p a.left (rw f at c.read_slip.ensures.0)

pub returns-in_err-named : goal.returns-in_err-named
returns-in_err-named c =
    let a = c.args in
    let f : c.read_slip.result ≡ Some (c.in-Some.slip, c.in-Some.next) = grind arith in
    let p = err_from_is_err_and c.from_residual.result c.from_residual.ensures.1 in
    let t = slip_there (job_of a.c.now) (board a.c.now.wide.now.words) (board a.b.now.words) a.slips.now (length a.slips.now) a.p a.left c.in-Some.slip (rw f at c.read_slip.ensures.0) in
    rw (p.1, p.2) (sym t.0 ∙ sym c.in_err-named.ensures.asked)

pub apply-requires : goal.apply-requires
apply-requires c =
    let a = c.args in
    let q = c.in_ok-named.ensures in
    let e = rw (← q.named) at q.asked in
    let t = applies_is a.c.now c.requires.0 c.in_ok-named.named a.left e in
    omega (arith, t.event, t.few)

pub returns : goal.returns
returns c =
    let a = c.args in
    let n = a.c.now.job.events in
    let table = a.c.now.table.now in
    let f : c.read_slip.result ≡ Some (c.in-Some.slip, c.in-Some.next) = grind arith in
    let s = rw f at c.read_slip.ensures.1 in
    let t = slip_there (job_of a.c.now) (board a.c.now.wide.now.words) (board a.b.now.words) a.slips.now (length a.slips.now) a.p a.left c.in-Some.slip (rw f at c.read_slip.ensures.0) in
    let m = c.in_ok-named.named in
    let q = c.in_ok-named.ensures in
    let is = ap explanation_of q.named ∙ t.1 in
    let h = applies_is a.c.now c.requires.0 m a.left (rw (← q.named) at q.asked) in (
      sym t.0 ∙ sym q.asked,
      t.2,
      refl,
      no_bound m c.is_none.ensures ∙ ap is_conflict is,
      c.apply.ensures n h table ∙ ap (applied (table_of n table a.b.now.words)) is,
      s,
    )
