use Rattle.std.proofs.Common.{◌≡◌, arith, rules}
use Rattle.std.proofs.lemmas.Result.{err_from_is_err_and}
use Rattle.checker.proofs.Looping.{ready, refuses, goes_on, finishes, err_mapped, ok_mapped}
use Rattle.checker.proofs.turns.read_slips.Goals as goal

pub take_slip-requires : goal.take_slip-requires
take_slip-requires c =
    let l = c.loop-i.invariant in
    (ready c.requires l, l.before_stop)

pub returns-in_err-tail : goal.returns-in_err-tail
returns-in_err-tail c =
    let p = err_from_is_err_and c.from_residual.result c.from_residual.ensures.1 in
    let m = err_mapped _ c.map_err.result c.take_slip.result c.map_err.ensures.cases c.in_err-tail.was in
    let q = m.2 in
    let w : c.in_err-tail.field-0.0 ≡ record { question = m.0; place = c.loop-i.i-counter } = search rules in
    rw (p.1, p.2, w) (refuses c.requires c.loop-i.invariant m.0 (omega arith) (rw m.1 at c.take_slip.ensures))

pub loop-i-preserved : goal.loop-i-preserved
loop-i-preserved c =
    let e = ok_mapped _ c.map_err.result c.take_slip.result c.map_err.ensures.cases c.in_ok-tail.was in
    goes_on c.requires c.loop-i.invariant (omega arith) (rw e at c.take_slip.ensures)

pub returns : goal.returns
returns c =
    let l = c.loop-i.invariant in
    (finishes c.requires l (omega arith), l.last_in)
