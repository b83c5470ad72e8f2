-- `reservoir::plan_and_read` meets its contract: what planner and reader promise, put together by the theory's theorem.
-- Assumes nothing.
use Rattle.std.proofs.Common.{sym, arith}
use Rattle.std.proofs.Math.Facts.{to_z-of_z}
use Rattle.std.proofs.Math.Seq.{length-take-le}
use Rattle.std.proofs.lemmas.Result.{err_from_is_err_and}
use Rattle.reservoir.proofs.Assuring.{assured_unread, few, fits, assured_read, accepted}
use Rattle.reservoir.proofs.plan_and_read.Goals as goal

pub returns-in_err-answer : goal.returns-in_err-answer
returns-in_err-answer c =
    let e = c.in_err-answer.ensures in
    let p = err_from_is_err_and c.from_residual.result c.from_residual.ensures.1 in
    rw (p.1, p.2) (rw (to_z-of_z c.ranges.h, to_z-of_z c.ranges.limit) at (assured_unread _ _ _ c.in_err-answer.field-0.0 e.answer e.windows e.slips))

pub slice_bounds-list-end : goal.slice_bounds-list-end
slice_bounds-list-end c = let e = c.in_ok-answer.ensures in fits _ _ _ c.in_ok-answer.answer e.answer e.slips

pub slice_bounds-list-end-2 : goal.slice_bounds-list-end-2
slice_bounds-list-end-2 c =
    let e = c.in_ok-answer.ensures in
    sym (length-take-le _ _ (fits _ _ _ c.in_ok-answer.answer e.answer e.slips))

pub slice_bounds-copy-end : goal.slice_bounds-copy-end
slice_bounds-copy-end c =
    omega (arith, c.keep.ensures.whole, few _ _ _ c.in_ok-answer.answer c.in_ok-answer.ensures.answer)

pub slice_bounds-check-end : goal.slice_bounds-check-end
slice_bounds-check-end c =
    sym (length-take-le _ _ (omega (arith, c.keep.ensures.whole, few _ _ _ c.in_ok-answer.answer c.in_ok-answer.ensures.answer)))

pub returns-in_err-judgement : goal.returns-in_err-judgement
returns-in_err-judgement c =
    let e = c.in_ok-answer.ensures in
    let copied = c.keep.ensures.first (few _ _ _ c.in_ok-answer.answer e.answer) in
    accepted _ _ _ c.in_ok-answer.answer e.answer e.slips e.windows c.in_err-judgement.field-0.0 (rw copied at c.in_err-judgement.ensures.answer)

pub returns : goal.returns
returns c =
    let e = c.in_ok-answer.ensures in
    let copied = c.keep.ensures.first (few _ _ _ c.in_ok-answer.answer e.answer) in
    rw (to_z-of_z c.ranges.h, to_z-of_z c.ranges.limit) at (assured_read _ _ _ c.in_ok-answer.answer e.answer e.slips e.windows c.in_ok-judgement.judgement (rw copied at c.in_ok-judgement.ensures.answer))
