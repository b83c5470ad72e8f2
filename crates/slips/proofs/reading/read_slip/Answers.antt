-- `slips::reading::read_slip` asks question 13, test by test. Assumes nothing.
use mathlib.Core.Path.{refl, sym}
use native.Mathlib.Omega.{arith}
use Rattle.slips.proofs.Sizing.{not_room, not_rule, not_count, not_all, not_length, slip_is}
use Rattle.slips.proofs.reading.read_slip.Goals as goal

pub returns-then-left-le-HEAD_WORDS : goal.returns-then-left-le-HEAD_WORDS
returns-then-left-le-HEAD_WORDS c = let a = c.args in (not_room a.words.now _ a.p c.if-left-le-HEAD_WORDS.true, tt)

pub returns-in_err-rule : goal.returns-in_err-rule
returns-in_err-rule c =
    let a = c.args in
    let e = rw c.word_at.ensures at c.in_err-rule.ensures in
    rw c.from_residual.ensures (not_rule a.words.now _ a.p c.if-left-le-HEAD_WORDS.false e, tt)

pub returns-in_err-count : goal.returns-in_err-count
returns-in_err-count c =
    let a = c.args in
    let r = rw c.word_at.ensures at c.in_ok-rule.ensures in
    let e = rw c.word_at-2.ensures at c.in_err-count.ensures in
    rw c.from_residual-in_err-count.ensures (not_count a.words.now _ a.p c.if-left-le-HEAD_WORDS.false r.0 e, tt)

pub returns-then-left-size : goal.returns-then-left-size
returns-then-left-size c =
    let a = c.args in
    let r = rw c.word_at.ensures at c.in_ok-rule.ensures in
    let m = rw c.word_at-2.ensures at c.in_ok-count.ensures in
    let size = rw m.is at c.slip_length-size.ensures in
    (not_all a.words.now _ a.p c.if-left-le-HEAD_WORDS.false r.0 m.within size c.if-left-size.true, tt)

pub returns-then-not-word_is : goal.returns-then-not-word_is
returns-then-not-word_is c =
    let a = c.args in
    let r = rw c.word_at.ensures at c.in_ok-rule.ensures in
    let m = rw c.word_at-2.ensures at c.in_ok-count.ensures in
    let size = rw m.is at c.slip_length-size.ensures in
    let e = rw c.word_at-3.ensures at c.if-not-word_is.ensures in
    (not_length a.words.now _ a.p c.if-left-le-HEAD_WORDS.false r.0 m.within size refl c.if-left-size.false (sym e), tt)

pub returns : goal.returns
returns c =
    let a = c.args in
    let r = rw c.word_at.ensures at c.in_ok-rule.ensures in
    let m = rw c.word_at-2.ensures at c.in_ok-count.ensures in
    let size = rw m.is at c.slip_length-size.ensures in
    let e = rw c.word_at-3.ensures at c.if-not-word_is.ensures in (
      slip_is a.words.now _ a.p c.if-left-le-HEAD_WORDS.false r.0 m.within size refl c.if-left-size.false (omega arith) (sym e)
          (sym r.1) c.word_at-4.ensures c.word_at-5.ensures c.word_at-6.ensures c.word_at-7.ensures refl,
      omega arith,
    )
