-- `judging::naming::named` asks question 14, test by test. Assumes nothing.
use mathlib.Core.Path.{refl}
use Rattle.judging.proofs.Asking.{names_is}
use Rattle.judging.proofs.naming.named.Goals as goal

pub returns-then-not-is_event : goal.returns-then-not-is_event
returns-then-not-is_event c =
    let a = c.args in
    rw (names_is a.c.now c.requires.events_are a.s.now, ← rw c.subjects.ensures.0 at c.if-not-is_event.ensures)

pub returns-then-not-is_event-2 : goal.returns-then-not-is_event-2
returns-then-not-is_event-2 c =
    let a = c.args in
    rw (names_is a.c.now c.requires.events_are a.s.now, ← rw c.subjects.ensures.0 at c.if-not-is_event.ensures, ← c.if-not-is_event-2.ensures)

pub returns-then-not-facts_fit : goal.returns-then-not-facts_fit
returns-then-not-facts_fit c =
    let a = c.args in
    rw (names_is a.c.now c.requires.events_are a.s.now, ← rw c.subjects.ensures.0 at c.if-not-is_event.ensures, ← c.if-not-is_event-2.ensures, ← c.if-not-facts_fit.ensures)

pub returns-then-not-target_right : goal.returns-then-not-target_right
returns-then-not-target_right c =
    let a = c.args in
    rw (names_is a.c.now c.requires.events_are a.s.now, ← rw c.subjects.ensures.0 at c.if-not-is_event.ensures, ← c.if-not-is_event-2.ensures, ← c.if-not-facts_fit.ensures, ← rw (c.index-subject.ensures, c.index-target.ensures) at c.if-not-target_right.ensures)

pub returns-then-not-kind_right : goal.returns-then-not-kind_right
returns-then-not-kind_right c =
    let a = c.args in
    rw (names_is a.c.now c.requires.events_are a.s.now, ← rw c.subjects.ensures.0 at c.if-not-is_event.ensures, ← c.if-not-is_event-2.ensures, ← c.if-not-facts_fit.ensures, ← rw (c.index-subject.ensures, c.index-target.ensures) at c.if-not-target_right.ensures, ← c.if-not-kind_right.ensures)

pub returns : goal.returns
returns c =
    let a = c.args in (
      rw (names_is a.c.now c.requires.events_are a.s.now, ← rw c.subjects.ensures.0 at c.if-not-is_event.ensures, ← c.if-not-is_event-2.ensures, ← c.if-not-facts_fit.ensures, ← rw (c.index-subject.ensures, c.index-target.ensures) at c.if-not-target_right.ensures, ← c.if-not-kind_right.ensures),
      refl,
    )
