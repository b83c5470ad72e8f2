use mathlib.Core.Path.{refl, sym, ◌∙◌}
use mathlib.Core.List.{List}
use Prim.Native.Nat.{ℕ}
use native.Mathlib.Omega.{arith}
use Rattle.model.specs.Job.{member, Job as Call}
use Rattle.model.specs.Agenda.{Attempt}
use Rattle.members.specs.Members.{both_attempts}
use Rattle.members.proofs.Binding.{set_adds, listed_member, subject_is, here, moved_from, swept_none, swept_on, member_swept, spared_passed}
use Rattle.members.proofs.SetJob.set_rules.Goals as goal
use Rattle.members.proofs.SetJob.set_rules.Goals.{then-not-is_spared, else-not-is_spared}

abbrev member_of : ℕ → ℕ → Call → List Attempt
member_of g i j = both_attempts g (member j g i)

pub loop-i-init : goal.loop-i-init
loop-i-init c = (swept_none (member_of c.args.self.now.subject) _ _, c.least_slack-s.ensures)

pub member-y-requires : goal.member-y-requires
member-y-requires c =
    let a = set_adds c.loop-i.self in
    let size = here c.args.self.now c.loop-i.self c.loop-i.invariant.0.stays c.count-i-end.ensures.0 c.loop-i-test.true in
    (omega (arith, a.listed.inside), a.listed.sign c.loop-i.i size)

pub both_rules-requires : goal.both_rules-requires
both_rules-requires c =
    let k = c.loop-i.self in
    let there = here c.args.self.now c.loop-i.self c.loop-i.invariant.0.stays c.count-i-end.ensures.0 c.loop-i-test.true in
    listed_member k c.loop-i.i there c.member-y.ensures

pub loop-i-preserved : goal.loop-i-preserved
loop-i-preserved c =
    let g = c.args.self.now.subject in
    let k = c.loop-i.self in
    let i = c.loop-i.i in
    let m = c.loop-i.invariant.0 in
    let sp = c.loop-i.invariant.1 in
    let e = c.member-y.ensures in
    let there = here c.args.self.now c.loop-i.self m.stays c.count-i-end.ensures.0 c.loop-i-test.true in
    let y = listed_member k i there e in
    elim c.if-not-is_spared.branch [
      | then-not-is_spared w ↦
          rw (w.self-is, w.log-is, w.s-is)
          (swept_on (member_of g) i m (member_swept g i (subject_is m.stays) e (moved_from {k = k} refl refl w.both_rules.ensures)), w.least_slack-s-then-not-is_spared.ensures)
      | else-not-is_spared w ↦
          rw (w.self-is, w.log-is, w.s-is)
          (swept_on (member_of g) i m (member_swept g i (subject_is m.stays) e (spared_passed k c.loop-i.log refl refl sp y.0 y.1 (sym c.is_spared.ensures ∙ w.if-not-is_spared.false))), record { still = sp.still })
    ]
