use mathlib.Core.Path.{◌≡◌, refl, sym, ◌∙◌}
use Rattle.std.proofs.Common.{rules}
use mathlib.Core.List.{List}
use Prim.Native.Nat.{ℕ, ◌<◌}
use lib.IntN.{ℤ}
use native.Mathlib.Omega.{arith}
use Rattle.model.specs.Job.{begun, Job as Call}
use Rattle.model.specs.Agenda.{Attempt, each_of, set_attempts}
use Rattle.model.specs.Rounds.{made}
use Rattle.sets.proofs.Walking.{begun_all}
use Rattle.rounds.specs.State.{room, Leads}
use Rattle.rounds.specs.declared.Log.{Log}
use Rattle.rounds.proofs.Moves.{held_as, leads_as, leads_nothing, leads_to, leads_on}
use Rattle.members.specs.Members.{Binds, sets_attempts}
use Rattle.members.proofs.Walking.{reached_first, reached_there, reached_next, begun_more}
use Rattle.members.proofs.Binding.{lent_is, events_are}
use Rattle.members.proofs.sweeps.all_sets.Goals as goal

abbrev set_of : ℕ → Call → List Attempt
set_of g j = set_attempts j g

pub loop-subject-init : goal.loop-subject-init
unfolding begun
loop-subject-init c = (refl, refl, reached_first c.args.sets.now, leads_nothing set_of _ _, c.requires.0)

pub loop-subject-preserved : goal.loop-subject-preserved
loop-subject-preserved c =
    let l = c.loop-subject in
    let i = l.invariant in
    let there : l.subject < begun c.args.sets.now 17 = reached_there i.2 i.0 c.if-set-sets.false c.loop-subject-test.true in
    let m = c.set_rules.ensures in
    let next = c.next-set.ensures in
    let lent : c.set_rules.new.self.board.ghost_name ≡ _ = lent_is m.stays in (
      begun_more i.2 i.0 c.if-set-sets.false,
      next.0 ∙ i.1,
      reached_next c.requires.0.ranged.few c.requires.1 i.2 there (rw i.1 at next.1),
      leads_on set_of l.subject i.3 (λ j q. q) (leads_to (search rules) (rw i.1 at m.leads)),
      held_as (events_are m.stays) (search rules) c.set_rules.new.self.held,
    )

pub invariant_of-job : goal.invariant_of-job
invariant_of-job c =
    let l = c.loop-subject in
    let i = l.invariant in
    let sane = c.requires.1 in
    let there : l.subject < begun c.args.sets.now 17 = reached_there i.2 i.0 c.if-set-sets.false c.loop-subject-test.true in
    rw i.1 (record { held = i.4; placed = record { there = there; few = sane.few; begins = i.2.begins; sane = sane.set_sane l.subject there } })

-- All sets are gone through where the table ends.
all_through : {n k : ℕ} {ws b b' : List ℤ} {l l' : Log} → begun ws 17 ≡ k → Leads n (Binds n ws) (λ j. made (room l) j (each_of (λ g. set_of g j) 0 k)) b l b' l' → Leads n (Binds n ws) (λ j. made (room l) j (sets_attempts j)) b l b' l'
all_through e d = leads_as (λ j q s. rw (q.sets_are, e) refl) d

pub returns-then-set-sets : goal.returns-then-set-sets
returns-then-set-sets c =
    let l = c.loop-subject in
    let i = l.invariant in
    let m = c.loop-subject-test.true in
    let ended = rw i.2.begins at c.if-set-sets.true in
    (all_through (begun_all c.args.sets.now l.subject ended 17 (omega arith) ∙ i.0) i.3, i.4)

pub returns-after-loop-subject : goal.returns-after-loop-subject
returns-after-loop-subject c =
    let l = c.loop-subject in
    let i = l.invariant in
    let e : l.subject ≡ 17 = omega arith in
    (all_through (rw e at i.0 ∙ sym e) i.3, i.4)
