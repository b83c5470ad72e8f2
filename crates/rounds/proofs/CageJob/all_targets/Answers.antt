use mathlib.Core.Bool.{not}
use mathlib.Core.Path.{◌≡◌, refl, ap, ◌∙◌}
use mathlib.Core.List.{List, [], ◌∷◌}
use Prim.Native.Nat.{ℕ, ◌+◌}
use borrow.Author.Tests.{not-true}
use native.Mathlib.Omega.{arith}
use Rattle.model.specs.Job.{h_min, h_max, Job as Call}
use Rattle.model.specs.Agenda.{Attempt, try}
use Rattle.rules.specs.Values.{rule_of}
use Rattle.rules.specs.Numbers.{number_of}
use Rattle.rounds.specs.Sweeps.{first_in}
use Rattle.rounds.proofs.Moves.{moves_from, made_none, made_on}
use Rattle.rounds.proofs.Passing.{height_number, sees_height, looks_next, there_next, targets_passed, target_passed, leaves_made}
use Rattle.rounds.proofs.CageJob.all_targets.Goals as goal
use Rattle.rounds.proofs.CageJob.all_targets.Goals.{then-is_moved, else-is_moved}

abbrev target : ℕ → ℕ → ℕ → Call → List Attempt
target r e y j = try r e y ∷ []

pub returns-then-not-is_any_moved : goal.returns-then-not-is_any_moved
returns-then-not-is_any_moved c =
    let k = c.args.self.now in
    let s = c.sight-sight.ensures in
    targets_passed k c.args.log.now refl refl (sees_height k c.requires) (rw (s.0, s.1) at c.slack-s.ensures) (rw (s.0, s.1) at c.is_any_moved.ensures) (not-true c.is_any_moved.result (ap not c.if-not-is_any_moved.true))

pub loop-y-init : goal.loop-y-init
loop-y-init c =
    let s = c.sight-sight.ensures in
    (made_none (target (number_of (rule_of c.reservoir-r.result)) c.args.view.subject) _ _, rw (s.0, s.1) at c.slack-s.ensures)

pub is_moved-requires : goal.is_moved-requires
is_moved-requires c =
    let k = c.loop-y.self in
    let few = c.args.self.now.held.ranged.few in
    let subject = c.requires.subject in
    let real = there_next c.loop-y.invariant.0 c.loop-y-test.true in
    (omega arith, omega arith, k.held.ranged.range c.loop-y.y real h_min, k.held.ranged.range c.loop-y.y real h_max)

pub loop-y-preserved : goal.loop-y-preserved
loop-y-preserved c =
    let k = c.loop-y.self in
    let m = c.loop-y.invariant.0 in
    let level = c.loop-y.invariant.1 in
    let v = c.args.view in
    let y = c.loop-y.y in
    let is : number_of (rule_of c.reservoir-r.result) ≡ first_in v + 2 = ap number_of c.reservoir-r.ensures ∙ height_number v.stance.mirror v.stance.strict in
    let sees = rw (← is) at (sees_height k (looks_next m c.requires)) in
    let real = there_next m c.loop-y-test.true in
    let todo = target (number_of (rule_of c.reservoir-r.result)) v.subject in
    elim c.if-is_moved.branch [
      | then-is_moved w ↦
          let d = moves_from {k = k} refl refl w.attempt.ensures in
          rw (w.self-is, w.log-is) (made_on todo y m d, leaves_made sees level real d)
      | else-is_moved w ↦
          rw (w.self-is, w.log-is) (made_on todo y m (target_passed k c.loop-y.log refl refl sees level real c.is_moved.ensures w.if-is_moved.false), level)
    ]
