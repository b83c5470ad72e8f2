-- `rounds::Log::enter` writes a slip that fits, or stops the call. Assumes nothing.
use mathlib.Core.Path.{refl}
use Rattle.std.proofs.Common.{rules}
use native.Mathlib.Omega.{arith}
use Rattle.rounds.proofs.Trying.{few_facts, stop_entered, slip_place}
use Rattle.rounds.proofs.Log.enter.Goals as goal

pub count-requires : goal.count-requires
count-requires c =
    let a = c.args in
    let few = few_facts a.header a.facts.now a.self.now c.requires in
    let at = slip_place a.header a.facts.now a.self.now c.requires refl (omega arith) c.put_slip.ensures.words.appended in (omega arith, search rules)

pub slip_length-requires : goal.slip_length-requires
slip_length-requires c = omega (arith, few_facts c.args.header c.args.facts.now c.args.self.now c.requires)

pub overflow_add-list-2 : goal.overflow_add-list-2
overflow_add-list-2 c = omega (arith, few_facts c.args.header c.args.facts.now c.args.self.now c.requires)

pub overflow_add-list-3 : goal.overflow_add-list-3
overflow_add-list-3 c = omega (arith, few_facts c.args.header c.args.facts.now c.args.self.now c.requires)

pub returns-then-list-slip_length : goal.returns-then-list-slip_length
returns-then-list-slip_length c =
    stop_entered c.args.header c.args.facts.now c.args.self.now c.requires c.count-count.ensures (omega arith) (refl, refl, refl, refl, refl, refl)

pub count-requires-2 : goal.count-requires-2
count-requires-2 c =
    let a = c.args in
    let at = slip_place a.header a.facts.now a.self.now c.requires c.count-count.ensures (omega arith) c.append_slip.ensures.words.appended in (omega arith, search rules)
