-- `members::SetJob::act` enters the slip of a set's rule, its facts read off the members alone, and stores the new end. Assumes nothing.
use mathlib.Core.Path.{refl}
use Rattle.members.proofs.Showing.{blank}
use Rattle.members.proofs.Binding.{writes, act_held, act_moved}
use Rattle.members.proofs.SetJob.act.Goals as goal

pub show-requires : goal.show-requires
show-requires c = rw c.blank-s.ensures blank

pub enter-requires : goal.enter-requires
enter-requires c = writes c.args.self.now c.requires.0 c.show.ensures c.total_citing.ensures c.number.ensures c.own_end.ensures

pub invariant_of-self : goal.invariant_of-self
invariant_of-self c =
    let k = c.args.self.now in
    record {
      held = act_held k c.requires.0 c.show.ensures c.total_citing.ensures c.number.ensures c.own_end.ensures c.enter.ensures c.is_written.ensures c.store_if.ensures;
      placed = k.placed;
    }

pub returns : goal.returns
returns c =
    act_moved c.args.self.now c.requires.0 c.show.ensures c.total_citing.ensures c.number.ensures c.own_end.ensures c.enter.ensures c.is_written.ensures c.store_if.ensures c.requires.1 refl refl
