-- `members::sweeps::show_event` stores an event's amounts. Assumes nothing.
use Rattle.members.proofs.Showing.{stored_amounts}
use Rattle.members.proofs.sweeps.show_event.Goals as goal

pub returns : goal.returns
returns c =
    let a = c.args in
    stored_amounts a.b.now.words a.y a.s.now.words c.h_min.ensures c.set_h_min.ensures c.h_max.ensures c.set_h_max.ensures
