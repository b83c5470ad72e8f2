-- `slips::writing::Quoting::count` counts a lag's two facts, else those of all events. Assumes nothing.
use Rattle.slips.proofs.Filling.{lag_listed, lag_length}
use Rattle.slips.proofs.writing.Quoting.count.Goals as goal

pub returns-in-Lag : goal.returns-in-Lag
returns-in-Lag c =
    let e = c.in-Lag.is in
    let k = c.in-Lag.c in
    rw (e, lag_listed k c.args.self.now.events (rw e at c.requires.known), lag_length k, c.from.ensures, c.from-in-Lag.ensures, c.is_some.ensures, c.is_some-in-Lag.ensures)
