-- `slips::writer::Writer::put_facts` appends a lag's facts at once, else those of all events. Assumes nothing.
use native.Mathlib.Omega.{arith}
use Rattle.slips.proofs.Filling.{lag_listed}
use Rattle.slips.proofs.writer.Writer.put_facts.Goals as goal

pub put_lag-requires : goal.put_lag-requires
put_lag-requires c =
    let e = c.in-Lag.is in
    let k = c.in-Lag.c in
    let known = rw e at c.requires.0.known in
    let few = c.requires.0.ranged.few in
    (rw (← lag_listed k c.args.quoting.now.events known) (rw e at c.requires.1), omega arith, omega arith)

pub returns-in-Lag-clause-words : goal.returns-in-Lag-clause-words
returns-in-Lag-clause-words c =
    let e = c.in-Lag.is in
    rw (e, lag_listed c.in-Lag.c c.args.quoting.now.events (rw e at c.requires.0.known)) c.put_lag.ensures.words
