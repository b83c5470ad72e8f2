use Rattle.std.proofs.Common.{sym, ◌∙◌, arith}
use Rattle.sets.proofs.Walking.{begun_all}
use Rattle.sets.proofs.sets.Goals as goal

pub returns-then-set-ws : goal.returns-then-set-ws
returns-then-set-ws c =
    let l = c.loop-k in
    let i = l.invariant in
    let ended = c.if-set-ws.true in
    (sym i.0 ∙ sym (begun_all c.args.ws.now l.k (rw i.2 at ended) 17 (omega arith)), omega arith)

pub returns : goal.returns
returns c =
    let e = c.loop-k.invariant.0 in
    let l = c.loop-k-test.false in
    grind arith
