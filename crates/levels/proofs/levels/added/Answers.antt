use Rattle.integers.proofs.Linear.{ints, add_law}
use Rattle.levels.proofs.Adding.{sum_none, sum_more}
use Rattle.levels.proofs.levels.added.Goals as goal

pub loop-y-init : goal.loop-y-init
loop-y-init g c = (λ f h. sum_none c.args.q.0 f, c.requires.opening)

pub loop-y-preserved : goal.loop-y-preserved
loop-y-preserved g c =
    let l = c.loop-y in
    let t = l.invariant.1 in
    let h = c.requires.small l.y c.loop-y-test.true c.gain.result c.gain.ensures in
    let s = c.add-total.ensures in
    (λ f is. sum_more c.args.q.0 f l.y (l.invariant.0 f is) (is l.y c.loop-y-test.true c.gain.result c.gain.ensures) s, omega (ints, t, h, s, add_law l.total.0 c.gain.result.0))
