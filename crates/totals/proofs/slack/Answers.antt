-- `totals::slack` takes the limit off the total. Assumes nothing.
use native.Mathlib.Omega.{arith}
use Rattle.tables.specs.Board.{board}
use Rattle.levels.proofs.Adding.{wider, apart}
use Rattle.totals.proofs.Summing.{limit_within}
use Rattle.totals.proofs.Slackening.{slack_is, slackens}
use Rattle.totals.proofs.slack.Goals as goal

pub returns : goal.returns
returns c =
    let a = c.args in
    let W = board a.b.now.words in
    let t = c.total.ensures in
    let l = c.limit.ensures in
    let d = c.sub.ensures in (
      λ j g o. slackens a.mirror j g W (slack_is a.mirror a.set.table.now a.set.at W t.0 l d) o,
      apart d t.1 (wider {l = 639936} l (limit_within a.mirror c.requires) (omega arith)) (omega arith),
    )
