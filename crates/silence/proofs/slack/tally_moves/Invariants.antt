-- `silence::slack::tally_moves` counts event by event. The loop's invariant: the total is that of the first y events. Assumes nothing.
use mathlib.Core.Path.{◌≡◌}
use Prim.Native.Nat.{◌≤◌}
use Rattle.tables.specs.Board.{board}
use Rattle.model.specs.View.{side}
use Rattle.levels.specs.Values.{strict_at}
use Rattle.silence.specs.Slack.{may_move, count}
use Rattle.silence.proofs.slack.tally_moves.Given as goal

abbrev pub invariant-loop-y : goal.invariant-loop-y
invariant-loop-y l = (l.total ≡ count l.y (may_move (strict_at l.s (board l.b.words)) (side l.s.mirror (board l.b.words)) (board l.b.words) l.u.0 l.v.0 l.k.0)) × (l.total ≤ l.y)
