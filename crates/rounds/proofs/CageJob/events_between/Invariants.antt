-- `rounds::CageJob::events_between` goes through the events from..to, and passes over those at which no rule does anything, or over all of them. The loop's invariant: those of the events so far are made, and d is the largest width. Assumes nothing.
use mathlib.Core.Path.{◌≡◌}
use Rattle.integers.specs.Range.{Within}
use Rattle.tables.specs.Board.{board}
use Rattle.silence.specs.Calm.{spread_of}
use Rattle.rounds.specs.State.{Made}
use Rattle.rounds.specs.Sweeps.{between_attempts}
use Rattle.rounds.proofs.CageJob.events_between.Given as goal

abbrev pub invariant-loop-e : goal.invariant-loop-e
invariant-loop-e l =
    Made (between_attempts l.from l.e) l.initial.self l.initial.log l.self l.log × (l.d.0 ≡ spread_of l.n (board l.self.board.now.words)) × Within l.d.0 20000
