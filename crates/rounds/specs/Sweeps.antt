-- The attempts of a round in one cage, and what is known of a level between them.
use Rattle.std.specs.Prelude.{◌≡◌, Bool, true, false, List, [], ◌∷◌, ℕ, ◌+◌, ◌-◌, ◌<◌, ℤ}
use Rattle.model.specs.Job.{events, lags, Job as Call}
use Rattle.model.specs.Agenda.{Attempt, try, each_of, lag_attempts, event_attempts}
use Rattle.tables.specs.Board.{board}
use Rattle.tables.specs.Job.{reservoir_of}
use Rattle.levels.specs.Values.{as_view, seen_by, Views}
use Rattle.levels.specs.declared.View.{View}
use Rattle.silence.specs.Slack.{slack_of}
use Rattle.rounds.specs.declared.CageJob.{CageJob}

-- The first of the three rules in a row of a side, before (strict) or by.
abbrev pub first_of : Bool → Bool → ℕ
first_of false true = 3
first_of true true = 6
first_of false false = 9
first_of true false = 12

-- v is the view of a side at e, before or by.
abbrev pub Seen : CageJob → Bool → Bool → ℕ → View → Type 0
Seen k m strict e v = Views k.job.events (reservoir_of k.job.reservoir) m strict e v

-- v is one of the job's views, at one of its events.
pub record Looks (k : CageJob) (v : View) : Type 0 where
  pub views : Views k.job.events (reservoir_of k.job.reservoir) v.stance.mirror v.stance.strict v.subject v
  pub subject : v.subject < k.job.events

-- The first of the three rules of such a view.
abbrev pub first_in : View → ℕ
first_in v = first_of v.stance.mirror v.stance.strict

-- The level of the view on a board leaves s over its limit.
abbrev pub Leaves : View → List ℤ → ℤ → Type 0
Leaves v b s = s ≡ slack_of (as_view v (board b)) (seen_by v (board b))

-- Rules r and r + 1 at e, both with target e.
abbrev pub two_attempts : ℕ → ℕ → List Attempt
two_attempts r e = try r e e ∷ try (r + 1) e e ∷ []

-- Some events in order: from, from + 1, .. below to.
abbrev pub between_attempts : ℕ → ℕ → Call → List Attempt
between_attempts from to j = each_of (event_attempts j) from (to - from)

-- A round's two parts: all lags in table order, all events in order.
abbrev pub lags_attempts : Call → List Attempt
lags_attempts j = each_of (lag_attempts j) 0 (lags j)

abbrev pub events_attempts : Call → List Attempt
events_attempts j = each_of (event_attempts j) 0 (events j)
