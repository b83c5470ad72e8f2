-- The code's job as the definitions': the reservoir, the job of one cage with its lent lag words, the windows at hand, and the ranges.
use Rattle.std.specs.Prelude.{◌≡◌, List, [], ◌∷◌, ℕ, ◌/◌, ◌≤◌, ◌<◌, ℤ, pos, length, ◌≤ℤ◌}
use Rattle.model.specs.Job as model
use Rattle.model.specs.Job.{h_max, Windows, produces, events, sent, cages, cage, cage_at, cage_word}
use Rattle.model.specs.Standing.{SaneCage, SaneLag}
use Rattle.tables.specs.Board.{table_of}
use Rattle.tables.specs.declared.Reservoir.{Reservoir}
use Rattle.tables.specs.declared.Job.{Job}

-- The code's reservoir.
abbrev pub reservoir_of : Reservoir → model.Reservoir
reservoir_of c =
    record { min_level = c.low.0; max_level = c.high.0; initial = c.initial.0; cover = c.cover.0 }

-- The code's job is that of cage c of a cage table, with this horizon and so many events.
pub record OfCage (h : ℤ) (cages : List ℤ) (c n : ℕ) (k : Job) : Type 0 where
  pub horizon_is : k.horizon.0 ≡ h
  pub reservoir_is : reservoir_of k.reservoir ≡ cage_at cages c
  pub events_are : k.events ≡ n

-- Its words in a cage table.
abbrev pub cage_words : Reservoir → List ℤ
cage_words c = c.low.0 ∷ c.high.0 ∷ c.initial.0 ∷ c.cover.0 ∷ []

-- The job of a call's words: H, cages, windows, lags, sets.
abbrev pub call : ℤ → List ℤ → List ℤ → List ℤ → List ℤ → model.Job
call h cages table lags sets =
    record { horizon = h; cage_table = cages; window_table = table; lag_table = lags; set_table = sets }

-- The code's job with its lent lag words is a call's of one cage: all of it but the sets, and the windows sent in, of which the code's has the number of events.
pub record Holds (k : Job) (ws : List ℤ) (j : model.Job) : Type 0 where
  pub horizon_is : j.horizon ≡ k.horizon.0
  pub cages_are : cages j ≡ 1
  pub reservoir_is : cage j 0 ≡ reservoir_of k.reservoir
  pub home_is : (y : ℕ) → y < events j → cage_word j.window_table y ≡ pos 0
  pub events_are : events j ≡ k.events
  pub lags_are : j.lag_table ≡ ws

-- There is such a call for every board: the one with its window table, all events in the one cage, and no set.
abbrev pub board_call : Job → List ℤ → List ℤ → model.Job
board_call k ws b = call k.horizon.0 (cage_words k.reservoir) (table_of k.events [] b) ws []

-- Of the first n events the same are deliveries on windows W and on X.
abbrev pub Kinds : ℕ → Windows → Windows → Type 0
Kinds n W X = (y : ℕ) → y < n → produces (W y h_max) ≡ produces (X y h_max)

-- The code's job is a call's, and windows W show which events are deliveries in it: what the rules read with cover 0.
pub record Serves (k : Job) (ws : List ℤ) (W : Windows) (j : model.Job) : Type 0 where
  pub holds : Holds k ws j
  pub kinds : Kinds (events j) W (sent j)

-- Its numbers are in the ranges that the job's own questions let pass.
pub record Fit (k : Job) (ws : List ℤ) : Type 0 where
  pub horizon_low : pos 0 ≤ℤ k.horizon.0
  pub horizon_high : k.horizon.0 ≤ℤ pos 20000
  pub cage : SaneCage (reservoir_of k.reservoir)
  pub few_events : k.events ≤ 64
  pub few_lags : length ws / 3 ≤ 256
  pub lag : (g : ℕ) → g < length ws / 3 → SaneLag k.events ws g
