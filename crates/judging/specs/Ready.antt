-- What a call has when it judges a slip, and what is asked of one fact.
use Rattle.std.specs.Prelude.{◌≡◌, Bool, true, false, ◌&&◌, List, ℕ, ◌*◌, ◌<◌, ◌≤◌, T, ℤ, pos, nat_abs, length, Option, Some, None}
use Rattle.std.specs.Int.Signed.{le_z}
use Rattle.integers.specs.Range.{Within}
use Rattle.model.specs.Job as model
use Rattle.model.specs.Job.{End, h_min, h_max, meets, Windows, windows, Inside, cage_at, begun, set_begin, in_set, events}
use Rattle.model.specs.Standing.{Sane, SaneSet, Ranged}
use Rattle.model.specs.Rules.{total, target_fits}
use Rattle.model.specs.Slips.{Premise, premise_event, premise_end}
use Rattle.model.specs.Questions.{is_event, in_range}
use Rattle.model.specs.Reader.{names}
use Rattle.tables.specs.Board.{board}
use Rattle.tables.specs.Job.{reservoir_of, call, Kinds, Fit}
use Rattle.tables.specs.declared.Job.{Job}
use Rattle.rules.specs.Values.{variant_of, rule_of}
use Rattle.rules.specs.declared.Variant.{Variant}
use Rattle.totals.specs.Totals.{Adds}
use Rattle.slips.specs.Slip.{explanation_of}
use Rattle.slips.specs.declared.Slip.{Slip}
use Rattle.judging.specs.declared.Call.{Call}
use Rattle.judging.specs.declared.Named.{Named}

-- The call of these cages, windows, lags and sets, with the code's horizon.
abbrev pub call_of : Job → List ℤ → List ℤ → List ℤ → List ℤ → model.Job
call_of k cs table ws gs = call k.horizon.0 cs table ws gs

-- The code's job has the call's first cage, and the call, of one cage or several, is sane.
pub record Seated (k : Job) (cs table ws gs : List ℤ) : Type 0 where
  pub sane : Sane (call_of k cs table ws gs)
  pub first : cage_at cs 0 ≡ reservoir_of k.reservoir
  pub long : length table ≡ 5 * k.events

-- The ends on the wide board are in range, and the standing windows on the board b lie inside it; both show the deliveries sent in.
pub record Ready (k : Job) (cs table ws gs wide b : List ℤ) : Type 0 where
  pub seated : Seated k cs table ws gs
  pub wide_range : Ranged k.events (board wide)
  pub range : Ranged k.events (board b)
  pub inside : Inside k.events (board wide) (board b)
  pub wide_kinds : Kinds k.events (board wide) (windows table)
  pub kinds : Kinds k.events (board b) (windows table)

-- The same of the tables as the code lends them.
abbrev pub job_of : Call → model.Job
job_of c = call_of c.job c.cages.now c.table.now c.lags.now c.sets.now

abbrev pub Sits : Call → Type 0
Sits c = Seated c.job c.cages.now c.table.now c.lags.now c.sets.now

-- The sets of a table, which the questions let pass in a job of n events.
pub record Grouped (n : ℕ) (gs : List ℤ) : Type 0 where
  pub few : begun gs 17 ≤ 16
  pub sane : (g : ℕ) → g < begun gs 17 → SaneSet n gs g

-- What 14 stands on: lags and sets in range, and as many events in the window table as the code's job has.
pub record Nameable (c : Call) : Type 0 where
  pub fit : Fit c.job c.lags.now
  pub grouped : Grouped c.job.events c.sets.now
  pub events_are : events (job_of c) ≡ c.job.events

abbrev pub ReadyFor : Call → List ℤ → Type 0
ReadyFor c b = Ready c.job c.cages.now c.table.now c.lags.now c.sets.now c.wide.now.words b

-- ---- a slip

-- 14, as the code answers it: the slip with its subject and target as numbers, or none.
abbrev pub Names14 : model.Job → Slip → Option Named → Type 0
Names14 j s (Some m) = (names j (explanation_of m.slip) ≡ true) × (m.slip ≡ s)
Names14 j s None = names j (explanation_of s) ≡ false

-- The slip names what is there: its rule can be tried on windows W.
pub record Sought (c : Call) (W : Windows) (s : Named) : Type 0 where
  pub seated : Sits c
  pub range : Ranged c.job.events W
  pub kinds : Kinds c.job.events W (windows c.table.now)
  pub named : T (names (job_of c) (explanation_of s.slip))

-- The same of a rule at an event, 3 to 14.
pub record AtHome (c : Call) (W : Windows) (s : Named) : Type 0 where
  pub seated : Sits c
  pub range : Ranged c.job.events W
  pub kinds : Kinds c.job.events W (windows c.table.now)
  pub variant : Variant
  pub rule_is : rule_of s.slip.rule ≡ variant_of variant
  pub event : s.subject < c.job.events
  pub there : s.target < c.job.events
  pub fits : T (target_fits (rule_of s.slip.rule) (job_of c) s.subject s.target)

-- Rule 17, in the mirror 18, of the slip can be tried on windows W with a set and its member.
pub record Totalled (gs : List ℤ) (W : Windows) (m : Bool) (s : Named) : Type 0 where
  pub rule_is : rule_of s.slip.rule ≡ total m
  pub few : s.subject ≤ 16
  pub adds : Adds gs (set_begin gs s.subject) W
  pub there : s.target < 64
  pub low : Within (W s.target h_min) 9999
  pub high : Within (W s.target h_max) 9999

-- y is a member of the set g of a call with these set words.
pub record Belongs (gs : List ℤ) (j : model.Job) (g y : ℕ) : Type 0 where
  pub sets_are : j.set_table ≡ gs
  pub sane : SaneSet (events j) gs g
  pub event : y < events j
  pub member : T (in_set j g y)

-- ---- a fact

-- 14. Its event is one of n, its kind 1..4.
abbrev pub fits_one : ℕ → Premise → Bool
fits_one n f = is_event n f.event && in_range (pos 1) (pos 4) f.kind

pub record Names (n : ℕ) (f : Premise) : Type 0 where
  pub event_low : T (le_z (pos 0) f.event)
  pub event_high : premise_event f < n
  pub kind_sign : T (le_z (pos 0) f.kind)
  pub kind_low : 1 ≤ nat_abs f.kind
  pub kind_high : nat_abs f.kind ≤ 4

-- 15. It is true of windows.
abbrev pub true_of : Windows → Premise → Bool
true_of W f = meets (premise_end f) f.value (W (premise_event f) (premise_end f))

-- Windows that agree on the events that a board holds.
abbrev pub Same : Windows → Windows → Type 0
Same W X = (y : ℕ) → y < 64 → (k : End) → W y k ≡ X y k
