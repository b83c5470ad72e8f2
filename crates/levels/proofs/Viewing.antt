-- Views as the code makes them: they are the definitions', and their numbers are in range.
-- Assumes nothing.
use mathlib.Core.Path.{◌≡◌, sym, ap, ap₂, ◌∙◌}
use mathlib.Core.Bool.{Bool, true, false, not, ◌&&◌, ◌||◌}
use mathlib.Core.List.{List}
use Prim.Native.Nat.{ℕ, ◌<◌}
use lib.IntN.{ℤ, pos}
use Rattle.integers.specs.Range.{Within, eq_z}
use Rattle.integers.proofs.Linear.{ints, neg_law}
use Rattle.model.specs.Job.{h_max, Windows, Reservoir, Job, events, home}
use Rattle.model.specs.Standing.{SaneCage, Ranged}
use Rattle.model.specs.View.{side_value, side, side_limit, View, view_of, view, seen}
use Rattle.model.specs.Levels.{most}
use Rattle.model.specs.Rules.{Family, family_rule}
use Rattle.model.proofs.Agree.{Agree, at_hand, most_agree, family_rule_agree}
use Rattle.tables.specs.Job.{reservoir_of, Serves}
use Rattle.tables.specs.declared.Job.{Job as Code}
use Rattle.tables.proofs.Holding.{home_same, seen_side}
use Rattle.levels.specs.Values.{Views, Sighted}
use Rattle.levels.specs.declared.View.{View as Sight}

pub limit_within : (m : Bool) (c : Reservoir) → SaneCage c → Within (side_limit m c) 1000000
limit_within true c s = let h = s.max_range in omega (ints, neg_law c.max_level)
limit_within false c s = s.min_range

pub opening_within : (m : Bool) (c : Reservoir) → SaneCage c → Within (side_value m h_max c.initial) 1000000
opening_within true c s = let h = s.initial_range in omega (ints, neg_law c.initial)
opening_within false c s = s.initial_range

module _ {n : ℕ} {c : Reservoir} {m b : Bool} {e : ℕ} {v : Sight} (s : Views n c m b e v) where
  -- Its numbers, whatever the windows.
  none : Windows
  none y k = pos 0

  pub events_are : v.events ≡ n
  events_are = ap (λ (E : View). E.events) (s.is none)

  pub subject_is : v.subject ≡ e
  subject_is = ap (λ (E : View). E.subject) (s.is none)

  limit_is : v.limit.0 ≡ side_limit m c
  limit_is = ap (λ (E : View). E.limit) (s.is none)

  opening_is : v.opening.0 ≡ side_value m h_max c.initial
  opening_is = ap (λ (E : View). E.opening) (s.is none)

  -- A view made for an event of a job whose windows are in range.
  pub sighted : {W : Windows} → SaneCage c → Ranged n W → e < n → Sighted v W
  sighted d r l =
      record {
        ranged = rw events_are r;
        subject = rw (events_are, subject_is) l;
        limit_range = rw limit_is (limit_within m c d);
        opening_range = rw opening_is (opening_within m c d);
      }

  -- Its events are the job's.
  pub seen_event : {y : ℕ} → y < n → y < v.events
  seen_event l = rw events_are l

-- On windows that show a call's deliveries, its view tells them by the amounts at hand; in its one cage all events are seen.
module _ {k : Code} {ws : List ℤ} {j : Job} (m b : Bool) (e : ℕ) (W : Windows) (s : Serves k ws W j) (l : e < events j) where
  abbrev pub here_view : View
  here_view = view_of k.events (reservoir_of k.reservoir) (λ y. W y h_max) m b e

  pub before_here : (y : ℕ) → y < events j → (view j m b e).before y ≡ (at_hand j m b e W).before y
  before_here y p = ap (λ t. b || (not m && (eq_z (home j e).cover (pos 0) && t))) (sym (s.kinds y p))

  pub seen_here : Agree (events j) (seen j m e W) (side m W)
  seen_here y p i = seen_side s.holds m e W y i l p

  pub view_here : at_hand j m b e W ≡ here_view
  view_here = ap₂ (λ n c. view_of n c (λ y. W y h_max) m b e) s.holds.events_are (home_same s.holds e l)

  pub most_here : most (view j m b e) (seen j m e W) ≡ most here_view (side m W)
  most_here =
      most_agree (view j m b e) (at_hand j m b e W).before before_here (seen j m e W) (side m W) seen_here l
      ∙ ap (λ (E : View). most E (side m W)) view_here

  pub rule_here : (f : Family) (y : ℕ) → y < events j → family_rule f (view j m b e) (seen j m e W) y ≡ family_rule f here_view (side m W) y
  rule_here f y p =
      family_rule_agree (view j m b e) (at_hand j m b e W).before before_here (seen j m e W) (side m W) seen_here l f y p
      ∙ ap (λ (E : View). family_rule f E (side m W) y) view_here
