-- Places and views as the code has them, what is seen in a view, and the numbers in play.
use Rattle.std.specs.Prelude.{◌≡◌, Bool, true, false, not, ◌&&◌, ◌||◌, List, ℕ, ◌<◌, ℤ}
use Rattle.integers.specs.Range.{Within}
use Rattle.model.specs.Job.{t_min, t_max, h_max, Windows, ahead, produces, Reservoir}
use Rattle.model.specs.Standing.{Ranged}
use Rattle.tables.specs.Board.{board}
use Rattle.model.specs.View as model
use Rattle.model.specs.View.{side, view_of}
use Rattle.model.specs.Levels.{Place, sure, possible, never, placed, gain}
use Rattle.levels.specs.declared.Place.{Place as Tested}
use Rattle.levels.specs.declared.Stance.{Stance}
use Rattle.levels.specs.declared.View.{View}

-- A place by its two tests.
abbrev pub place_by : Bool → Bool → Place
place_by true b = sure
place_by false true = possible
place_by false false = never

-- The code's place.
abbrev pub place_of : Tested → Place
place_of p = place_by p.sure p.possible

-- Is "before" meant of y on windows W, by a rule that counts so.
abbrev pub strict_at : Stance → Windows → ℕ → Bool
strict_at s W y = s.strict || (not s.mirror && (s.later && produces (W y h_max)))

-- The code's view on windows W: how it counts, and the windows as it sees them.
abbrev pub as_view : View → Windows → model.View
as_view v W =
    record {
      subject = v.subject;
      events = v.events;
      limit = v.limit.0;
      opening = v.opening.0;
      before = strict_at v.stance W;
    }

abbrev pub seen_by : View → Windows → Windows
seen_by v W = side v.stance.mirror W

-- It is the view at e of side m, before (b true) or by, of n events and a cage, with the amounts of the windows at hand.
pub record Views (n : ℕ) (c : Reservoir) (m b : Bool) (e : ℕ) (v : View) : Type 0 where
  pub is : (W : Windows) → as_view v W ≡ view_of n c (λ y. W y h_max) m b e
  pub side_is : v.stance.mirror ≡ m
  pub strict_is : v.stance.strict ≡ b

-- Its numbers are in range, and those of the windows at hand.
pub record Sighted (v : View) (W : Windows) : Type 0 where
  pub ranged : Ranged v.events W
  pub subject : v.subject < v.events
  pub limit_range : Within v.limit.0 1000000
  pub opening_range : Within v.opening.0 1000000

-- So are those of a board's words.
abbrev pub OnBoard : View → List ℤ → Type 0
OnBoard v b = Sighted v (board b)

-- What y, as another event than e, adds to the level of e, whose time window is u..v; s says before or by.
abbrev pub other_gains : (ℕ → Bool) → Windows → ℤ → ℤ → ℕ → ℤ
other_gains s W u v y = gain (placed false (s y) (ahead (s y) (W y t_max) u) (ahead (s y) (W y t_min) v)) (W y h_max)
