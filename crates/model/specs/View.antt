-- Document 01, "The fourteen rules": what a rule at an event sees. The mirror, before and by, the limit and the opening stock of the event's cage, and which events are in it are all said here; levels, rules and facts read nothing else.
use Rattle.std.specs.Prelude.{Bool, true, false, not, cond, ◌&&◌, ◌||◌, ℕ, eqb, ℤ, pos, neg_ℤ}
use Rattle.model.specs.Job.{End, t_min, t_max, h_min, h_max, Windows, Reservoir, Job, events, counts_later, sent, home, cage_of}

-- ---- the mirror

-- Negate all amounts and Q, exchange and negate the limits. A side is the job as it stands (false) or its mirror (true).
abbrev pub side_value : Bool → End → ℤ → ℤ
side_value false k v = v
side_value true t_min v = v
side_value true t_max v = v
side_value true h_min v = neg_ℤ v
side_value true h_max v = neg_ℤ v

abbrev pub side_end : Bool → End → End
side_end false k = k
side_end true t_min = t_min
side_end true t_max = t_max
side_end true h_min = h_max
side_end true h_max = h_min

abbrev pub side : Bool → Windows → Windows
side m W y k = side_value m k (W y (side_end m k))

-- The limit that the level must reach: Lmin, in the mirror Lmax negated.
abbrev pub side_limit : Bool → Reservoir → ℤ
side_limit false c = c.min_level
side_limit true c = neg_ℤ c.max_level

-- ---- the view

-- How a rule counts at an event, its subject: the number of events, the limit, the opening stock, and of each event whether "before" (true) or "by" (false) is meant.
pub record View : Type 0 where
  pub subject : ℕ
  pub events : ℕ
  pub limit : ℤ
  pub opening : ℤ
  pub before : ℕ → Bool

-- The view at e of a rule of side m that speaks of "before" (b true) or "by": of n events, h an amount of each, and a cage.
-- With cover 0, rules 9 to 11 take deliveries, e included, as rules 3 to 5 do.
abbrev pub view_of : ℕ → Reservoir → (ℕ → ℤ) → Bool → Bool → ℕ → View
view_of n c h m b e =
    record {
      subject = e;
      events = n;
      limit = side_limit m c;
      opening = side_value m h_max c.initial;
      before = λ y. b || (not m && counts_later c (h y));
    }

-- In a job: the cage is e's; what is a delivery is read off the amounts sent in, and does not change in a call.
abbrev pub view : Job → Bool → Bool → ℕ → View
view j m b e = view_of (events j) (home j e) (λ y. sent j y h_max) m b e

-- ---- what is seen

-- An event of another cage is seen as neutral: so it counts nowhere, gives no fact and is no target.
abbrev pub here : Job → ℕ → ℕ → Bool
here j e y = eqb (cage_of j y) (cage_of j e)

abbrev pub shown : Bool → End → ℤ → ℤ
shown b t_min v = v
shown b t_max v = v
shown b h_min v = cond b v (pos 0)
shown b h_max v = cond b v (pos 0)

-- Windows on the side m of which only the events of a test are shown.
abbrev pub look : (ℕ → Bool) → Bool → Windows → Windows
look own m W y k = shown (own y) k (side m W y k)

-- The windows as a rule of side m at e sees them.
abbrev pub seen : Job → Bool → ℕ → Windows → Windows
seen j m e W = look (here j e) m W
