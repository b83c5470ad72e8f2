-- The facts of a slip as the code holds them: which are quoted and what is said of them, by the values made once for the slip.
use Rattle.std.specs.Prelude.{◌≡◌, Bool, true, false, not, cond, ◌&&◌, ◌||◌, List, ℕ, ◌<◌, T, eqb, ℤ, pos, is_some, Option, None, Some}
use Rattle.model.specs.Job.{End, t_min, t_max, h_min, h_max, Windows, Job as Call, any, produces, consumes, in_set}
use Rattle.model.specs.View.{side, side_end, side_value, View}
use Rattle.model.specs.Levels.{place}
use Rattle.model.specs.Rules.{Family, Rule, total, targeted, Effect}
use Rattle.model.specs.Facts.{late, early, family_cites, family_says, quotes, quoted}
use Rattle.tables.specs.Job.{Serves}
use Rattle.tables.specs.declared.Job.{Job}
use Rattle.tables.specs.declared.ends.Word.{Word}
use Rattle.levels.specs.Values.{as_view, seen_by}
use Rattle.levels.specs.declared.View.{View as Sight}
use Rattle.rules.specs.declared.lags.Lag.{Lag as Pair}
use Rattle.rules.specs.Values.{effect_of}
use Rattle.rules.specs.declared.Effect.{Effect as Done}
use Rattle.facts.specs.declared.LagCiting.{LagCiting}
use Rattle.facts.specs.declared.LevelCiting.{LevelCiting}
use Rattle.facts.specs.declared.TotalCiting.{TotalCiting}
use Rattle.facts.specs.declared.Citing.{Citing}
use Rattle.facts.specs.declared.Citing.TheVariants.{Lag, Level, Total}
use Rattle.facts.specs.declared.Others.{Others}
use Rattle.facts.specs.declared.Quoted.{Quoted}

-- ---- of one event

-- Is event y a pull other than e that the level of e, whose time window is u..v, surely counts; is it a delivery that it leaves out?
pub record Other (E : View) (W : Windows) (u v : ℤ) (y : ℕ) (o : Others) : Type 0 where
  pub early : o.early ≡ early E W u v y
  pub late : o.late ≡ late E W u v y

-- Is one of the first n events such a pull, is one such a delivery?
pub record Any (n : ℕ) (E : View) (W : Windows) (u v : ℤ) (o : Others) : Type 0 where
  pub early : o.early ≡ any n (early E W u v)
  pub late : o.late ≡ any n (late E W u v)

-- ---- of a slip

-- The value of a word that is there.
abbrev pub value_of : Option Word → ℤ
value_of None = pos 0
value_of (Some w) = w.0

-- A lag's: does it quote the end k of event z, and what does it say of it?
abbrev pub lag_cited : LagCiting → ℕ → End → Bool
lag_cited c z t_min = is_some c.from && eqb z c.a
lag_cited c z t_max = is_some c.to && eqb z c.b
lag_cited c z h_min = false
lag_cited c z h_max = false

abbrev pub lag_said : LagCiting → ℕ → End → ℤ
lag_said c z t_min = value_of c.from
lag_said c z t_max = value_of c.to
lag_said c z h_min = pos 0
lag_said c z h_max = pos 0

-- Is z the target that it spares?
abbrev pub spared_is : Option ℕ → ℕ → Bool
spared_is None z = false
spared_is (Some y) z = eqb z y

-- A reservoir rule's.
module _ (c : LevelCiting) (W : Windows) (z : ℕ) where
  abbrev pub height_cited : Bool
  height_cited =
      not (spared_is c.spared z)
      && targeted (place (as_view c.view W) (seen_by c.view W) c.from.0 c.to.0 z) (seen_by c.view W z h_max)

  abbrev pub level_cited : End → Bool
  level_cited t_min =
      cond (eqb z c.view.subject) c.starts (late (as_view c.view W) (seen_by c.view W) c.from.0 c.to.0 z)
  level_cited t_max =
      cond (eqb z c.view.subject) c.ends (early (as_view c.view W) (seen_by c.view W) c.from.0 c.to.0 z)
  level_cited h_min = c.view.stance.mirror && height_cited
  level_cited h_max = not c.view.stance.mirror && height_cited

  abbrev pub level_said : End → ℤ
  level_said t_min = cond (eqb z c.view.subject) c.from.0 c.after.0
  level_said t_max = cond (eqb z c.view.subject) c.to.0 c.until.0
  level_said h_min = W z h_min
  level_said h_max = W z h_max

-- A set's, on windows in which only the members have amounts.
module _ (c : TotalCiting) (W : Windows) (z : ℕ) where
  abbrev pub total_cited : Bool
  total_cited =
      cond (eqb z c.target) c.failed (consumes (side c.mirror W z h_max) || produces (side c.mirror W z h_max))

  abbrev pub set_cited : End → Bool
  set_cited t_min = false
  set_cited t_max = false
  set_cited h_min = c.mirror && total_cited
  set_cited h_max = not c.mirror && total_cited

abbrev pub cites_of : Citing → Windows → ℕ → End → Bool
cites_of (Lag c) W z k = lag_cited c z k
cites_of (Level c) W z k = level_cited c W z k
cites_of (Total c) W z k = set_cited c W z k

abbrev pub says_of : Citing → Windows → ℕ → End → ℤ
says_of (Lag c) W z k = lag_said c z k
says_of (Level c) W z k = level_said c W z k
says_of (Total c) W z k = W z k

-- The events of a lag's slip are events of n.
abbrev pub Known : ℕ → Citing → Type 0
Known n (Lag c) = (c.a < n) × (c.b < n)
Known n (Level c) = Unit {0}
Known n (Total c) = Unit {0}

-- ---- of a rule

-- A word is there by a test, and then it is v.
abbrev pub Told : Bool → ℤ → Option Word → Type 0
Told t v w = (is_some w ≡ t) × (T t → value_of w ≡ v)

-- c decides the facts of a slip of a lag.
pub record LagCites (starts ends : Bool) (l : Pair) (W : Windows) (c : LagCiting) : Type 0 where
  pub a_is : c.a ≡ l.a
  pub b_is : c.b ≡ l.b
  pub from_is : Told starts (W l.a t_min) c.from
  pub to_is : Told ends (W l.b t_max) c.to

-- c decides the facts of a slip of a family of reservoir rules in a view.
pub record LevelCites (f : Family) (v : Sight) (W : Windows) (y : ℕ) (x : Effect) (c : LevelCiting) : Type 0 where
  pub cites : (z : ℕ) (k : End) → level_cited c W z k ≡ family_cites f (as_view v W) (seen_by v W) y x z (side_end v.stance.mirror k)
  pub says : (z : ℕ) (k : End) → T (level_cited c W z k) → level_said c W z k ≡ side_value v.stance.mirror k (family_says f (as_view v W) (seen_by v W) x z (side_end v.stance.mirror k))

-- c decides the facts of the slip of rule r with subject e, target y and effect x.
pub record Cites (k : Job) (ws : List ℤ) (W : Windows) (r : Rule) (e y : ℕ) (x : Done) (c : Citing) : Type 0 where
  pub known : Known k.events c
  pub cites : (j : Call) → Serves k ws W j → (z : ℕ) → z < k.events → (l : End) → cites_of c W z l ≡ quotes r j W e y (effect_of x) z l
  pub says : (j : Call) → Serves k ws W j → (z : ℕ) → z < k.events → (l : End) → T (cites_of c W z l) → says_of c W z l ≡ quoted r j W e y (effect_of x) z l

-- Of the first n events the windows X show the amounts of those of a test as they are in W, and 0 for the others.
pub record Shows (n : ℕ) (own : ℕ → Bool) (W X : Windows) : Type 0 where
  pub low : (z : ℕ) → z < n → X z h_min ≡ cond (own z) (W z h_min) (pos 0)
  pub high : (z : ℕ) → z < n → X z h_max ≡ cond (own z) (W z h_max) (pos 0)

-- c decides, on windows that show a set's members only, the facts of the slip of rule 17, in the mirror 18, with one of them, y, for target and effect x, whatever the set.
pub record TotalCites (m : Bool) (y : ℕ) (x : Effect) (c : Citing) : Type 0 where
  pub known : (n : ℕ) → Known n c
  pub cites : (j : Call) (g n : ℕ) (W X : Windows) → Shows n (in_set j g) W X → (z : ℕ) → z < n → (k : End) → cites_of c X z k ≡ quotes (total m) j W g y x z k
  pub says : (j : Call) (g n : ℕ) (W X : Windows) → Shows n (in_set j g) W X → in_set j g y ≡ true → (z : ℕ) → z < n → (k : End) → T (cites_of c X z k) → says_of c X z k ≡ quoted (total m) j W g y x z k

-- Which facts of event z a reservoir rule's slip quotes.
pub record Quotes (c : LevelCiting) (W : Windows) (z : ℕ) (f : Quoted) : Type 0 where
  pub lower : f.lower ≡ level_cited c W z t_min
  pub upper : f.upper ≡ level_cited c W z t_max
  pub height : f.height ≡ height_cited c W z
