-- Which facts a slip quotes and what it says of them, as `facts::premises` computes it.
-- Assumes nothing.
use mathlib.Core.Path.{◌≡◌, refl, sym, ap, subst, ◌∙◌}
use mathlib.Core.Bool.{Bool, true, false, not, cond, ◌&&◌, ◌||◌}
use mathlib.Core.List.{List}
use Prim.Native.Nat.{ℕ, ◌+◌, ◌/◌, ◌<◌}
use native.Mathlib.Omega.{arith}
use native.Mathlib.Numerals.{add-one}
use borrow.Author.Tests.{eqb-true}
use lib.Dec.{T, eqb}
use lib.IntN.{ℤ, pos, neg_ℤ}
use lib.ListN.{length}
use Rattle.std.specs.Prelude.{is_some}
use Rattle.integers.specs.Range.{Within}
use Rattle.integers.proofs.Linear.{ints, sub_law, neg_law}
use Rattle.integers.proofs.Tests.{is_true}
use Rattle.model.specs.Job.{End, t_min, t_max, h_min, h_max, Windows, Job as Call, events, produces, consumes, any}
use Rattle.model.specs.Standing.{span}
use Rattle.model.specs.View.{side, side_value, side_end, View, view, seen, look}
use Rattle.model.specs.Levels.{Place, sure, possible, never, place, e_min, e_max}
use Rattle.model.specs.Rules.{Family, level, time, height, lag_upper, lag_lower, reservoir, Effect, idle, narrows, fails, failed}
use Rattle.model.specs.Facts.{lag_cites, first_late, last_early, left_out, surely_consumed, latest, quotes_top, spares, drops, family_cites, family_says, total_cites, quotes, quoted}
use Rattle.model.proofs.Agree.{at_hand, cites_agree, says_agree}
use Rattle.tables.specs.Job.{reservoir_of, Serves, Fit}
use Rattle.tables.specs.declared.Job.{Job}
use Rattle.tables.specs.declared.measures.Time.{Time}
use Rattle.levels.specs.Values.{strict_at, as_view, seen_by, Views}
use Rattle.levels.specs.declared.View.{View as Sight}
use Rattle.levels.proofs.Viewing.{here_view, before_here, seen_here, view_here}
use Rattle.rules.specs.Values.{effect_of, IsLag}
use Rattle.rules.specs.declared.lags.Lag.{Lag as Pair}
use Rattle.rules.specs.declared.Effect.{Effect as Done}
use Rattle.std.specs.Bool.{then_some}
use Rattle.facts.specs.Quotes.{Any, spared_is, lag_cited, lag_said, height_cited, level_cited, level_said, total_cited, set_cited, LagCites, LevelCites, Cites, Shows, TotalCites}
use Rattle.facts.specs.declared.LagCiting.{LagCiting}
use Rattle.facts.specs.declared.LevelCiting.{LevelCiting}
use Rattle.facts.specs.declared.TotalCiting.{TotalCiting}
use Rattle.facts.specs.declared.Citing.TheVariants.{Lag, Level, Total}

-- ---- the tests for one event

or_false : (b : Bool) → (b || false) ≡ b
or_false true = refl
or_false false = refl

-- ---- over all events

pub any_none : (p : ℕ → Bool) → false ≡ any 0 p
unfolding any
any_none p = refl

pub any_more : (p : ℕ → Bool) (y : ℕ) {x o r : Bool} → x ≡ any y p → o ≡ p y → r ≡ (x || o) → r ≡ any (y + 1) p
unfolding any
any_more p y a b d = rw (add-one y) (cc)

-- ---- a reservoir rule's slip

neg_neg : (a : ℤ) → a ≡ neg_ℤ (neg_ℤ a)
neg_neg a = omega (ints, neg_law a, neg_law (neg_ℤ a))

-- A fact of a side read back: times are as they are, the mirror's h ≤ is h ≥.
time_end : (m : Bool) (g : End → Bool) → (g t_min ≡ g (side_end m t_min)) × (g t_max ≡ g (side_end m t_max))
time_end true g = (refl, refl)
time_end false g = (refl, refl)

height_end : (m : Bool) {t : Bool} (g : End → Bool) → t ≡ g h_max → false ≡ g h_min → ((m && t) ≡ g (side_end m h_min)) × ((not m && t) ≡ g (side_end m h_max))
height_end true g p q = (p, q)
height_end false g p q = (q, p)

time_back : (m : Bool) (g : End → ℤ) → (g t_min ≡ side_value m t_min (g (side_end m t_min))) × (g t_max ≡ side_value m t_max (g (side_end m t_max)))
time_back true g = (refl, refl)
time_back false g = (refl, refl)

height_back : (m : Bool) (W : Windows) (z : ℕ) (g : End → ℤ) → g h_min ≡ side m W z h_min → g h_max ≡ side m W z h_max →
    (W z h_min ≡ side_value m h_min (g (side_end m h_min))) × (W z h_max ≡ side_value m h_max (g (side_end m h_max)))
height_back true W z g p q = (rw q (neg_neg (W z h_min)), rw p (neg_neg (W z h_max)))
height_back false W z g p q = (sym p, sym q)

-- A delivery not counted, and a pull surely counted, by their amounts; where "before" is meant of them.
out_makes : (p : Place) (h : ℤ) → T (left_out p h) → produces h ≡ true
out_makes sure h t = absurd t
out_makes possible h t = absurd t
out_makes never h t = is_true (produces h) t

consumed_takes : (p : Place) (h : ℤ) → T (surely_consumed p h) → produces h ≡ false
consumed_takes sure h t = omega ints
consumed_takes possible h t = absurd t
consumed_takes never h t = absurd t

and_true : (b : Bool) → (b && true) ≡ b
and_true true = refl
and_true false = refl

and_false : (b : Bool) → (b && false) ≡ false
and_false true = refl
and_false false = refl

before_made : (m s l : Bool) (W : Windows) (z : ℕ) → produces (side m W z h_max) ≡ true → strict_at (record { mirror = m; strict = s; later = l }) W z ≡ (s || (not m && l))
before_made true s l W z e = refl
before_made false s l W z e = rw (e, and_true l)

before_taken : (m s l : Bool) (W : Windows) (z : ℕ) → produces (side m W z h_max) ≡ false → strict_at (record { mirror = m; strict = s; later = l }) W z ≡ s
before_taken true s l W z e = or_false s
before_taken false s l W z e = rw (e, and_false l) (or_false s)

-- The target is spared, or none is.
spared_at : (s : Bool) (y z : ℕ) → spared_is (then_some s y) z ≡ (s && eqb z y)
spared_at true y z = refl
spared_at false y z = refl

-- What is said of an event that is quoted: e's own value, or another's.
own_said : (own s q : Bool) (a : ℤ) {x y : ℤ} → T (cond own s (not own && q)) → (T q → x ≡ y) → cond own a x ≡ cond own a y
own_said true s q a t f = refl
own_said false s q a t f = f t

module _
    (view : Sight) (f : Family) (W : Windows) (y : ℕ) (x : Effect)
    (u v after until : Time) (starts top ends spared : Bool)
    (from : u.0 ≡ e_min (as_view view W) (seen_by view W))
    (to : v.0 ≡ latest f (e_max (as_view view W) (seen_by view W)) x)
    (next : after.0 ≡ first_late (view.stance.strict || (not view.stance.mirror && view.stance.later)) v.0)
    (last : until.0 ≡ last_early view.stance.strict u.0)
    (others : Any view.events (as_view view W) (seen_by view W) u.0 v.0 (record { early = starts; late = ends }))
    (tops : top ≡ quotes_top f)
    (spare : spared ≡ spares f x)
  where
    abbrev held : LevelCiting
    held = record { view = view; from = u; to = v; after = after; until = until; starts = starts; ends = top && ends; spared = then_some spared y }

    abbrev cites_here : ℕ → End → Bool
    cites_here = family_cites f (as_view view W) (seen_by view W) y x

    abbrev says_here : ℕ → End → ℤ
    says_here = family_says f (as_view view W) (seen_by view W) x

    cites_lower : (z : ℕ) → level_cited held W z t_min ≡ cites_here z t_min
    cites_lower z = rw (others.early, from, to)

    cites_upper : (z : ℕ) → level_cited held W z t_max ≡ cites_here z t_max
    cites_upper z = rw (others.late, tops, from, to)

    cites_high : (z : ℕ) → height_cited held W z ≡ cites_here z h_max
    cites_high z = rw (spared_at spared y z, spare, from, to)

    abbrev own : ℕ → Bool
    own z = eqb z view.subject

    abbrev stands_at : ℕ → Place
    stands_at z = place (as_view view W) (seen_by view W) u.0 v.0 z

    abbrev amount : ℕ → ℤ
    amount z = seen_by view W z h_max

    says_lower : (z : ℕ) → T (level_cited held W z t_min) → level_said held W z t_min ≡ says_here z t_min
    says_lower z t =
        rw (← from, ← to)
        (own_said (own z) starts (left_out (stands_at z) (amount z)) u.0 t
        (λ o. next ∙ ap (λ b. first_late b v.0) (sym (before_made view.stance.mirror view.stance.strict view.stance.later W z (out_makes (stands_at z) (amount z) o)))))

    says_upper : (z : ℕ) → T (level_cited held W z t_max) → level_said held W z t_max ≡ says_here z t_max
    says_upper z t =
        rw (← from, ← to)
        (own_said (own z) (top && ends) (surely_consumed (stands_at z) (amount z)) v.0 t
        (λ o. last ∙ ap (λ b. last_early b u.0) (sym (before_taken view.stance.mirror view.stance.strict view.stance.later W z (consumed_takes (stands_at z) (amount z) o)))))

    pub level_cites : LevelCites f view W y x held
    level_cites = record { cites = all_cites; says = all_says }
      where
        all_cites : (z : ℕ) (k : End) → level_cited held W z k ≡ cites_here z (side_end view.stance.mirror k)
        all_cites z t_min = cites_lower z ∙ (time_end view.stance.mirror (cites_here z)).0
        all_cites z t_max = cites_upper z ∙ (time_end view.stance.mirror (cites_here z)).1
        all_cites z h_min = (height_end view.stance.mirror (cites_here z) (cites_high z) refl).0
        all_cites z h_max = (height_end view.stance.mirror (cites_here z) (cites_high z) refl).1

        all_says : (z : ℕ) (k : End) → T (level_cited held W z k) → level_said held W z k ≡ side_value view.stance.mirror k (says_here z (side_end view.stance.mirror k))
        all_says z t_min t = says_lower z t ∙ (time_back view.stance.mirror (says_here z)).0
        all_says z t_max t = says_upper z t ∙ (time_back view.stance.mirror (says_here z)).1
        all_says z h_min t = (height_back view.stance.mirror W z (says_here z) refl refl).0
        all_says z h_max t = (height_back view.stance.mirror W z (says_here z) refl refl).1

-- ---- in a call

-- On windows that serve a call of one cage, its facts are told by the amounts at hand.
module _ {j : Call} {k : Job} {ws : List ℤ} (m b : Bool) (e : ℕ) (W : Windows) (s : Serves k ws W j) (l : e < events j) (f : Family) where
  call_cites : (y : ℕ) (x : Effect) (z : ℕ) → z < events j → (i : End) → family_cites f (view j m b e) (seen j m e W) y x z i ≡ family_cites f (here_view m b e W s l) (side m W) y x z i
  call_cites y x z n i =
      cites_agree (view j m b e) (at_hand j m b e W).before (before_here m b e W s l) (seen j m e W) (side m W) (seen_here m b e W s l)
      (e_min (view j m b e) (seen j m e W)) (latest f (e_max (view j m b e) (seen j m e W)) x) (quotes_top f) (drops f x y) z n i
      ∙ ap (λ (E : View). family_cites f E (side m W) y x z i) (view_here m b e W s l)

  call_says : (x : Effect) (z : ℕ) → z < events j → (i : End) → family_says f (view j m b e) (seen j m e W) x z i ≡ family_says f (here_view m b e W s l) (side m W) x z i
  call_says x z n i =
      says_agree (view j m b e) (at_hand j m b e W).before (before_here m b e W s l) (seen j m e W) (side m W) (seen_here m b e W s l)
      (e_min (view j m b e) (seen j m e W)) (latest f (e_max (view j m b e) (seen j m e W)) x) z n i
      ∙ ap (λ (E : View). family_says f E (side m W) x z i) (view_here m b e W s l)

-- ---- by number

-- A fact that a lag's slip quotes is of the lag's own event.
own_event : (s : Bool) (z a : ℕ) → T (s && eqb z a) → z ≡ a
own_event true z a t = eqb-true z a (is_true (eqb z a) t)
own_event false z a t = absurd t

own_test : (s : Bool) (z a : ℕ) → T (s && eqb z a) → T s
own_test true z a t = tt
own_test false z a t = absurd t

lag_says : {starts ends : Bool} {l : Pair} {W : Windows} {c : LagCiting} → LagCites starts ends l W c → (z : ℕ) (k : End) → T (lag_cited c z k) → lag_said c z k ≡ W z k
lag_says {c = c} l z t_min t =
    let s = is_some c.from in
    l.from_is.1 (subst T l.from_is.0 (own_test s z c.a t)) ∙ rw (← l.a_is, own_event s z c.a t)
lag_says {c = c} l z t_max t =
    let s = is_some c.to in
    l.to_is.1 (subst T l.to_is.0 (own_test s z c.b t)) ∙ rw (← l.b_is, own_event s z c.b t)
lag_says l z h_min t = absurd t
lag_says l z h_max t = absurd t

lag_quotes : {starts ends : Bool} {ws : List ℤ} {g : ℕ} {l : Pair} {W : Windows} {c : LagCiting} → IsLag ws g l → LagCites starts ends l W c → (j : Call) → j.lag_table ≡ ws → (z : ℕ) (k : End) → lag_cited c z k ≡ lag_cites starts ends j g z k
lag_quotes i l j h z t_min = rw (h, l.a_is, i.a_is, l.from_is.0)
lag_quotes i l j h z t_max = rw (h, l.b_is, i.b_is, l.to_is.0)
lag_quotes i l j h z h_min = refl
lag_quotes i l j h z h_max = refl

lag_known : {k : Job} {starts ends : Bool} {ws : List ℤ} {g : ℕ} {l : Pair} {W : Windows} {c : LagCiting} → Fit k ws → g < length ws / 3 → IsLag ws g l → LagCites starts ends l W c → (c.a < k.events) × (c.b < k.events)
lag_known {g = g} f t i l = let s = f.lag g t in (rw (l.a_is, i.a_is) s.real_a, rw (l.b_is, i.b_is) s.real_b)

module _ {k : Job} {ws : List ℤ} (W : Windows) (e y : ℕ) (x : Done) where
  pub cites_by_upper : {c : LagCiting} {l : Pair} → Fit k ws → e < length ws / 3 → IsLag ws e l → LagCites (failed (effect_of x)) true l W c → Cites k ws W lag_upper e y x (Lag c)
  unfolding quotes quoted
  cites_by_upper f t i l = record { known = lag_known f t i l; cites = λ j h z m k. lag_quotes i l j h.holds.lags_are z k; says = λ j h z m k t. lag_says l z k t }

  pub cites_by_lower : {c : LagCiting} {l : Pair} → Fit k ws → e < length ws / 3 → IsLag ws e l → LagCites true (failed (effect_of x)) l W c → Cites k ws W lag_lower e y x (Lag c)
  unfolding quotes quoted
  cites_by_lower f t i l = record { known = lag_known f t i l; cites = λ j h z m k. lag_quotes i l j h.holds.lags_are z k; says = λ j h z m k t. lag_says l z k t }

  pub cites_by_side : (m b : Bool) (f : Family) {v : Sight} {c : LevelCiting} → e < k.events → Views k.events (reservoir_of k.reservoir) m b e v → LevelCites f v W y (effect_of x) c → Cites k ws W (reservoir m b f) e y x (Level c)
  unfolding quotes quoted
  cites_by_side m b f {v} there s l =
      let at : v.subject ≡ e = ap (λ (E : View). E.subject) (s.is W) in
      record {
        known = tt;
        cites = λ j h z n i.
            let o = h.holds in
            l.cites z i ∙ rw (s.is W, s.side_is, at) (sym (call_cites m b e W h (rw o.events_are there) f y (effect_of x) z (rw o.events_are n) (side_end m i)));
        says = λ j h z n i t.
            let o = h.holds in
            l.says z i t ∙ rw (s.is W, s.side_is, at) (ap (side_value m i) (sym (call_says m b e W h (rw o.events_are there) f (effect_of x) z (rw o.events_are n) (side_end m i))));
      }

-- ---- a set's slip

shown_neg : (t : Bool) (v : ℤ) → neg_ℤ (cond t v (pos 0)) ≡ cond t (neg_ℤ v) (pos 0)
shown_neg true v = refl
shown_neg false v = refl

module _ (m : Bool) (y : ℕ) (f : Bool) where
  abbrev total_held : TotalCiting
  total_held = record { mirror = m; target = y; failed = f }

module _ {n : ℕ} {own : ℕ → Bool} {W X : Windows} (s : Shows n own W X) (z : ℕ) (l : z < n) where
  -- On a side the amount that is shown is the one that is looked at.
  amount_shown : (m : Bool) → side m X z h_max ≡ look own m W z h_max
  amount_shown true = ap neg_ℤ (s.low z l) ∙ shown_neg (own z) (W z h_min)
  amount_shown false = s.high z l

  module _ (y : ℕ) (f : Bool) where
    set_cites : (m : Bool) (k : End) → set_cited (total_held m y f) X z k ≡ total_cites (look own m W) y f z (side_end m k)
    set_cites true t_min = refl
    set_cites true t_max = refl
    set_cites true h_min = ap (λ v. cond (eqb z y) f (consumes v || produces v)) (amount_shown true)
    set_cites true h_max = refl
    set_cites false t_min = refl
    set_cites false t_max = refl
    set_cites false h_min = refl
    set_cites false h_max = ap (λ v. cond (eqb z y) f (consumes v || produces v)) (amount_shown false)

    -- What is quoted is a member's: of the others only those that are not neutral, and the target is one.
    quoted_own : (m : Bool) → own y ≡ true → T (total_cited (total_held m y f) X z) → own z ≡ true
    quoted_own m member t = go (own z) (eqb z y) refl refl (subst (λ v. T (cond (eqb z y) f (consumes v || produces v))) (amount_shown m) t)
      where
        none : (m : Bool) → own z ≡ false → look own m W z h_max ≡ pos 0
        none true e = rw e
        none false e = rw e

        go : (o q : Bool) → own z ≡ o → eqb z y ≡ q → T (cond q f (consumes (look own m W z h_max) || produces (look own m W z h_max))) → own z ≡ true
        go true q e i t = e
        go false true e i t = rw (eqb-true z y i) member
        go false false e i t = absurd (rw (none m e) at t)

    set_says : (m : Bool) → own y ≡ true → (k : End) → T (set_cited (total_held m y f) X z k) → X z k ≡ W z k
    set_says m member t_min t = absurd t
    set_says m member t_max t = absurd t
    set_says true member h_min t = s.low z l ∙ rw (quoted_own true member t)
    set_says true member h_max t = absurd t
    set_says false member h_min t = absurd t
    set_says false member h_max t = s.high z l ∙ rw (quoted_own false member t)

pub cites_by_set : (m : Bool) (y : ℕ) {f : Bool} (x : Effect) → f ≡ failed x → TotalCites m y x (Total (total_held m y f))
unfolding quotes quoted
cites_by_set m y {f} x e =
    record {
      known = λ n. tt;
      cites = λ j g n W X s z l k. set_cites s z l y f m k ∙ rw e;
      says = λ j g n W X s o z l k t. set_says s z l y f m o k t;
    }

-- ---- ranges

pub latest_within : (f : Family) (t : ℤ) (x : Effect) → Within t 20000 → ((v : ℤ) → x ≡ narrows v → Within v 20000) → Within (latest f t x) 20001
latest_within level t x w r = omega arith
latest_within time t idle w r = omega arith
latest_within time t (narrows v) w r = let h = r v refl in omega (ints, sub_law v (pos 1))
latest_within time t fails w r = omega arith
latest_within height t x w r = omega arith

pub span_within : (k : End) (v : ℤ) → Within v (span k) → Within v 20000
span_within t_min v w = w
span_within t_max v w = w
span_within h_min v w = omega arith
span_within h_max v w = omega arith
