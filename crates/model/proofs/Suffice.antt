-- Facts suffice: a slip that the planner writes on standing windows passes questions 14, 15 and 16. Its facts are true there, and the rule gives the same or more on the widest windows narrowed by them.
-- Assumes nothing.
use mathlib.Core.Path.{◌≡◌, refl, sym, ap, subst, ◌∙◌}
use mathlib.Core.Bool.{Bool, true, false, not, ◌&&◌, cond}
use Prim.Native.Nat.{ℕ, ◌<◌}
use native.Mathlib.Omega.{arith}
use lib.Dec.{T, eqb, eqb→eq, eqb_refl, not_T, T_not}
use lib.IntN.{ℤ, pos, neg_ℤ, ◌+ℤ◌, ◌-ℤ◌}
use lib.Signed.{le_z, lt_z, ◌<ℤ◌}
use Rattle.integers.specs.Range.{eq_z}
use Rattle.integers.proofs.Linear.{ints, add_law, sub_law, neg_law}
use Rattle.integers.proofs.Tests.{is_true, is_false, and_out, and_in}
use Rattle.model.specs.Job.{End, t_min, t_max, h_min, h_max, opposite, meets, Windows, widest, Job, lags, lag_a, lag_b, lag_d, events, in_set}
use Rattle.model.specs.Standing.{Sane, Standing}
use Rattle.model.specs.View.{side_value, side_end, side, View, view, seen, here, look}
use Rattle.model.specs.Levels.{most, e_min, e_max, stands, place}
use Rattle.model.specs.Rules.{Finding, clash, bound, given_if, time_rule, targeted, Family, level, time, height, Rule, lag_upper, lag_lower, reservoir, rule, family_rule, family_end, side_finding, finding, own_end, Effect, idle, narrows, fails, effect, failed, subjects, target_fits, total, total_limit, total_rule, others}
use Rattle.model.specs.Facts.{cites, says, latest, quotes_top, family_cites, family_says, lag_cites, quotes, quoted, drops, total_cites}
use Rattle.model.specs.Slips.{number, premise_list, concluded_kind, concluded_value, explanation}
use Rattle.model.specs.Agenda.{Valid}
use Rattle.model.specs.Questions.{is_event}
use Rattle.model.specs.Reader.{has_bound, kind_fits, premises_fit, names, all_true, narrowed, as_strict, gives}
use Rattle.model.proofs.Totals.{others_backed, total_kept}
use Rattle.model.proofs.Order.{meets_refl, meets_trans, opposite_meets, narrowed_in, inside_narrowed, narrowed_true}
use Rattle.model.proofs.Levels.{most_weaker, signed_within}
use Rattle.model.proofs.Time.{time_waits, waits_most, below_time, time_never_fails}
use Rattle.model.proofs.Sides.{look_inside, look_times, look_heights, look_signed, amount, shown_is}
use Rattle.model.proofs.Table.{narrows_bound}
use Rattle.model.proofs.Effects.{fails_past, past_fails, effect_given, across, side_effect, failed_side, strict_side, aims, fits_aims, Quiet, family_quiet, target_here, effect_look}
use Rattle.model.proofs.Premises.{Keeps, list_fits, list_true, true_list, event_fits}
use Rattle.model.proofs.Support.{Opened, Grounds, cites_true, amount_kept, most_backed, opened_wider, targets_backed, needs_backed}

-- ---- effects

-- What question 16 asks of a finding, by the effect that the slip records.
abbrev agrees : End → Windows → ℕ → Effect → Finding → Bool
agrees k X y idle f = false
agrees k X y (narrows v) f = as_strict k v f
agrees k X y fails f = failed (effect k X y f)

-- A bound on X as strict as that on W: it narrows as much, and it passes the target's opposite end if that is kept.
bound_agrees : (k : End) (W X : Windows) (y : ℕ) (a b : ℤ) (x : Effect) → T (meets k a b) → (x ≡ fails → T (meets (opposite k) (W y (opposite k)) (X y (opposite k)))) → x ≡ effect k W y (bound a) → (x ≡ idle → ⊥) → T (agrees k X y x (bound b))
bound_agrees k W X y a b idle h o e i = absurd (i refl)
bound_agrees k W X y a b (narrows v) h o e i =
    let p : bound a ≡ bound v = (narrows_bound k W y (bound a) v (sym e)).0 in
    let q : a ≡ v = cc in
    subst (λ u. T (meets k u b)) q h
bound_agrees k W X y a b fails h o e i =
    let q = opposite k in
    let p = fails_past k W y a e in
    past_fails k X y b
    (is_false (meets q (X y q) b)
    (λ t. subst T p
    (meets_trans q (W y q) b a (meets_trans q (W y q) (X y q) b (o refl) t) (subst T (sym (opposite_meets k b a)) h))))

-- ---- the families, at general windows

-- No amount of a conflict is left out, and of a bound only the target's own.
drops_none : (x : Effect) (y z : ℕ) → x ≡ fails → T (not (drops height x y z))
drops_none x y z e = rw e tt

drops_other : (x : Effect) (y z : ℕ) → (z ≡ y → ⊥) → T (not (drops height x y z))
drops_other idle y z d = tt
drops_other (narrows v) y z d = not_T (eqb z y) (λ t. d (eqb→eq z y t))
drops_other fails y z d = tt

-- Question 15.
family_true : (f : Family) (E : View) (W : Windows) (y : ℕ) (x : Effect) → Keeps E.events (family_cites f E W y x) (family_says f E W x) W
family_true level E W y x = cites_true E W (e_max E W) (quotes_top level) (drops level x y) (λ _. omega ints)
family_true time E W y x = cites_true E W (latest time (e_max E W) x) false (drops time x y) (λ t. absurd t)
family_true height E W y x = cites_true E W (e_max E W) true (drops height x y) (λ _. omega ints)

module _ (E : View) {W X : Windows} (o : Opened E.events W X) (l : E.subject < E.events) (y : ℕ) (m : y < E.events) where
  -- Question 16.
  family_agrees : (f : Family) (x : Effect) → T (aims f E.subject y) → x ≡ effect (family_end f) W y (family_rule f E W y) → (x ≡ idle → ⊥) → Keeps E.events (family_cites f E W y x) (family_says f E W x) X → T (agrees (family_end f) X y x (family_rule f E X y))
  family_agrees level x d q i k =
      let r = effect_given t_min W y (lt_z (most E W) E.limit) clash x q i in
      let g : Grounds E W X (e_max E W) (e_max E X) true (drops level x y) = record { opened = o; subject = l; kept = k; to_top = λ _. refl; to_bound = λ t. absurd t } in
      let a = most_backed g (λ z b. tt) in
      let b = r.0 in
      let h : most E X <ℤ E.limit = omega ints in
      rw (r.1, is_true (lt_z (most E X) E.limit) h.lt) tt
  family_agrees time idle d q i k = absurd (i refl)
  family_agrees time (narrows v) d q i k =
      let w = time_waits E W v (narrows_bound t_min W y (time_rule E W) v (sym q)).0 in
      let g : Grounds E W X (v -ℤ pos 1) (v -ℤ pos 1) false (drops time (narrows v) y) = record { opened = o; subject = l; kept = k; to_top = λ t. absurd t; to_bound = λ _. refl } in
      let a = most_backed g (λ z b. tt) in
      let b = waits_most E W v w in
      let h = most_weaker E (opened_wider E o l) in
      let f = w.below in
      let r = below_time E X v (omega ints) (omega ints) in
      rw r.1 r.2.le
  family_agrees time fails d q i k = absurd (time_never_fails E W (sym (subst (λ z. fails ≡ effect t_min W z (time_rule E W)) (eqb→eq y E.subject d) q)))
  family_agrees height x d q i k =
      let r = effect_given h_min W y (targeted (stands E W y) (W y h_max)) (bound (E.limit -ℤ (most E W -ℤ W y h_max))) x q i in
      let g : Grounds E W X (e_max E W) (e_max E X) true (drops height x y) = record { opened = o; subject = l; kept = k; to_top = λ _. refl; to_bound = λ t. absurd t } in
      let t = targets_backed g y m r.0 in
      let a = needs_backed g y m r.0 (λ z b. drops_other x y z) in
      rw (is_true (targeted (stands E X y) (X y h_max)) t)
      (bound_agrees h_min W X y (E.limit -ℤ (most E W -ℤ W y h_max)) (E.limit -ℤ (most E X -ℤ X y h_max)) x a.le (λ p. (amount_kept g y m (drops_none x y y p) r.0).le) r.1 i)

-- ---- sides

-- Ends quoted through a side.
module _ (n : ℕ) (c : ℕ → End → Bool) (v : ℕ → End → ℤ) (x : Windows) where
  keeps_in : (m : Bool) → Keeps n (λ z k. c z (side_end m k)) (λ z k. side_value m k (v z (side_end m k))) x → Keeps n c v (side m x)
  keeps_in false h y l k t = h y l k t
  keeps_in true h y l t_min t = h y l t_min t
  keeps_in true h y l t_max t = h y l t_max t
  keeps_in true h y l h_min t = subst T (across true h_min (v y h_min) (x y h_max)) (h y l h_max t)
  keeps_in true h y l h_max t = subst T (across true h_max (v y h_max) (x y h_min)) (h y l h_min t)

  keeps_out : (m : Bool) → Keeps n c v (side m x) → Keeps n (λ z k. c z (side_end m k)) (λ z k. side_value m k (v z (side_end m k))) x
  keeps_out false h y l k t = h y l k t
  keeps_out true h y l t_min t = h y l t_min t
  keeps_out true h y l t_max t = h y l t_max t
  keeps_out true h y l h_min t = subst T (sym (across true h_max (v y h_max) (x y h_min))) (h y l h_max t)
  keeps_out true h y l h_max t = subst T (sym (across true h_min (v y h_min) (x y h_max))) (h y l h_min t)

-- An amount that is quoted is of e's cage.
cited_here : (f : Family) (j : Job) (m : Bool) (E : View) (W : Windows) (e y : ℕ) (x : Effect) (z : ℕ) (k : End) → T (family_cites f E (seen j m e W) y x z k) → T (amount k) → T (here j e z)
cited_here f j m E W e y x z t_min t a = absurd a
cited_here f j m E W e y x z t_max t a = absurd a
cited_here f j m E W e y x z h_min t a = absurd t
cited_here f j m E W e y x z h_max t a =
    let p = place E (seen j m e W) (e_min E (seen j m e W)) (latest f (e_max E (seen j m e W)) x) z in
    target_here p (here j e z) (side m W z h_max) (and_out (not (drops f x y z)) (targeted p (seen j m e W z h_max)) t).1

-- Ends quoted, of windows and as they are seen.
module _ (own : ℕ → Bool) (m : Bool) (n : ℕ) (c : ℕ → End → Bool) (v : ℕ → End → ℤ) (x : Windows) (cited : (z : ℕ) (k : End) → T (c z k) → T (amount k) → T (own z)) where
  look_in : Keeps n (λ z k. c z (side_end m k)) (λ z k. side_value m k (v z (side_end m k))) x → Keeps n c v (look own m x)
  look_in h y l k t = rw (shown_is (own y) k (side m x y k) (cited y k t)) (keeps_in n c v x m h y l k t)

  look_out : Keeps n c v (look own m x) → Keeps n (λ z k. c z (side_end m k)) (λ z k. side_value m k (v z (side_end m k))) x
  look_out h = keeps_out n c v x m (λ y l k t. rw (shown_is (own y) k (side m x y k) (cited y k t)) at (h y l k t))

agrees_look : (own : ℕ → Bool) (m : Bool) (k : End) (X : Windows) (y : ℕ) (x : Effect) (f : Finding) → Quiet (own y) k f → agrees (side_end m k) X y (side_effect m k x) (side_finding m k f) ≡ agrees k (look own m X) y x f
agrees_look own m k X y idle f q = refl
agrees_look own m k X y (narrows v) f q = strict_side m k v f
agrees_look own m k X y fails f q = ap failed (effect_look own m k X y f q) ∙ failed_side m k (effect k (look own m X) y f)

-- What is quoted does not depend on the side that the effect is told on.
latest_side : (f : Family) (m : Bool) (t : ℤ) (x : Effect) → latest f t (side_effect m (family_end f) x) ≡ latest f t x
latest_side level m t x = refl
latest_side time m t idle = refl
latest_side time false t (narrows v) = refl
latest_side time true t (narrows v) = refl
latest_side time m t fails = refl
latest_side height m t x = refl

drops_side : (f : Family) (m : Bool) (x : Effect) (y : ℕ) → drops f (side_effect m (family_end f) x) y ≡ drops f x y
drops_side level m x y = refl
drops_side time m x y = refl
drops_side height m idle y = refl
drops_side height m (narrows v) y = refl
drops_side height m fails y = refl

quoted_side : (f : Family) (m : Bool) (E : View) (W X : Windows) (y : ℕ) (x : Effect) →
    Keeps E.events (family_cites f E W y (side_effect m (family_end f) x)) (family_says f E W (side_effect m (family_end f) x)) X →
    Keeps E.events (family_cites f E W y x) (family_says f E W x) X
quoted_side f m E W X y x h =
    subst (λ d. Keeps E.events (cites E W (e_min E W) (latest f (e_max E W) x) (quotes_top f) d) (says E W (e_min E W) (latest f (e_max E W) x)) X) (drops_side f m x y)
    (subst (λ t. Keeps E.events (cites E W (e_min E W) t (quotes_top f) (drops f (side_effect m (family_end f) x) y)) (says E W (e_min E W) t) X) (latest_side f m (e_max E W) x) h)

look_opened : (own : ℕ → Bool) (m : Bool) {n : ℕ} {W X : Windows} → Opened n W X → Opened n (look own m W) (look own m X)
look_opened own m {n} {W} o =
    record {
      wider = look_inside own m o.wider;
      times = look_times own m n W o.times;
      heights = look_heights own m n W o.heights;
      signs = look_signed own m o.signs;
    }

-- Rules 3 to 14: a family in a view.
module _ (j : Job) (m w : Bool) (f : Family) {W X : Windows} (o : Opened (events j) W X) (e : ℕ) (l : e < events j) (y : ℕ) (b : y < events j) (d : T (aims f e y)) where
  abbrev E : View
  E = view j m w e

  seen_agrees : (x : Effect) →
      x ≡ effect (side_end m (family_end f)) W y (side_finding m (family_end f) (family_rule f E (seen j m e W) y)) →
      (x ≡ idle → ⊥) →
      Keeps (events j) (λ z k. family_cites f E (seen j m e W) y x z (side_end m k)) (λ z k. side_value m k (family_says f E (seen j m e W) x z (side_end m k))) X →
      T (agrees (side_end m (family_end f)) X y x (side_finding m (family_end f) (family_rule f E (seen j m e X) y)))
  seen_agrees x q i k =
      let t = family_end f in
      let g = family_rule f E (seen j m e W) y in
      let z = effect t (seen j m e W) y g in
      let p : x ≡ side_effect m t z = q ∙ effect_look (here j e) m t W y g (family_quiet j m e E W y f) in
      let h = subst (λ x. Keeps (events j) (family_cites f E (seen j m e W) y x) (family_says f E (seen j m e W) x) (seen j m e X)) p (look_in (here j e) m (events j) (family_cites f E (seen j m e W) y x) (family_says f E (seen j m e W) x) X (cited_here f j m E W e y x) k) in
      let a = family_agrees E (look_opened (here j e) m o) l y b f z d refl (λ r. i (p ∙ ap (side_effect m t) r)) (quoted_side f m E (seen j m e W) (seen j m e X) y z h) in
      subst (λ x. T (agrees (side_end m t) X y x (side_finding m t (family_rule f E (seen j m e X) y)))) (sym p)
      (subst T (sym (agrees_look (here j e) m t X y z (family_rule f E (seen j m e X) y) (family_quiet j m e E X y f))) a)

-- ---- lags

-- The ends that a lag's slip quotes are kept.
lag_kept : (u v : Bool) (j : Job) (W X : Windows) (g : ℕ) → Sane j → g < lags j → Keeps (events j) (lag_cites u v j g) W X →
    (T u → T (meets t_min (W (lag_a j g) t_min) (X (lag_a j g) t_min))) × (T v → T (meets t_max (W (lag_b j g) t_max) (X (lag_b j g) t_max)))
lag_kept u v j W X g sane l k = (
  λ t. k (lag_a j g) (sane.lag g l).real_a t_min (and_in u (eqb (lag_a j g) (lag_a j g)) t (eqb_refl (lag_a j g))),
  λ t. k (lag_b j g) (sane.lag g l).real_b t_max (and_in v (eqb (lag_b j g) (lag_b j g)) t (eqb_refl (lag_b j g))),
)

later_by : (a b d : ℤ) → T (le_z a b) → T (le_z (a +ℤ d) (b +ℤ d))
later_by a b d t = omega (ints, add_law a d, add_law b d)

earlier_by : (a b d : ℤ) → T (le_z a b) → T (le_z (a -ℤ d) (b -ℤ d))
earlier_by a b d t = later_by a b (neg_ℤ d) t

-- ---- sets

failed_is : (x : Effect) → x ≡ fails → T (failed x)
failed_is x e = rw e tt

cites_own : (q f c : Bool) → T q → T f → T (cond q f c)
cites_own true f c q t = t
cites_own false f c q t = absurd q

-- Rules 17 and 18, on windows that show a set's members only.
module _ (own : ℕ → Bool) (m : Bool) (limit : ℤ) (n : ℕ) {W X : Windows} (o : Opened n W X) (y : ℕ) (b : y < n) (d : T (own y)) where
  total_agrees : (x : Effect) →
      x ≡ effect (side_end m h_min) W y (side_finding m h_min (total_rule limit n (look own m W) y)) →
      (x ≡ idle → ⊥) →
      Keeps n (λ z k. total_cites (look own m W) y (failed x) z (side_end m k)) W X →
      T (agrees (side_end m h_min) X y x (side_finding m h_min (total_rule limit n (look own m X) y)))
  total_agrees x q i k =
      let g = total_rule limit n (look own m W) y in
      let z = effect h_min (look own m W) y g in
      let quiet : (v : ℤ) → Quiet (own y) h_min (bound v) = λ v a n. absurd (T_not (own y) n d) in
      let p : x ≡ side_effect m h_min z = q ∙ effect_look own m h_min W y g (quiet _) in
      let kept = total_kept own m n W X y (failed x) k in
      let less = others_backed n (look_opened own m o) y (failed x) kept in
      let strict : T (le_z (limit -ℤ others n (look own m W) y) (limit -ℤ others n (look own m X) y)) = omega (ints, sub_law limit (others n (look own m X) y), neg_law (others n (look own m W) y)) in
      let a = bound_agrees h_min (look own m W) (look own m X) y (limit -ℤ others n (look own m W) y) (limit -ℤ others n (look own m X) y) z strict
      (λ e. (kept y b (cites_own (eqb y y) (failed x) _ (eqb_refl y) (failed_is x (p ∙ ap (side_effect m h_min) e)))).le) refl (λ r. i (p ∙ ap (side_effect m h_min) r)) in
      subst (λ x. T (agrees (side_end m h_min) X y x (side_finding m h_min (total_rule limit n (look own m X) y)))) (sym p)
      (subst T (sym (agrees_look own m h_min X y z (total_rule limit n (look own m X) y) (quiet _))) a)

-- ---- all rules

-- Question 15.
rule_true : (r : Rule) (j : Job) (W : Windows) (e y : ℕ) (x : Effect) → Keeps (events j) (quotes r j W e y x) (quoted r j W e y x) W
unfolding quotes quoted
rule_true lag_upper j W e y x = λ z l k t. meets_refl k (W z k)
rule_true lag_lower j W e y x = λ z l k t. meets_refl k (W z k)
rule_true (total m) j W e y x = λ z l k t. meets_refl k (W z k)
rule_true (reservoir m b f) j W e y x =
    look_out (here j e) m (events j) (family_cites f (view j m b e) (seen j m e W) y x) (family_says f (view j m b e) (seen j m e W) x) W (cited_here f j m (view j m b e) W e y x) (family_true f (view j m b e) (seen j m e W) y x)

-- Question 16.
rule_agrees : (r : Rule) (j : Job) (W X : Windows) (e y : ℕ) (x : Effect) → Sane j → Opened (events j) W X → e < subjects r j → y < events j → T (target_fits r j e y) →
    x ≡ effect (own_end r) W y (finding r j W e y) → (x ≡ idle → ⊥) → Keeps (events j) (quotes r j W e y x) (quoted r j W e y x) X → T (agrees (own_end r) X y x (finding r j X e y))
unfolding quotes quoted finding
rule_agrees lag_upper j W X e y x sane o l b d q i k =
    let h = lag_kept (failed x) true j W X e sane l k in
    bound_agrees t_max W X y (W (lag_b j e) t_max +ℤ lag_d j e) (X (lag_b j e) t_max +ℤ lag_d j e) x
    (later_by (X (lag_b j e) t_max) (W (lag_b j e) t_max) (lag_d j e) (h.1 tt))
    (λ p. rw (eqb→eq y (lag_a j e) d) (h.0 (rw p tt)))
    q
    i
rule_agrees lag_lower j W X e y x sane o l b d q i k =
    let h = lag_kept true (failed x) j W X e sane l k in
    bound_agrees t_min W X y (W (lag_a j e) t_min -ℤ lag_d j e) (X (lag_a j e) t_min -ℤ lag_d j e) x
    (earlier_by (W (lag_a j e) t_min) (X (lag_a j e) t_min) (lag_d j e) (h.0 tt))
    (λ p. rw (eqb→eq y (lag_b j e) d) (h.1 (rw p tt)))
    q
    i
rule_agrees (reservoir m w f) j W X e y x sane o l b d q i k =
    seen_agrees j m w f o e l y b (fits_aims m w f j e y d) x q i k
rule_agrees (total m) j W X g y x sane o l b d q i k =
    total_agrees (in_set j g) m (total_limit m j g) (events j) o y b d x q i k

-- ---- the slip

-- A bound's kind is not the conflict's.
no_conflict : (k : End) → eq_z (pos (number k)) (pos 0) ≡ false
no_conflict t_min = refl
no_conflict t_max = refl
no_conflict h_min = refl
no_conflict h_max = refl

-- A level rule gives no bound.
level_unbound : (m b : Bool) (v : ℤ) → side_finding m t_min (given_if b clash) ≡ bound v → ⊥
level_unbound m true v e = let z : ◌≡◌ {A = ℕ} 0 1 = cc in omega arith
level_unbound m false v e = let z : ◌≡◌ {A = ℕ} 0 1 = cc in omega arith

bound_fits : (r : Rule) (j : Job) (W : Windows) (e y : ℕ) (v : ℤ) → finding r j W e y ≡ bound v → T (has_bound r)
unfolding finding
bound_fits lag_upper j W e y v q = tt
bound_fits lag_lower j W e y v q = tt
bound_fits (reservoir m b level) j W e y v q =
    level_unbound m (lt_z (most (view j m b e) (seen j m e W)) (view j m b e).limit) v q
bound_fits (reservoir m b time) j W e y v q = tt
bound_fits (reservoir m b height) j W e y v q = tt
bound_fits (total m) j W e y v q = tt

-- Question 14 of the kind.
kind_concluded : (r : Rule) (j : Job) (W : Windows) (e y : ℕ) (x : Effect) → x ≡ effect (own_end r) W y (finding r j W e y) → T (kind_fits r (pos (concluded_kind r x)) (concluded_value x))
kind_concluded r j W e y idle q = tt
kind_concluded r j W e y (narrows v) q =
    rw (no_conflict (own_end r))
    (and_in (has_bound r) (eqb (number (own_end r)) (number (own_end r))) (bound_fits r j W e y v (narrows_bound (own_end r) W y (finding r j W e y) v (sym q)).0) (eqb_refl (number (own_end r))))
kind_concluded r j W e y fails q = tt

-- Question 16 of the slip.
gives_agrees : (r : ℕ) (j : Job) (W X : Windows) (e y : ℕ) (x : Effect) → T (agrees (own_end (rule r)) X y x (finding (rule r) j X e y)) → T (gives j X (explanation r j W e y x))
unfolding gives
gives_agrees r j W X e y idle t = absurd t
gives_agrees r j W X e y (narrows v) t = rw (no_conflict (own_end (rule r))) t
gives_agrees r j W X e y fails t = t

-- A slip that the planner writes passes questions 14, 15 and 16.
pub slip_passes : (j : Job) (W : Windows) (r e y : ℕ) → Sane j → Standing j W → Valid j r e y →
    (x : Effect) → x ≡ effect (own_end (rule r)) W y (finding (rule r) j W e y) → (x ≡ idle → ⊥) →
    T (names j (explanation r j W e y x))
    × T (all_true W (explanation r j W e y x).premises)
    × T (gives j (narrowed (widest j) (explanation r j W e y x).premises) (explanation r j W e y x))
unfolding names
slip_passes j W r e y sane std a x q i =
    let n = events j in
    let c = quotes (rule r) j W e y x in
    let v = quoted (rule r) j W e y x in
    let fs = premise_list n c v in
    let wide = widest j in
    let X = narrowed wide fs in
    let holds : T (all_true W fs) = list_true n c v W (rule_true (rule r) j W e y x) in
    let o : Opened n W X = record { wider = inside_narrowed std.within fs holds; times = std.times; heights = std.heights; signs = signed_within j (narrowed_in n wide fs) } in (
      and_in (is_event (subjects (rule r) j) (pos e) && is_event n (pos y) && premises_fit n fs && target_fits (rule r) j e y) (kind_fits (rule r) (pos (concluded_kind (rule r) x)) (concluded_value x))
          (and_in (is_event (subjects (rule r) j) (pos e) && is_event n (pos y) && premises_fit n fs) (target_fits (rule r) j e y)
          (and_in (is_event (subjects (rule r) j) (pos e) && is_event n (pos y)) (premises_fit n fs)
          (and_in (is_event (subjects (rule r) j) (pos e)) (is_event n (pos y)) (event_fits (subjects (rule r) j) e a.subject) (event_fits n y a.event))
          (list_fits n c v))
          a.target)
          (kind_concluded (rule r) j W e y x q),
      holds,
      gives_agrees r j W X e y x (rule_agrees (rule r) j W X e y x sane o a.subject a.event a.target q i (true_list n c v X (narrowed_true wide fs))),
    )
