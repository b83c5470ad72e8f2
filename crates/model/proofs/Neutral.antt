-- A neutral event counts nowhere, is no target and is not quoted, whether "before" or "by" is meant of it: two views that tell the others alike give the same levels, findings and facts, and so does a view without the last events, if they are neutral.
-- Assumes nothing.
use mathlib.Core.Path.{◌≡◌, refl, sym, ap, ap₂, subst, ◌∙◌}
use mathlib.Core.Bool.{Bool, true, false, not, cond, ◌&&◌, ◌||◌}
use mathlib.Core.List.{[], ◌++◌, append-nil}
use mathlib.Core.Logic.{◌⊎◌, inl, inr}
use Prim.Native.Nat.{ℕ, zero, suc, ◌<◌, ◌≤◌}
use native.Mathlib.Decide.{ℕ_discrete}
use native.Mathlib.Omega.{arith}
use borrow.Author.Tests.{ne_eqb}
use lib.Dec.{T, eqb}
use lib.IntN.{ℤ, pos, ◌+ℤ◌, ◌-ℤ◌}
use lib.Signed.{le_z, lt_z}
use Rattle.integers.specs.Sum.{sum}
use Rattle.integers.proofs.Linear.{ints, add_law}
use Rattle.integers.proofs.Sums.{sum_ext}
use Rattle.model.specs.Job.{End, t_min, t_max, h_min, h_max, Windows, ahead, any}
use Rattle.model.specs.View.{View}
use Rattle.model.specs.Levels.{Place, sure, possible, never, placed, place, gain, gains, most_in, sure_gain, sure_part, e_min, e_max, stands}
use Rattle.model.specs.Rules.{Finding, nothing, clash, bound, given_if, counts_from, earlier, possible_producer, reached_at, earliest, targeted, Family, level, time, height, family_rule}
use Rattle.model.specs.Facts.{left_out, surely_consumed, late, early, cites, says, first_late, last_early}
use Rattle.model.specs.Slips.{quote, premise_list}
use Rattle.model.proofs.Agree.{any_agree, with_before}

-- ---- an amount of 0

gain_none : (p : Place) → gain p (pos 0) ≡ pos 0
gain_none sure = refl
gain_none possible = refl
gain_none never = refl

sure_gain_none : (p : Place) → sure_gain p (pos 0) ≡ pos 0
sure_gain_none sure = refl
sure_gain_none possible = refl
sure_gain_none never = refl

no_producer : (p : Place) → possible_producer p (pos 0) ≡ false
no_producer sure = refl
no_producer possible = refl
no_producer never = refl

pub no_target : (p : Place) → targeted p (pos 0) ≡ false
no_target sure = refl
no_target possible = refl
no_target never = refl

never_late : (p : Place) → left_out p (pos 0) ≡ false
never_late sure = refl
never_late possible = refl
never_late never = refl

never_early : (p : Place) → surely_consumed p (pos 0) ≡ false
never_early sure = refl
never_early possible = refl
never_early never = refl

-- What does not look at the place where the amount is 0 is the same at two places that differ only there.
alike : {A : Type 0} (f : Place → ℤ → A) (d : A) → ((p : Place) → f p (pos 0) ≡ d) → (p q : Place) (h : ℤ) → (h ≡ pos 0) ⊎ (p ≡ q) → f p h ≡ f q h
alike f d none p q h (inl z) = ap (f p) z ∙ none p ∙ sym (none q) ∙ ap (f q) (sym z)
alike f d none p q h (inr e) = ap (λ x. f x h) e

-- Where y is neutral nothing is reached at it.
unreached : (E : View) (W : Windows) (y : ℕ) → W y h_max ≡ pos 0 → reached_at E W y ≡ false
unreached E W y z =
    ap (λ b. b && le_z E.limit (most_in E W (e_min E W) (counts_from (E.before y) (W y t_min)))) (ap (possible_producer (stands E W y)) z ∙ no_producer (stands E W y))

-- ---- levels, findings and facts

-- Of each event that is not neutral, both views mean "before" or both "by".
module _ (E : View) (s : ℕ → Bool) (W : Windows) (same : (y : ℕ) → y < E.events → (W y h_max ≡ pos 0) ⊎ (E.before y ≡ s y)) where
  abbrev F : View
  F = with_before E s

  place_alike : (u v : ℤ) (y : ℕ) → y < E.events → (W y h_max ≡ pos 0) ⊎ (place E W u v y ≡ place F W u v y)
  place_alike u v y l = go (same y l)
    where
      go : (W y h_max ≡ pos 0) ⊎ (E.before y ≡ s y) → (W y h_max ≡ pos 0) ⊎ (place E W u v y ≡ place F W u v y)
      go (inl z) = inl z
      go (inr e) = inr (ap (λ b. placed (eqb y E.subject) b (ahead b (W y t_max) u) (ahead b (W y t_min) v)) e)

  most_alike : (u v : ℤ) → most_in E W u v ≡ most_in F W u v
  unfolding most_in
  most_alike u v =
      ap (λ x. E.opening +ℤ x)
      (sum_ext E.events (gains E W u v) (gains F W u v) (λ y l. alike gain (pos 0) gain_none (place E W u v y) (place F W u v y) (W y h_max) (place_alike u v y l)))

  sure_part_alike : sure_part E W ≡ sure_part F W
  unfolding sure_part
  sure_part_alike =
      ap (λ x. E.opening +ℤ x)
      (sum_ext E.events (λ y. sure_gain (stands E W y) (W y h_max)) (λ y. sure_gain (stands F W y) (W y h_max)) (λ y l. alike sure_gain (pos 0) sure_gain_none (stands E W y) (stands F W y) (W y h_max) (place_alike (e_min E W) (e_max E W) y l)))

  step_alike : (y : ℕ) → y < E.events → given_if (reached_at E W y) (bound (counts_from (E.before y) (W y t_min))) ≡ given_if (reached_at F W y) (bound (counts_from (s y) (W y t_min)))
  step_alike y l = go (same y l)
    where
      go : (W y h_max ≡ pos 0) ⊎ (E.before y ≡ s y) → given_if (reached_at E W y) (bound (counts_from (E.before y) (W y t_min))) ≡ given_if (reached_at F W y) (bound (counts_from (s y) (W y t_min)))
      go (inl z) =
          ap (λ b. given_if b (bound (counts_from (E.before y) (W y t_min)))) (unreached E W y z)
          ∙ sym (ap (λ b. given_if b (bound (counts_from (s y) (W y t_min)))) (unreached F W y z))
      go (inr e) =
          ap₂ (λ p c. given_if (possible_producer p (W y h_max) && le_z E.limit (most_in E W (e_min E W) c)) (bound c))
          (ap (λ b. placed (eqb y E.subject) b (ahead b (W y t_max) (e_min E W)) (ahead b (W y t_min) (e_max E W))) e)
          (ap (λ b. counts_from b (W y t_min)) e)
          ∙ ap (λ m. given_if (possible_producer (stands F W y) (W y h_max) && le_z E.limit m) (bound (counts_from (s y) (W y t_min)))) (most_alike (e_min E W) (counts_from (s y) (W y t_min)))

  earliest_alike : (k : ℕ) → k ≤ E.events → earliest E W k ≡ earliest F W k
  unfolding earliest
  earliest_alike zero l = refl
  earliest_alike (suc y) l = ap₂ earlier (earliest_alike y (omega arith)) (step_alike y (omega arith))

  pub rule_alike : (f : Family) (y : ℕ) → y < E.events → family_rule f E W y ≡ family_rule f F W y
  rule_alike level y l = ap (λ x. given_if (lt_z x E.limit) clash) (most_alike (e_min E W) (e_max E W))
  rule_alike time y l =
      ap₂ (λ x g. given_if (lt_z x E.limit) g) sure_part_alike (earliest_alike E.events (omega arith))
  rule_alike height y l =
      ap₂ given_if
      (alike targeted false no_target (stands E W y) (stands F W y) (W y h_max) (place_alike (e_min E W) (e_max E W) y l))
      (ap (λ x. bound (E.limit -ℤ (x -ℤ W y h_max))) (most_alike (e_min E W) (e_max E W)))

  -- Facts, with u..v for e's time window.
  module _ (u v : ℤ) where
    late_alike : (y : ℕ) → y < E.events → late E W u v y ≡ late F W u v y
    late_alike y l =
        ap (λ b. not (eqb y E.subject) && b) (alike left_out false never_late (place E W u v y) (place F W u v y) (W y h_max) (place_alike u v y l))

    early_alike : (y : ℕ) → y < E.events → early E W u v y ≡ early F W u v y
    early_alike y l =
        ap (λ b. not (eqb y E.subject) && b) (alike surely_consumed false never_early (place E W u v y) (place F W u v y) (W y h_max) (place_alike u v y l))

    pub cites_alike : (top : Bool) (dropped : ℕ → Bool) (z : ℕ) → z < E.events → (k : End) → cites E W u v top dropped z k ≡ cites F W u v top dropped z k
    cites_alike top dropped z l t_min =
        let all_early = any_agree E.events (early E W u v) (early F W u v) early_alike in simp (all_early, late_alike z l)
    cites_alike top dropped z l t_max =
        let all_late = any_agree E.events (late E W u v) (late F W u v) late_alike in simp (all_late, early_alike z l)
    cites_alike top dropped z l h_min = refl
    cites_alike top dropped z l h_max = ap (λ b. not (dropped z) && b) (alike targeted false no_target (place E W u v z) (place F W u v z) (W z h_max) (place_alike u v z l))

    -- What is quoted says the same: a neutral event's times are not quoted.
    pub says_alike : (top : Bool) (dropped : ℕ → Bool) (z : ℕ) → z < E.events → (k : End) → T (cites E W u v top dropped z k) → says E W u v z k ≡ says F W u v z k
    says_alike top dropped z l t_min t = go (eqb z E.subject) (any E.events (early E W u v)) (same z l) t
      where
        go : (b a : Bool) → (W z h_max ≡ pos 0) ⊎ (E.before z ≡ s z) → T (cond b a (not b && left_out (place E W u v z) (W z h_max)))
            → cond b u (first_late (E.before z) v) ≡ cond b u (first_late (s z) v)
        go true a x t = refl
        go false a (inr e) t = ap (λ b. first_late b v) e
        go false a (inl e) t = absurd (subst T (ap (left_out (place E W u v z)) e ∙ never_late (place E W u v z)) t)
    says_alike top dropped z l t_max t = go (eqb z E.subject) (top && any E.events (late E W u v)) (same z l) t
      where
        go : (b a : Bool) → (W z h_max ≡ pos 0) ⊎ (E.before z ≡ s z) → T (cond b a (not b && surely_consumed (place E W u v z) (W z h_max)))
            → cond b v (last_early (E.before z) u) ≡ cond b v (last_early (s z) u)
        go true a x t = refl
        go false a (inr e) t = ap (λ b. last_early b u) e
        go false a (inl e) t = absurd (subst T (ap (surely_consumed (place E W u v z)) e ∙ never_early (place E W u v z)) t)
    says_alike top dropped z l h_min t = refl
    says_alike top dropped z l h_max t = refl

-- Facts that are quoted alike, and say the same where they are.
quote_alike : (b c : Bool) (y : ℕ) (k : End) (v w : ℤ) → b ≡ c → (T b → v ≡ w) → quote b y k v ≡ quote c y k w
quote_alike true c y k v w e f = ap₂ (λ x z. quote x y k z) e (f tt)
quote_alike false c y k v w e f = ap (λ x. quote x y k w) e

pub premise_list_alike : (n : ℕ) (c d : ℕ → End → Bool) (v w : ℕ → End → ℤ) → ((z : ℕ) → z < n → (k : End) → c z k ≡ d z k) → ((z : ℕ) → z < n → (k : End) → T (c z k) → v z k ≡ w z k)
    → premise_list n c v ≡ premise_list n d w
unfolding premise_list
premise_list_alike zero c d v w h g = refl
premise_list_alike (suc n) c d v w h g =
    let one : (k : End) → quote (c n k) n k (v n k) ≡ quote (d n k) n k (w n k) = λ k. quote_alike (c n k) (d n k) n k (v n k) (w n k) (h n (omega arith) k) (g n (omega arith) k) in
    ap₂ ◌++◌ (premise_list_alike n c d v w (λ z l. h z (omega arith)) (λ z l. g z (omega arith)))
    (ap₂ ◌++◌ (one t_min) (ap₂ ◌++◌ (one t_max) (ap₂ ◌++◌ (one h_min) (one h_max))))

-- ---- neutral events behind the others

-- What is added up event by event is the same without the last ones, if they leave it as it is.
unmoved : {A : Type 0} (f : ℕ → A) (n k : ℕ) → n ≤ k → ((y : ℕ) → n ≤ y → y < k → f (suc y) ≡ f y) → f k ≡ f n
unmoved f n zero l h = ap f (omega arith)
unmoved f n (suc k) l h = go (ℕ_discrete n (suc k)) (λ m. unmoved f n k m (λ y p q. h y p (omega arith)))
  where
    go : Dec (n ≡ suc k) → (n ≤ k → f k ≡ f n) → f (suc k) ≡ f n
    go (yes e) rec = ap f (sym e)
    go (no d) rec = h k (omega arith) (omega arith) ∙ rec (omega arith)

adds_none : (a b : ℤ) → b ≡ pos 0 → a +ℤ b ≡ a
adds_none a b e = omega (ints, add_law a b)

or_none : (a b : Bool) → b ≡ false → (a || b) ≡ a
or_none true b e = refl
or_none false b e = e

and_none : (a b : Bool) → b ≡ false → (a && b) ≡ false
and_none true b e = e
and_none false b e = refl

-- The earliest of some bounds stays where nothing is added.
earlier_none : (g : Finding) (b : Bool) (c : ℤ) → earlier g nothing ≡ g → earlier (earlier g (given_if b (bound c))) nothing ≡ earlier g (given_if b (bound c))
earlier_none g false c e = ap (λ x. earlier x nothing) e
earlier_none nothing true c e = refl
earlier_none clash true c e = refl
earlier_none (bound v) true c e = go (le_z v c)
  where
    go : (t : Bool) → earlier (cond t (bound v) (bound c)) nothing ≡ cond t (bound v) (bound c)
    go true = refl
    go false = refl

earliest_none : (E : View) (W : Windows) (k : ℕ) → earlier (earliest E W k) nothing ≡ earliest E W k
unfolding earliest
earliest_none E W zero = refl
earliest_none E W (suc y) = earlier_none (earliest E W y) (reached_at E W y) (counts_from (E.before y) (W y t_min)) (earliest_none E W y)

-- A view of n events less.
abbrev pub first_events : View → ℕ → View
first_events E n =
    record { subject = E.subject; events = n; limit = E.limit; opening = E.opening; before = E.before }

-- From n on all events are neutral.
module _ (E : View) (n : ℕ) (W : Windows) (l : n ≤ E.events) (none : (y : ℕ) → n ≤ y → y < E.events → W y h_max ≡ pos 0) where
  abbrev G : View
  G = first_events E n

  sum_front : (f : ℕ → ℤ) → ((y : ℕ) → n ≤ y → y < E.events → f y ≡ pos 0) → sum E.events f ≡ sum n f
  unfolding sum
  sum_front f h = unmoved (λ k. sum k f) n E.events l (λ y p q. adds_none (sum y f) (f y) (h y p q))

  any_front : (p : ℕ → Bool) → ((y : ℕ) → n ≤ y → y < E.events → p y ≡ false) → any E.events p ≡ any n p
  unfolding any
  any_front p h = unmoved (λ k. any k p) n E.events l (λ y a b. or_none (any y p) (p y) (h y a b))

  most_front : (u v : ℤ) → most_in E W u v ≡ most_in G W u v
  unfolding most_in
  most_front u v =
      ap (λ x. E.opening +ℤ x) (sum_front (gains E W u v) (λ y p q. ap (gain (place E W u v y)) (none y p q) ∙ gain_none (place E W u v y)))

  sure_part_front : sure_part E W ≡ sure_part G W
  unfolding sure_part
  sure_part_front =
      ap (λ x. E.opening +ℤ x)
      (sum_front (λ y. sure_gain (stands E W y) (W y h_max)) (λ y p q. ap (sure_gain (stands E W y)) (none y p q) ∙ sure_gain_none (stands E W y)))

  earliest_same : (k : ℕ) → earliest E W k ≡ earliest G W k
  unfolding earliest
  earliest_same zero = refl
  earliest_same (suc y) =
      ap₂ (λ g m. earlier g (given_if (possible_producer (stands E W y) (W y h_max) && le_z E.limit m) (bound (counts_from (E.before y) (W y t_min)))))
      (earliest_same y) (most_front (e_min E W) (counts_from (E.before y) (W y t_min)))

  earliest_front : earliest E W E.events ≡ earliest G W n
  unfolding earliest
  earliest_front =
      earliest_same E.events
      ∙ unmoved (earliest G W) n E.events l (λ y p q. ap (λ b. earlier (earliest G W y) (given_if b (bound (counts_from (E.before y) (W y t_min))))) (unreached G W y (none y p q)) ∙ earliest_none G W y)

  pub rule_front : (f : Family) (y : ℕ) → family_rule f E W y ≡ family_rule f G W y
  rule_front level y = ap (λ x. given_if (lt_z x E.limit) clash) (most_front (e_min E W) (e_max E W))
  rule_front time y = ap₂ (λ x g. given_if (lt_z x E.limit) g) sure_part_front earliest_front
  rule_front height y = ap (λ x. given_if (targeted (stands E W y) (W y h_max)) (bound (E.limit -ℤ (x -ℤ W y h_max)))) (most_front (e_min E W) (e_max E W))

  -- Facts, with u..v for e's time window: none of those events is quoted.
  module _ (u v : ℤ) (top : Bool) (dropped : ℕ → Bool) where
    late_none : (y : ℕ) → n ≤ y → y < E.events → late E W u v y ≡ false
    late_none y p q = and_none (not (eqb y E.subject)) (left_out (place E W u v y) (W y h_max)) (ap (left_out (place E W u v y)) (none y p q) ∙ never_late (place E W u v y))

    early_none : (y : ℕ) → n ≤ y → y < E.events → early E W u v y ≡ false
    early_none y p q = and_none (not (eqb y E.subject)) (surely_consumed (place E W u v y) (W y h_max)) (ap (surely_consumed (place E W u v y)) (none y p q) ∙ never_early (place E W u v y))

    pub cites_front : (z : ℕ) (k : End) → cites E W u v top dropped z k ≡ cites G W u v top dropped z k
    cites_front z t_min = ap (λ a. cond (eqb z E.subject) a (late E W u v z)) (any_front (early E W u v) early_none)
    cites_front z t_max = ap (λ a. cond (eqb z E.subject) (top && a) (early E W u v z)) (any_front (late E W u v) late_none)
    cites_front z h_min = refl
    cites_front z h_max = refl

    pub uncited : (z : ℕ) → n ≤ z → z < E.events → (z ≡ E.subject → ⊥) → (k : End) → cites E W u v top dropped z k ≡ false
    uncited z p q d t_min = ap (λ b. cond b (any E.events (early E W u v)) (late E W u v z)) (ne_eqb z E.subject d) ∙ late_none z p q
    uncited z p q d t_max = ap (λ b. cond b (top && any E.events (late E W u v)) (early E W u v z)) (ne_eqb z E.subject d) ∙ early_none z p q
    uncited z p q d h_min = refl
    uncited z p q d h_max =
        and_none (not (dropped z)) (targeted (place E W u v z) (W z h_max)) (ap (targeted (place E W u v z)) (none z p q) ∙ no_target (place E W u v z))

pub premise_list_front : (n k : ℕ) (c : ℕ → End → Bool) (v : ℕ → End → ℤ) → n ≤ k → ((z : ℕ) → n ≤ z → z < k → (i : End) → c z i ≡ false) → premise_list k c v ≡ premise_list n c v
unfolding premise_list
premise_list_front n k c v l h =
    unmoved (λ i. premise_list i c v) n k l (λ y p q. ap₂ (λ a b. premise_list y c v ++ (quote a y t_min (v y t_min) ++ b)) (h y p q t_min) (rest y (h y p q)) ∙ append-nil (premise_list y c v))
  where
    rest : (y : ℕ) → ((i : End) → c y i ≡ false) → quote (c y t_max) y t_max (v y t_max) ++ (quote (c y h_min) y h_min (v y h_min) ++ quote (c y h_max) y h_max (v y h_max)) ≡ []
    rest y h = rw (h t_max, h h_min, h h_max)
