-- A job of several cages is, at each event, a job of one: that event's cage, with the events of other cages neutral. Rules 3 to 14 find, narrow and quote the same in both, so code for one cage serves.
-- Assumes nothing.
use mathlib.Core.Path.{◌≡◌, refl, sym, ap, ap₂, subst, ◌∙◌}
use mathlib.Core.Bool.{Bool, true, false, not, cond, ◌&&◌, ◌||◌}
use mathlib.Core.List.{List, [], ◌∷◌, ◌++◌}
use mathlib.Core.Logic.{◌⊎◌, inl, inr}
use Prim.Native.Nat.{ℕ, zero, suc, ◌+◌, ◌*◌, ◌/◌, ◌%◌, ◌≤◌, ◌<◌}
use native.Mathlib.Decide.{ℕ_discrete}
use native.Mathlib.Omega.{arith}
use lib.Dec.{T, eqb, eqb_refl, eqb→eq}
use lib.IntN.{ℤ, pos, ◌-ℤ◌}
use lib.ListN.{get_or, length, set, length-append, length-set, get_or-append}
use lib.Seq.{get_or-append-add, get_or-set_other, ext_get_or}
use Rattle.integers.proofs.Tests.{is_true, true_is}
use Rattle.model.specs.Job.{End, t_min, t_max, h_min, h_max, opposite, meets, slot, Windows, windows, Reservoir, Job, events, sent, lags, lag_a, lag_b, home, cage, cages, cage_of, cage_word, counts_later}
use Rattle.model.specs.Standing.{Sane}
use Rattle.model.specs.View.{side, side_value, side_limit, side_end, view, here, shown, seen}
use Rattle.model.specs.Levels.{e_min, e_max, stands, most}
use Rattle.model.specs.Rules.{Finding, nothing, clash, bound, Family, level, time, height, Rule, lag_upper, lag_lower, reservoir, rule, family_rule, family_end, side_finding, finding, own_end, Effect, idle, narrows, fails, effect, failed, given_if, targeted, target_fits, subjects}
use Rattle.model.specs.Facts.{lag_cites, quotes, quoted, cites, says, latest, quotes_top, drops}
use Rattle.model.specs.Slips.{Explanation, premise_list, explanation, concluded_kind, concluded_value, slip_words, rule_of, subject_of, target_of}
use Rattle.model.specs.Agenda.{Attempt, try, Each, each_of, lag_attempts, three_attempts, event_attempts}
use Rattle.model.specs.Rounds.{State, Status, running, ended, conflict, stopped, fits, recorded, acted, attempt, made}
use Rattle.model.specs.Reader.{same_end, gives, is_conflict, as_strict}
use Rattle.model.proofs.Sweeps.{each_append, each_of_all, made_append}
use Rattle.model.proofs.Table.{slot_inside, windows_set}
use Rattle.model.proofs.Agree.{Agree, with_before, family_rule_agree, cites_agree, says_agree, outcome_agree, explanation_agree}
use Rattle.model.proofs.Neutral.{no_target, rule_alike, cites_alike, says_alike, premise_list_alike}

-- ---- a window table of given windows, all in cage 0

abbrev five : Windows → ℕ → List ℤ
five W y = W y t_min ∷ W y t_max ∷ W y h_min ∷ W y h_max ∷ pos 0 ∷ []

unfoldable pub build : ℕ → Windows → List ℤ
build zero W = []
build (suc n) W = build n W ++ five W n

build_length : (n : ℕ) (W : Windows) → length (build n W) ≡ 5 * n
unfolding build
build_length zero W = refl
build_length (suc n) W = let h = build_length n W in simp length-append (omega arith)

build_word : (n : ℕ) (W : Windows) (y i : ℕ) → y < n → i < 5 → get_or (build n W) (5 * y + i) (pos 0) ≡ get_or (five W y) i (pos 0)
unfolding build
build_word zero W y i p q = absurd (omega arith)
build_word (suc n) W y i p q = go (ℕ_discrete y n) (λ r. build_word n W y i r q)
  where
    go : Dec (y ≡ n) → (y < n → get_or (build n W) (5 * y + i) (pos 0) ≡ get_or (five W y) i (pos 0)) → get_or (build n W ++ five W n) (5 * y + i) (pos 0) ≡ get_or (five W y) i (pos 0)
    go (yes e) rec =
        let k : 5 * y + i ≡ length (build n W) + i = omega (arith, build_length n W) in
        ap (λ j. get_or (build n W ++ five W n) j (pos 0)) k ∙ get_or-append-add (build n W) (five W n) i (pos 0) ∙ ap (λ z. get_or (five W z) i (pos 0)) (sym e)
    go (no d) rec =
        get_or-append (build n W) (five W n) (pos 0) (5 * y + i) (omega (arith, build_length n W)) ∙ rec (omega arith)

build_windows : (n : ℕ) (W : Windows) (y : ℕ) (k : End) → y < n → windows (build n W) y k ≡ W y k
unfolding windows
build_windows n W y t_min l = build_word n W y 0 l (omega arith)
build_windows n W y t_max l = build_word n W y 1 l (omega arith)
build_windows n W y h_min l = build_word n W y 2 l (omega arith)
build_windows n W y h_max l = build_word n W y 3 l (omega arith)

-- ---- a job of one cage

-- Windows with the amounts of events that are not in a group 0.
abbrev pub masked : (ℕ → Bool) → Windows → Windows
masked own W y k = shown (own y) k (W y k)

abbrev cage_words : Reservoir → List ℤ
cage_words c = c.min_level ∷ c.max_level ∷ c.initial ∷ c.cover ∷ []

-- The job with one cage, in which the others are neutral.
abbrev pub apart : Job → (ℕ → Bool) → Reservoir → Job
apart j own c =
    record {
      horizon = j.horizon;
      cage_table = cage_words c;
      window_table = build (events j) (masked own (sent j));
      lag_table = j.lag_table;
      set_table = j.set_table;
    }

-- As a rule at e sees it: e's cage and the events in it.
abbrev pub alone : Job → ℕ → Job
alone j e = apart j (here j e) (home j e)

-- As a lag sees it: all events.
abbrev pub bare : Job → Job
bare j = apart j (λ y. true) (cage j 0)

module _ (j : Job) (own : ℕ → Bool) (c : Reservoir) where
  pub events_apart : events (apart j own c) ≡ events j
  events_apart = let h = build_length (events j) (masked own (sent j)) in omega arith

  pub cages_apart : cages (apart j own c) ≡ 1
  cages_apart = refl

  pub cage_apart : cage (apart j own c) 0 ≡ c
  cage_apart = refl

  pub home_word : (y : ℕ) → y < events j → cage_word (apart j own c).window_table y ≡ pos 0
  home_word y l = build_word (events j) (masked own (sent j)) y 4 l (omega arith)

  pub sent_apart : (y : ℕ) (k : End) → y < events j → sent (apart j own c) y k ≡ masked own (sent j) y k
  sent_apart y k l = build_windows (events j) (masked own (sent j)) y k l

module _ (j : Job) (e : ℕ) where
  home_alone : (y : ℕ) → y < events j → home (alone j e) y ≡ home j e
  home_alone y l = rw (home_word j (here j e) (home j e) y l)

  here_alone : (y : ℕ) → e < events j → y < events j → here (alone j e) e y ≡ true
  here_alone y l p = rw (home_word j (here j e) (home j e) y p, home_word j (here j e) (home j e) e l)

-- ---- what is seen

pub shown_true : (k : End) (v : ℤ) → shown true k v ≡ v
shown_true t_min v = refl
shown_true t_max v = refl
shown_true h_min v = refl
shown_true h_max v = refl

side_shown : (m b : Bool) (W : Windows) (y : ℕ) (k : End) → side m (λ z i. shown b i (W z i)) y k ≡ shown b k (side m W y k)
side_shown m true W y k = ap (side_value m k) (shown_true (side_end m k) (W y (side_end m k))) ∙ sym (shown_true k (side m W y k))
side_shown false false W y k = refl
side_shown true false W y t_min = refl
side_shown true false W y t_max = refl
side_shown true false W y h_min = refl
side_shown true false W y h_max = refl

-- In windows X that are W with the others' amounts 0, a rule at e sees what it sees in W.
module _ (j : Job) (e : ℕ) (l : e < events j) (W X : Windows) (masks : (y : ℕ) → y < events j → (k : End) → X y k ≡ masked (here j e) W y k) where
  abbrev J : Job
  J = alone j e

  seen_alone : (m : Bool) → Agree (events j) (seen j m e W) (seen J m e X)
  seen_alone m y p k =
      sym
      (ap (λ b. shown b k (side m X y k)) (here_alone j e y l p)
      ∙ shown_true k (side m X y k)
      ∙ ap (side_value m k) (masks y p (side_end m k))
      ∙ side_shown m (here j e y) W y k)

  -- Both views mean "before" or "by" of the same events, but for those of other cages, which are neutral.
  before_alone : (m b : Bool) (y : ℕ) → y < events j → (seen j m e W y h_max ≡ pos 0) ⊎ ((view j m b e).before y ≡ (view J m b e).before y)
  before_alone m b y p = go (here j e y) refl
    where
      go : (t : Bool) → here j e y ≡ t → (shown t h_max (side m W y h_max) ≡ pos 0) ⊎ ((view j m b e).before y ≡ (view J m b e).before y)
      go false q = inl refl
      go true q =
          inr
          (ap₂ (λ c h. b || (not m && counts_later c h)) (sym (home_alone j e e l))
          (sym (sent_apart j (here j e) (home j e) y h_max p ∙ ap (λ t. shown t h_max (sent j y h_max)) q)))

  view_alone : (m b : Bool) → with_before (view j m b e) (view J m b e).before ≡ view J m b e
  view_alone m b =
      ap₂ (λ n c. record { subject = e; events = n; limit = side_limit m c; opening = side_value m h_max c.initial; before = (view J m b e).before })
      (sym (events_apart j (here j e) (home j e))) (sym (home_alone j e e l))

  rule_alone : (m b : Bool) (f : Family) (y : ℕ) → y < events j → family_rule f (view j m b e) (seen j m e W) y ≡ family_rule f (view J m b e) (seen J m e X) y
  rule_alone m b f y p =
      let E = view j m b e in
      let s = (view J m b e).before in
      rule_alike E s (seen j m e W) (before_alone m b) f y p
      ∙ family_rule_agree (with_before E s) s (λ z q. refl) (seen j m e W) (seen J m e X) (seen_alone m) l f y p
      ∙ ap (λ G. family_rule f G (seen J m e X) y) (view_alone m b)

  pub finding_alone : (m b : Bool) (f : Family) (y : ℕ) → y < events j → finding (reservoir m b f) j W e y ≡ finding (reservoir m b f) J X e y
  unfolding finding
  finding_alone m b f y p = ap (side_finding m (family_end f)) (rule_alone m b f y p)

  -- e's own time window.
  own_time : (m : Bool) (k : End) → seen j m e W e k ≡ seen J m e X e k
  own_time m k = seen_alone m e l k

  pub quotes_alone : (m b : Bool) (f : Family) (y : ℕ) (x : Effect) (z : ℕ) → z < events j → (k : End) → quotes (reservoir m b f) j W e y x z k ≡ quotes (reservoir m b f) J X e y x z k
  unfolding quotes
  quotes_alone m b f y x z p k =
      let E = view j m b e in
      let s = (view J m b e).before in
      let u = e_min E (seen j m e W) in
      let v = latest f (e_max E (seen j m e W)) x in
      cites_alike E s (seen j m e W) (before_alone m b) u v (quotes_top f) (drops f x y) z p (side_end m k)
      ∙ cites_agree (with_before E s) s (λ z q. refl) (seen j m e W) (seen J m e X) (seen_alone m) u v (quotes_top f) (drops f x y) z p (side_end m k)
      ∙ ap (λ G. cites G (seen J m e X) u v (quotes_top f) (drops f x y) z (side_end m k)) (view_alone m b)
      ∙ ap₂ (λ u v. cites (view J m b e) (seen J m e X) u (latest f v x) (quotes_top f) (drops f x y) z (side_end m k)) (own_time m t_min) (own_time m t_max)

  pub quoted_alone : (m b : Bool) (f : Family) (y : ℕ) (x : Effect) (z : ℕ) → z < events j → (k : End) → T (quotes (reservoir m b f) j W e y x z k) → quoted (reservoir m b f) j W e y x z k ≡ quoted (reservoir m b f) J X e y x z k
  unfolding quotes quoted
  quoted_alone m b f y x z p k t =
      let E = view j m b e in
      let s = (view J m b e).before in
      let u = e_min E (seen j m e W) in
      let v = latest f (e_max E (seen j m e W)) x in
      ap (side_value m k)
      (says_alike E s (seen j m e W) (before_alone m b) u v (quotes_top f) (drops f x y) z p (side_end m k) t
      ∙ says_agree (with_before E s) s (λ z q. refl) (seen j m e W) (seen J m e X) (seen_alone m) u v z p (side_end m k)
      ∙ ap (λ G. says G (seen J m e X) u v z (side_end m k)) (view_alone m b)
      ∙ ap₂ (λ u v. says (view J m b e) (seen J m e X) u (latest f v x) z (side_end m k)) (own_time m t_min) (own_time m t_max))

  pub explanation_alone : (r : ℕ) (m b : Bool) (f : Family) → rule r ≡ reservoir m b f → (y : ℕ) (x : Effect) → explanation r j W e y x ≡ explanation r J X e y x
  explanation_alone r m b f is y x =
      let R : (n : ℕ) → events j ≡ n → premise_list (events j) (quotes (rule r) j W e y x) (quoted (rule r) j W e y x) ≡ premise_list n (quotes (rule r) J X e y x) (quoted (rule r) J X e y x) =
      λ n q. subst (λ n. premise_list (events j) (quotes (rule r) j W e y x) (quoted (rule r) j W e y x) ≡ premise_list n (quotes (rule r) J X e y x) (quoted (rule r) J X e y x)) q
      (premise_list_alike (events j) (quotes (rule r) j W e y x) (quotes (rule r) J X e y x) (quoted (rule r) j W e y x) (quoted (rule r) J X e y x) (cited is) (said is))
      in
      λ i. record {
        rule = pos r;
        subject = pos e;
        target = pos y;
        kind = pos (concluded_kind (rule r) x);
        value = concluded_value x;
        premises = R (events J) (sym (events_apart j (here j e) (home j e))) i;
      }
    where
      cited : rule r ≡ reservoir m b f → (z : ℕ) → z < events j → (k : End) → quotes (rule r) j W e y x z k ≡ quotes (rule r) J X e y x z k
      cited q z p k = rw q (quotes_alone m b f y x z p k)

      said : rule r ≡ reservoir m b f → (z : ℕ) → z < events j → (k : End) → T (quotes (rule r) j W e y x z k) → quoted (rule r) j W e y x z k ≡ quoted (rule r) J X e y x z k
      said q z p k t = rw q (quoted_alone m b f y x z p k (rw q at t))

  -- An event of e's cage has its own windows; one of another cage is no target.
  here_same : (y : ℕ) → y < events j → here j e y ≡ true → (k : End) → W y k ≡ X y k
  here_same y p q k = sym (masks y p k ∙ ap (λ b. shown b k (W y k)) q ∙ shown_true k (W y k))

  effect_same : (y : ℕ) → y < events j → here j e y ≡ true → (k : End) (g : Finding) → effect k W y g ≡ effect k X y g
  effect_same y p q k nothing = refl
  effect_same y p q k clash = refl
  effect_same y p q k (bound v) =
      ap₂ (λ a c. cond (meets (opposite k) a v) (cond (meets k v c) idle (narrows v)) fails) (here_same y p q (opposite k)) (here_same y p q k)

  pub away_none : (m b : Bool) (y : ℕ) → here j e y ≡ false → finding (reservoir m b height) j W e y ≡ nothing
  unfolding finding
  away_none m b y q =
      let S = seen j m e W in
      let E = view j m b e in
      let none : S y h_max ≡ pos 0 = ap (λ t. shown t h_max (side m W y h_max)) q in
      ap (λ t. side_finding m h_min (given_if t (bound (E.limit -ℤ (most E S -ℤ S y h_max))))) (ap (targeted (stands E S y)) none ∙ no_target (stands E S y))

  -- The target of a rule that narrows its own event is at home.
  pub target_here : (m b : Bool) (f : Family) (y : ℕ) → T (target_fits (reservoir m b f) j e y) → (here j e y ≡ true) ⊎ (f ≡ height)
  target_here m b level y t = inl (rw (eqb→eq y e t) (is_true (eqb (cage_of j e) (cage_of j e)) (eqb_refl (cage_of j e))))
  target_here m b time y t = inl (rw (eqb→eq y e t) (is_true (eqb (cage_of j e) (cage_of j e)) (eqb_refl (cage_of j e))))
  target_here m b height y t = inr refl

  -- The effect on a target that fits.
  pub effect_alone : (m b : Bool) (f : Family) (y : ℕ) → y < events j → T (target_fits (reservoir m b f) j e y) →
      effect (own_end (reservoir m b f)) W y (finding (reservoir m b f) j W e y) ≡ effect (own_end (reservoir m b f)) X y (finding (reservoir m b f) J X e y)
  effect_alone m b f y p t = go (here j e y) refl (target_here m b f y t)
    where
      k : End
      k = own_end (reservoir m b f)

      at_home : here j e y ≡ true → effect k W y (finding (reservoir m b f) j W e y) ≡ effect k X y (finding (reservoir m b f) J X e y)
      at_home q = effect_same y p q k (finding (reservoir m b f) j W e y) ∙ ap (effect k X y) (finding_alone m b f y p)

      away : here j e y ≡ false → f ≡ height → effect k W y (finding (reservoir m b f) j W e y) ≡ effect k X y (finding (reservoir m b f) J X e y)
      away q h =
          let none : finding (reservoir m b f) j W e y ≡ nothing = rw h (away_none m b y q) in
          ap (effect k W y) none ∙ sym (ap (effect k X y) (sym (finding_alone m b f y p) ∙ none))

      go : (c : Bool) → here j e y ≡ c → (here j e y ≡ true) ⊎ (f ≡ height) → effect k W y (finding (reservoir m b f) j W e y) ≡ effect k X y (finding (reservoir m b f) J X e y)
      go true q x = at_home q
      go false q (inl h) = at_home h
      go false q (inr h) = away q h

  -- An effect that narrows is on an event of e's cage.
  pub narrows_here : (m b : Bool) (f : Family) (y : ℕ) → T (target_fits (reservoir m b f) j e y) → (v : ℤ) → effect (own_end (reservoir m b f)) W y (finding (reservoir m b f) j W e y) ≡ narrows v → here j e y ≡ true
  narrows_here m b f y t v h = go (here j e y) refl (target_here m b f y t)
    where
      go : (c : Bool) → here j e y ≡ c → (here j e y ≡ true) ⊎ (f ≡ height) → here j e y ≡ true
      go true q x = q
      go false q (inl x) = x
      go false q (inr x) =
          let none : finding (reservoir m b f) j W e y ≡ nothing = rw x (away_none m b y q) in
          let z : idle ≡ narrows v = sym (ap (effect (own_end (reservoir m b f)) W y) none) ∙ h in
          absurd (let a : ◌≡◌ {A = ℕ} 0 1 = cc in omega arith)

-- ---- attempts

-- The table T' is T with the amounts of events that are not in the group 0; of the table at the start, T has those events as they were, and every cage.
pub record Masks (n : ℕ) (own : ℕ → Bool) (start T T' : List ℤ) : Type 0 where
  pub whole : length T ≡ 5 * n
  pub whole' : length T' ≡ 5 * n
  pub masks : (y : ℕ) → y < n → (k : End) → windows T' y k ≡ masked own (windows T) y k
  pub away : (y : ℕ) → y < n → own y ≡ false → (k : End) → windows T y k ≡ windows start y k
  pub homes : (y : ℕ) → cage_word T y ≡ cage_word start y

-- A state with another table.
abbrev pub with_table : State → List ℤ → State
with_table s T = record { table = T; log = s.log; slips = s.slips; last = s.last; status = s.status }

-- The state t of the job of one cage, and the state s of the job.
pub record Twin (n : ℕ) (own : ℕ → Bool) (start : List ℤ) (s t : State) : Type 0 where
  pub table : List ℤ
  pub is : t ≡ with_table s table
  pub masking : Masks n own start s.table table

cage_stored : (T : List ℤ) (y : ℕ) (k : End) (v : ℤ) (z : ℕ) → cage_word (set T (slot y k) v) z ≡ cage_word T z
cage_stored T y t_min v z = get_or-set_other T (slot y t_min) (5 * z + 4) v (pos 0) (λ q. omega arith)
cage_stored T y t_max v z = get_or-set_other T (slot y t_max) (5 * z + 4) v (pos 0) (λ q. omega arith)
cage_stored T y h_min v z = get_or-set_other T (slot y h_min) (5 * z + 4) v (pos 0) (λ q. omega arith)
cage_stored T y h_max v z = get_or-set_other T (slot y h_max) (5 * z + 4) v (pos 0) (λ q. omega arith)

-- An attempt has the same effect on windows W in the job j as on X in i, on an event of the group where it narrows, and the same slip.
pub record Same (own : ℕ → Bool) (j i : Job) (r e y : ℕ) (W X : Windows) : Type 0 where
  pub effects : effect (own_end (rule r)) W y (finding (rule r) j W e y) ≡ effect (own_end (rule r)) X y (finding (rule r) i X e y)
  pub slips : (x : Effect) → explanation r j W e y x ≡ explanation r i X e y x
  pub inner : (v : ℤ) → effect (own_end (rule r)) W y (finding (rule r) j W e y) ≡ narrows v → own y ≡ true

module _ (n : ℕ) (own : ℕ → Bool) (start : List ℤ) where
  -- A word stored for an event of the group.
  masks_stored : {T T' : List ℤ} → Masks n own start T T' → (y : ℕ) → y < n → own y ≡ true → (k : End) (v : ℤ) → Masks n own start (set T (slot y k) v) (set T' (slot y k) v)
  masks_stored {T} {T'} a y l q k v =
      let i : slot y k < length T = rw a.whole (slot_inside n y k l) in
      let i' : slot y k < length T' = rw a.whole' (slot_inside n y k l) in
      record {
        whole = length-set T (slot y k) v ∙ a.whole;
        whole' = length-set T' (slot y k) v ∙ a.whole';
        masks = λ z p g. windows_set T' y k v i' z g ∙ one z p g (same_end g k) (eqb z y) refl ∙ ap (shown (own z) g) (sym (windows_set T y k v i z g));
        away = λ z p h g. windows_set T y k v i z g ∙ other z h g (same_end g k) (eqb z y) refl ∙ a.away z p h g;
        homes = λ z. cage_stored T y k v z ∙ a.homes z;
      }
    where
      one : (z : ℕ) → z < n → (i : End) (c d : Bool) → eqb z y ≡ d → cond (c && d) v (windows T' z i) ≡ shown (own z) i (cond (c && d) v (windows T z i))
      one z p i true true h = let f : z ≡ y = eqb→eq z y (true_is h) in sym (ap (λ b. shown b i v) (ap own f ∙ q) ∙ shown_true i v)
      one z p i true false h = a.masks z p i
      one z p i false d h = a.masks z p i

      other : (z : ℕ) → own z ≡ false → (i : End) (c d : Bool) → eqb z y ≡ d → cond (c && d) v (windows T z i) ≡ windows T z i
      other z h i true true g =
          let f : z ≡ y = eqb→eq z y (true_is g) in
          let b : false ≡ true = sym h ∙ ap own f ∙ q in
          absurd (let x : ◌≡◌ {A = ℕ} 0 1 = ap (λ t. cond t 1 0) b in omega arith)
      other z h i true false g = refl
      other z h i false d g = refl

  -- A slip recorded in both.
  recorded_twin : (room : ℕ) (s : State) (x : Explanation) (status : Status) {T' U U' : List ℤ} → Masks n own start s.table T' → Masks n own start U U' →
      Twin n own start (recorded room s x U status) (recorded room (with_table s T') x U' status)
  recorded_twin room s x status {T'} {U} {U'} a b = go (fits room s.log (slip_words x))
    where
      go : (c : Bool) →
          Twin n own start
          (cond c (record { table = U; log = s.log ++ slip_words x; slips = s.slips + 1; last = length s.log; status = status }) (record { table = s.table; log = s.log; slips = s.slips; last = s.last; status = ended stopped }))
          (cond c (record { table = U'; log = s.log ++ slip_words x; slips = s.slips + 1; last = length s.log; status = status }) (record { table = T'; log = s.log; slips = s.slips; last = s.last; status = ended stopped }))
      go true = record { table = U'; is = refl; masking = b }
      go false = record { table = T'; is = refl; masking = a }

  module _ (room : ℕ) (j J : Job) (r e y : ℕ) (l : y < n) where
    acted_twin : (s : State) {T' : List ℤ} → Masks n own start s.table T' → Same own j J r e y (windows s.table) (windows T') → (x : Effect) → effect (own_end (rule r)) (windows s.table) y (finding (rule r) j (windows s.table) e y) ≡ x →
        Twin n own start (acted room r j e y x s) (acted room r J e y x (with_table s T'))
    unfolding acted
    acted_twin s {T'} a same idle q = record { table = T'; is = refl; masking = a }
    acted_twin s {T'} a same (narrows v) q =
        subst (λ z. Twin n own start (recorded room s (explanation r j (windows s.table) e y (narrows v)) (set s.table (slot y (own_end (rule r))) v) running) (recorded room (with_table s T') z (set T' (slot y (own_end (rule r))) v) running))
        (same.slips (narrows v))
        (recorded_twin room s (explanation r j (windows s.table) e y (narrows v)) running a (masks_stored a y l (same.inner v q) (own_end (rule r)) v))
    acted_twin s {T'} a same fails q =
        subst (λ z. Twin n own start (recorded room s (explanation r j (windows s.table) e y fails) s.table (ended conflict)) (recorded room (with_table s T') z T' (ended conflict)))
        (same.slips fails)
        (recorded_twin room s (explanation r j (windows s.table) e y fails) (ended conflict) a a)

    attempt_at : (s : State) {T' : List ℤ} → Masks n own start s.table T' → Same own j J r e y (windows s.table) (windows T') → Twin n own start (attempt room r j e y s) (attempt room r J e y (with_table s T'))
    unfolding attempt
    attempt_at s {T'} a same = go s.status
      where
        does : Effect
        does = effect (own_end (rule r)) (windows s.table) y (finding (rule r) j (windows s.table) e y)

        does' : Effect
        does' = effect (own_end (rule r)) (windows T') y (finding (rule r) J (windows T') e y)

        go : (x : Status) → Twin n own start (elim x [ running ↦ acted room r j e y does s | ended v ↦ s ]) (elim x [ running ↦ acted room r J e y does' (with_table s T') | ended v ↦ with_table s T' ])
        go running = subst (λ z. Twin n own start (acted room r j e y does s) (acted room r J e y z (with_table s T'))) same.effects (acted_twin s a same does refl)
        go (ended v) = record { table = T'; is = refl; masking = a }

    pub attempt_twin : ((W X : Windows) → ((z : ℕ) → z < n → (k : End) → X z k ≡ masked own W z k) → Same own j J r e y W X) → (s u : State) → Twin n own start s u → Twin n own start (attempt room r j e y s) (attempt room r J e y u)
    attempt_twin same s u w = subst (λ u. Twin n own start (attempt room r j e y s) (attempt room r J e y u)) (sym w.is) (attempt_at s w.masking (same (windows s.table) (windows w.table) w.masking.masks))

  -- Attempts made in turn, all of them the same in both jobs.
  abbrev pub Alike : Job → Job → Attempt → Type 0
  Alike j i a =
      (a.target < n) × ((W X : Windows) → ((z : ℕ) → z < n → (k : End) → X z k ≡ masked own W z k) → Same own j i a.rule a.subject a.target W X)

  pub made_twin : (room : ℕ) (j i : Job) (list : List Attempt) → Each (Alike j i) list → (s u : State) → Twin n own start s u → Twin n own start (made room j list s) (made room i list u)
  unfolding made
  made_twin room j i [] a s u w = w
  made_twin room j i (x ∷ rest) a s u w =
      made_twin room j i rest a.1 (attempt room x.rule j x.subject x.target s) (attempt room x.rule i x.subject x.target u)
      (attempt_twin room j i x.rule x.subject x.target a.0.0 a.0.1 s u w)

-- ---- all rules at an event

-- Rules 3 to 14 at e in a job of n events.
abbrev attempts_three : ℕ → ℕ → ℕ → List Attempt
attempts_three n r e = try r e e ∷ try (r + 1) e e ∷ each_of (λ y. try (r + 2) e y ∷ []) 0 n

abbrev attempts_of : ℕ → ℕ → List Attempt
attempts_of n e =
    attempts_three n 3 e ++ (attempts_three n 6 e ++ (attempts_three n 9 e ++ attempts_three n 12 e))

module _ (j : Job) (e : ℕ) (l : e < events j) (start : List ℤ) where
  abbrev Seen : Attempt → Type 0
  Seen = Alike (events j) (here j e) start j (alone j e)

  seen_rule : (r : ℕ) (m b : Bool) (f : Family) → rule r ≡ reservoir m b f → (y : ℕ) → y < events j → T (target_fits (reservoir m b f) j e y) → Seen (try r e y)
  seen_rule r m b f is y p t = (
    p,
    λ W X masks. record {
      effects = rw is (effect_alone j e l W X masks m b f y p t);
      slips = λ x. explanation_alone j e l W X masks r m b f is y x;
      inner = λ v q. narrows_here j e l W X masks m b f y t v (rw is at q);
    },
  )

  three_seen : (r : ℕ) (m b : Bool) → rule r ≡ reservoir m b level → rule (r + 1) ≡ reservoir m b time → rule (r + 2) ≡ reservoir m b height → Each Seen (three_attempts j r e)
  three_seen r m b f g h = (
    seen_rule r m b level f e l (eqb_refl e),
    (
      seen_rule (r + 1) m b time g e l (eqb_refl e),
      each_of_all Seen (λ y. try (r + 2) e y ∷ []) (events j) 0 (events j) (λ y p. (seen_rule (r + 2) m b height h y p tt, tt)) (omega arith),
    ),
  )

  event_seen : Each Seen (event_attempts j e)
  event_seen =
      each_append Seen (three_attempts j 3 e) _ (three_seen 3 false true refl refl refl)
      (each_append Seen (three_attempts j 6 e) _ (three_seen 6 true true refl refl refl)
      (each_append Seen (three_attempts j 9 e) _ (three_seen 9 false false refl refl refl)
      (three_seen 12 true false refl refl refl)))

  -- The job with e's cage alone does what the job does.
  pub event_twin : (room : ℕ) (s u : State) → Twin (events j) (here j e) start s u → Twin (events j) (here j e) start (made room j (event_attempts j e) s) (made room (alone j e) (event_attempts (alone j e) e) u)
  event_twin room s u w =
      subst (λ n. Twin (events j) (here j e) start (made room j (event_attempts j e) s) (made room (alone j e) (attempts_of n e) u)) (sym (events_apart j (here j e) (home j e)))
      (made_twin (events j) (here j e) start room j (alone j e) (event_attempts j e) event_seen s u w)

-- Events of one cage see one job: so does it at each of k neighbours of e's cage in turn.
module _ (j : Job) (e : ℕ) (start : List ℤ) where
  home_twin : (y : ℕ) → y < events j → cage_of j y ≡ cage_of j e → (room : ℕ) (s u : State) → Twin (events j) (here j e) start s u → Twin (events j) (here j e) start (made room j (event_attempts j y) s) (made room (alone j e) (event_attempts (alone j e) y) u)
  home_twin y l q room s u =
      subst (λ c. Twin (events j) (λ z. eqb (cage_of j z) c) start s u → Twin (events j) (λ z. eqb (cage_of j z) c) start (made room j (event_attempts j y) s) (made room (apart j (λ z. eqb (cage_of j z) c) (cage j c)) (event_attempts (apart j (λ z. eqb (cage_of j z) c) (cage j c)) y) u))
      q (event_twin j y l start room s u)

  pub events_twin : (i k : ℕ) → i + k ≤ events j → ((y : ℕ) → i ≤ y → y < i + k → here j e y ≡ true) → (room : ℕ) (s u : State) → Twin (events j) (here j e) start s u →
      Twin (events j) (here j e) start (made room j (each_of (event_attempts j) i k) s) (made room (alone j e) (each_of (event_attempts (alone j e)) i k) u)
  unfolding each_of made
  events_twin i zero l h room s u w = w
  events_twin i (suc k) l h room s u w =
      rw (made_append room j (event_attempts j i) (each_of (event_attempts j) (i + 1) k) s, made_append room (alone j e) (event_attempts (alone j e) i) (each_of (event_attempts (alone j e)) (i + 1) k) u)
      (events_twin (i + 1) k (omega arith) (λ y p q. h y (omega arith) (omega arith)) room (made room j (event_attempts j i) s) (made room (alone j e) (event_attempts (alone j e) i) u)
      (home_twin i (omega arith) (eqb→eq (cage_of j i) (cage_of j e) (true_is (h i (omega arith) (omega arith)))) room s u w))

-- ---- lags

module _ (j : Job) (sane : Sane j) (start : List ℤ) where
  abbrev Lagged : Attempt → Type 0
  Lagged = Alike (events j) (λ y. true) start j (bare j)

  same_all : (W X : Windows) → ((z : ℕ) → z < events j → (k : End) → X z k ≡ masked (λ y. true) W z k) → Agree (events j) W X
  same_all W X masks y p k = sym (masks y p k ∙ shown_true k (W y k))

  -- Rules 1 and 2 read neither cages nor amounts.
  abbrev Lag : Rule → Type 0
  Lag r = (r ≡ lag_upper) ⊎ (r ≡ lag_lower)

  lag_finding : (r : Rule) → Lag r → (X : Windows) (g y : ℕ) → finding r j X g y ≡ finding r (bare j) X g y
  unfolding finding
  lag_finding r (inl q) X g y = rw q
  lag_finding r (inr q) X g y = rw q

  lag_subjects : (r : Rule) → Lag r → (g : ℕ) → g < lags j → g < subjects r j
  lag_subjects r (inl q) g l = rw q l
  lag_subjects r (inr q) g l = rw q l

  lag_same : (a b : Bool) (g z : ℕ) (k : End) → lag_cites a b j g z k ≡ lag_cites a b (bare j) g z k
  lag_same a b g z t_min = refl
  lag_same a b g z t_max = refl
  lag_same a b g z h_min = refl
  lag_same a b g z h_max = refl

  lag_quotes : (r : Rule) → Lag r → (X : Windows) (g y : ℕ) (x : Effect) (z : ℕ) (k : End) → quotes r j X g y x z k ≡ quotes r (bare j) X g y x z k
  unfolding quotes
  lag_quotes r (inl q) X g y x z k = rw q (lag_same (failed x) true g z k)
  lag_quotes r (inr q) X g y x z k = rw q (lag_same true (failed x) g z k)

  lag_quoted : (r : Rule) → Lag r → (X : Windows) (g y : ℕ) (x : Effect) (z : ℕ) (k : End) → quoted r j X g y x z k ≡ quoted r (bare j) X g y x z k
  unfolding quoted
  lag_quoted r (inl q) X g y x z k = rw q
  lag_quoted r (inr q) X g y x z k = rw q

  lag_slip : (r : ℕ) → Lag (rule r) → (X : Windows) (g y : ℕ) (x : Effect) → explanation r j X g y x ≡ explanation r (bare j) X g y x
  lag_slip r which X g y x =
      let all = premise_list_alike (events j) (quotes (rule r) j X g y x) (quotes (rule r) (bare j) X g y x) (quoted (rule r) j X g y x) (quoted (rule r) (bare j) X g y x) (λ z p. lag_quotes (rule r) which X g y x z) (λ z p k t. lag_quoted (rule r) which X g y x z k) ∙ ap (λ n. premise_list n (quotes (rule r) (bare j) X g y x) (quoted (rule r) (bare j) X g y x)) (sym (events_apart j (λ y. true) (cage j 0))) in
      λ i. record {
        rule = pos r;
        subject = pos g;
        target = pos y;
        kind = pos (concluded_kind (rule r) x);
        value = concluded_value x;
        premises = all i;
      }

  lag_rule : (r : ℕ) (g : ℕ) → g < lags j → Lag (rule r) → (y : ℕ) → y < events j → Lagged (try r g y)
  lag_rule r g l which y p = (
    p,
    λ W X masks.
        let a = same_all W X masks in
        let q = lag_subjects (rule r) which g l in
        record {
          effects = outcome_agree j W X a sane.lag (rule r) g y q p ∙ ap (effect (own_end (rule r)) X y) (lag_finding (rule r) which X g y);
          slips = λ x. explanation_agree j W X a r g y x q ∙ lag_slip r which X g y x;
          inner = λ v q. refl;
        },
  )

  pub lags_twin : (room : ℕ) (s u : State) → Twin (events j) (λ y. true) start s u → Twin (events j) (λ y. true) start (made room j (each_of (lag_attempts j) 0 (lags j)) s) (made room (bare j) (each_of (lag_attempts (bare j)) 0 (lags (bare j))) u)
  lags_twin room s u w = made_twin (events j) (λ y. true) start room j (bare j) (each_of (lag_attempts j) 0 (lags j))
      (each_of_all Lagged (lag_attempts j) (lags j) 0 (lags j) (λ g l. (lag_rule 1 g l (inl refl) (lag_a j g) (sane.lag g l).real_a, (lag_rule 2 g l (inr refl) (lag_b j g) (sane.lag g l).real_b, tt))) (omega arith)) s u w

-- ---- question 16

module _ (j : Job) (x : Explanation) (W X : Windows) where
  -- A slip of a rule at e, on fact windows W; in X the others' amounts are 0.
  pub gives_alone : (m b : Bool) (f : Family) → rule_of x ≡ reservoir m b f → subject_of x < events j → target_of x < events j → T (target_fits (reservoir m b f) j (subject_of x) (target_of x)) →
      ((y : ℕ) → y < events j → (k : End) → X y k ≡ masked (here j (subject_of x)) W y k) → gives j W x ≡ gives (alone j (subject_of x)) X x
  unfolding gives
  gives_alone m b f is l p t masks =
      let e = subject_of x in
      let y = target_of x in
      let does : effect (own_end (rule_of x)) W y (finding (rule_of x) j W e y) ≡ effect (own_end (rule_of x)) X y (finding (rule_of x) (alone j e) X e y) = rw is (effect_alone j e l W X masks m b f y p t) in
      let finds : finding (rule_of x) j W e y ≡ finding (rule_of x) (alone j e) X e y = rw is (finding_alone j e l W X masks m b f y p) in
      ap₂ (cond (is_conflict x)) (ap failed does) (ap (as_strict (own_end (rule_of x)) x.value) finds)

-- ---- a table by its words

-- A table is known by its windows and its cages.
pub same_table : (n : ℕ) (S U : List ℤ) → length S ≡ 5 * n → length U ≡ 5 * n → ((y : ℕ) → y < n → (k : End) → windows S y k ≡ windows U y k) → ((y : ℕ) → y < n → cage_word S y ≡ cage_word U y) → S ≡ U
unfolding windows
same_table n S U a b w c = ext_get_or (pos 0) S U (a ∙ sym b) (λ i l. go i (i / 5) (i % 5) (omega arith) (omega arith) (omega arith))
  where
    go : (i y r : ℕ) → i ≡ 5 * y + r → y < n → r < 5 → get_or S i (pos 0) ≡ get_or U i (pos 0)
    go i y zero e l q = rw e (w y l t_min)
    go i y (suc zero) e l q = rw e (w y l t_max)
    go i y (suc (suc zero)) e l q = rw e (w y l h_min)
    go i y (suc (suc (suc zero))) e l q = rw e (w y l h_max)
    go i y (suc (suc (suc (suc zero)))) e l q = rw e (c y l)
    go i y (suc (suc (suc (suc (suc r))))) e l q = absurd (omega arith)
