-- Events behind the last one of e's cage, lags and sets show nowhere to a rule at e: the job of the first n events alone does at e what the job does.
-- Assumes nothing.
use mathlib.Core.Path.{◌≡◌, refl, sym, ap, ap₂, ◌∙◌}
use mathlib.Core.Bool.{Bool, true, false, not, cond, ◌||◌, ◌&&◌}
use mathlib.Core.List.{List, [], ◌∷◌, ◌++◌}
use Prim.Native.Nat.{ℕ, zero, suc, ◌+◌, ◌-◌, ◌*◌, ◌≤◌, ◌<◌}
use native.Mathlib.Omega.{arith}
use borrow.Author.Tests.{le-ltb}
use lib.Dec.{eqb}
use lib.IntN.{ℤ, pos, nat_abs}
use lib.ListN.{length, set, take, drop}
use lib.Seq.{length-take-le, get_or-take, take-set-lt, drop-set-lt}
use Rattle.model.specs.Job.{End, t_min, t_max, h_min, h_max, slot, Windows, windows, Job, events, sent, cage_at, cage_word, home, counts_later, set_begin, begun}
use Rattle.model.specs.View.{side, side_limit, side_value, side_end, view, here, shown, seen}
use Rattle.model.specs.Levels.{e_min, e_max}
use Rattle.model.specs.Rules.{Family, level, time, height, reservoir, rule, family_rule, family_end, side_finding, finding, own_end, Effect, idle, narrows, fails, effect}
use Rattle.model.specs.Facts.{quotes, quoted, cites, says, latest, quotes_top, drops}
use Rattle.model.specs.Slips.{Explanation, premise_list, explanation, concluded_kind, concluded_value, slip_words}
use Rattle.model.specs.Agenda.{Attempt, try, Each, each_of, target_attempts, three_attempts, event_attempts}
use Rattle.model.specs.Rounds.{State, Status, running, ended, conflict, stopped, fits, recorded, acted, attempt, made}
use Rattle.model.proofs.Sweeps.{each_of_range, each_of_append, made_append, Step, same, stops, narrowed, failing, attempt_step}
use Rattle.model.proofs.Silence.{Still, made_still}
use Rattle.model.proofs.Table.{slot_inside}
use Rattle.model.proofs.Agree.{Agree, with_before, family_rule_agree, cites_agree, says_agree, premise_list_agree, effect_agree}
use Rattle.model.proofs.Neutral.{first_events, rule_front, cites_front, uncited, premise_list_front}
use Rattle.model.proofs.Alone.{masked, with_table, away_none}

-- The first n events of a job, without its lags and sets.
abbrev pub front : ℕ → Job → Job
front n j =
    record { horizon = j.horizon; cage_table = j.cage_table; window_table = take (5 * n) j.window_table; lag_table = []; set_table = [] }

pub no_sets : (k : ℕ) → begun [] k ≡ 0
unfolding begun
no_sets zero = refl
no_sets (suc k) = rw (le-ltb (set_begin [] k) 0 (omega arith)) (no_sets k)

pub windows_take : (n : ℕ) (table : List ℤ) (y : ℕ) (k : End) → y < n → windows (take (5 * n) table) y k ≡ windows table y k
unfolding windows
windows_take n table y k l = get_or-take (5 * n) table (slot y k) (pos 0) (slot_inside n y k l)

pub cage_take : (n : ℕ) (table : List ℤ) (y : ℕ) → y < n → cage_word (take (5 * n) table) y ≡ cage_word table y
cage_take n table y l = get_or-take (5 * n) table (5 * y + 4) (pos 0) (omega arith)

-- A state's first n events.
abbrev pub cut : ℕ → State → State
cut n s = with_table s (take (5 * n) s.table)

module _ (j : Job) (n : ℕ) (some : n ≤ events j) where
  pub length_front : length (front n j).window_table ≡ 5 * n
  length_front = length-take-le (5 * n) j.window_table (omega arith)

  pub events_front : events (front n j) ≡ n
  events_front = omega (arith, length_front)

  pub sent_front : (y : ℕ) (k : End) → y < n → sent (front n j) y k ≡ sent j y k
  sent_front y k l = windows_take n j.window_table y k l

  pub cage_front : (y : ℕ) → y < n → cage_word (front n j).window_table y ≡ cage_word j.window_table y
  cage_front y l = cage_take n j.window_table y l

  -- ---- the rules at e, whose cage has no event from n on

  module _ (e : ℕ) (l : e < n) (away : (y : ℕ) → n ≤ y → y < events j → here j e y ≡ false) where
    abbrev J : Job
    J = front n j

    home_front : home J e ≡ home j e
    home_front = ap (λ w. cage_at j.cage_table (nat_abs w)) (cage_front e l)

    module _ (W X : Windows) (a : Agree n W X) where
      seen_front : (m : Bool) → Agree n (seen j m e W) (seen J m e X)
      seen_front m y p k =
          ap₂ (λ b v. shown b k (side_value m k v)) (ap₂ (λ u v. eqb (nat_abs u) (nat_abs v)) (sym (cage_front y p)) (sym (cage_front e l))) (a y p (side_end m k))

      seen_none : (m : Bool) (y : ℕ) → n ≤ y → y < events j → seen j m e W y h_max ≡ pos 0
      seen_none m y p q = ap (λ t. shown t h_max (side m W y h_max)) (away y p q)

      before_front : (m b : Bool) (y : ℕ) → y < n → (view j m b e).before y ≡ (view J m b e).before y
      before_front m b y p = ap₂ (λ c h. b || (not m && counts_later c h)) (sym home_front) (sym (sent_front y h_max p))

      view_front : (m b : Bool) → with_before (first_events (view j m b e) n) (view J m b e).before ≡ view J m b e
      view_front m b =
          ap₂ (λ n c. record { subject = e; events = n; limit = side_limit m c; opening = side_value m h_max c.initial; before = (view J m b e).before }) (sym events_front) (sym home_front)

      finding_front : (m b : Bool) (f : Family) (y : ℕ) → y < n → finding (reservoir m b f) j W e y ≡ finding (reservoir m b f) J X e y
      unfolding finding
      finding_front m b f y p =
          let E = view j m b e in
          ap (side_finding m (family_end f))
          (rule_front E n (seen j m e W) some (seen_none m) f y
          ∙ family_rule_agree (first_events E n) (view J m b e).before (before_front m b) (seen j m e W) (seen J m e X) (seen_front m) l f y p
          ∙ ap (λ G. family_rule f G (seen J m e X) y) (view_front m b))

      quotes_front : (m b : Bool) (f : Family) (y : ℕ) (x : Effect) (z : ℕ) → z < n → (k : End) → quotes (reservoir m b f) j W e y x z k ≡ quotes (reservoir m b f) J X e y x z k
      unfolding quotes
      quotes_front m b f y x z p k =
          let E = view j m b e in
          let u = e_min E (seen j m e W) in
          let v = latest f (e_max E (seen j m e W)) x in
          cites_front E n (seen j m e W) some (seen_none m) u v (quotes_top f) (drops f x y) z (side_end m k)
          ∙ cites_agree (first_events E n) (view J m b e).before (before_front m b) (seen j m e W) (seen J m e X) (seen_front m) u v (quotes_top f) (drops f x y) z p (side_end m k)
          ∙ ap (λ G. cites G (seen J m e X) u v (quotes_top f) (drops f x y) z (side_end m k)) (view_front m b)
          ∙ ap₂ (λ u v. cites (view J m b e) (seen J m e X) u (latest f v x) (quotes_top f) (drops f x y) z (side_end m k)) (seen_front m e l t_min) (seen_front m e l t_max)

      quotes_none : (m b : Bool) (f : Family) (y : ℕ) (x : Effect) (z : ℕ) → n ≤ z → z < events j → (k : End) → quotes (reservoir m b f) j W e y x z k ≡ false
      unfolding quotes
      quotes_none m b f y x z p q k =
          let E = view j m b e in
          uncited E n (seen j m e W) some (seen_none m) (e_min E (seen j m e W)) (latest f (e_max E (seen j m e W)) x) (quotes_top f) (drops f x y) z p q (λ i. omega arith) (side_end m k)

      quoted_front : (m b : Bool) (f : Family) (y : ℕ) (x : Effect) (z : ℕ) → z < n → (k : End) → quoted (reservoir m b f) j W e y x z k ≡ quoted (reservoir m b f) J X e y x z k
      unfolding quoted
      quoted_front m b f y x z p k =
          let E = view j m b e in
          let u = e_min E (seen j m e W) in
          let v = latest f (e_max E (seen j m e W)) x in
          ap (side_value m k)
          (says_agree (first_events E n) (view J m b e).before (before_front m b) (seen j m e W) (seen J m e X) (seen_front m) u v z p (side_end m k)
          ∙ ap (λ G. says G (seen J m e X) u v z (side_end m k)) (view_front m b)
          ∙ ap₂ (λ u v. says (view J m b e) (seen J m e X) u (latest f v x) z (side_end m k)) (seen_front m e l t_min) (seen_front m e l t_max))

      explanation_front : (r : ℕ) (m b : Bool) (f : Family) → rule r ≡ reservoir m b f → (y : ℕ) (x : Effect) → explanation r j W e y x ≡ explanation r J X e y x
      explanation_front r m b f is y x =
          let none : (z : ℕ) → n ≤ z → z < events j → (k : End) → quotes (rule r) j W e y x z k ≡ false = λ z p q k. rw is (quotes_none m b f y x z p q k) in
          let cited : (z : ℕ) → z < n → (k : End) → quotes (rule r) j W e y x z k ≡ quotes (rule r) J X e y x z k = λ z p k. rw is (quotes_front m b f y x z p k) in
          let said : (z : ℕ) → z < n → (k : End) → quoted (rule r) j W e y x z k ≡ quoted (rule r) J X e y x z k = λ z p k. rw is (quoted_front m b f y x z p k) in
          let all = premise_list_front n (events j) (quotes (rule r) j W e y x) (quoted (rule r) j W e y x) some none
          ∙ premise_list_agree n (quotes (rule r) j W e y x) (quotes (rule r) J X e y x) (quoted (rule r) j W e y x) (quoted (rule r) J X e y x) cited said
          ∙ ap (λ i. premise_list i (quotes (rule r) J X e y x) (quoted (rule r) J X e y x)) (sym events_front) in
          λ i. record {
            rule = pos r;
            subject = pos e;
            target = pos y;
            kind = pos (concluded_kind (rule r) x);
            value = concluded_value x;
            premises = all i;
          }

      effect_front : (m b : Bool) (f : Family) (y : ℕ) → y < n → effect (own_end (reservoir m b f)) W y (finding (reservoir m b f) j W e y) ≡ effect (own_end (reservoir m b f)) X y (finding (reservoir m b f) J X e y)
      effect_front m b f y p =
          let k = own_end (reservoir m b f) in
          let same : Agree (events J) W X = λ z q. a z (rw events_front at q) in
          effect_agree J W X same k y (rw events_front p) (finding (reservoir m b f) j W e y) ∙ ap (effect k X y) (finding_front m b f y p)

  -- ---- attempts

  cut_agree : (table : List ℤ) → Agree n (windows table) (windows (take (5 * n) table))
  cut_agree table y p k = sym (windows_take n table y k p)

  module _ (room : ℕ) where
    -- What attempts of the job do to its first n events, these attempts do in the job of these events; the others stay as they are.
    pub record Fronts (xs ys : List Attempt) : Type 0 where
      pub firsts : (s : State) → cut n (made room j xs s) ≡ made room (front n j) ys (cut n s)
      pub rest : (s : State) → drop (5 * n) (made room j xs s).table ≡ drop (5 * n) s.table

    fronts_both : {xs ys xs' ys' : List Attempt} → Fronts xs ys → Fronts xs' ys' → Fronts (xs ++ xs') (ys ++ ys')
    fronts_both {xs} {ys} {xs'} {ys'} f g =
        record {
          firsts = λ s. ap (cut n) (made_append room j xs xs' s) ∙ g.firsts (made room j xs s) ∙ ap (made room (front n j) ys') (f.firsts s) ∙ sym (made_append room (front n j) ys ys' (cut n s));
          rest = λ s. ap (λ (t : State). drop (5 * n) t.table) (made_append room j xs xs' s) ∙ g.rest (made room j xs s) ∙ f.rest s;
        }

    -- The same of one attempt.
    record One (a : Attempt) : Type 0 where
      first : (s : State) → cut n (attempt room a.rule j a.subject a.target s) ≡ attempt room a.rule (front n j) a.subject a.target (cut n s)
      others : (s : State) → drop (5 * n) (attempt room a.rule j a.subject a.target s).table ≡ drop (5 * n) s.table

    fronts_none : Fronts [] []
    unfolding made
    fronts_none = record { firsts = λ s. refl; rest = λ s. refl }

    fronts_each : (xs : List Attempt) → Each One xs → Fronts xs xs
    unfolding made
    fronts_each [] h = fronts_none
    fronts_each (a ∷ xs) h =
        let one = h.0 in
        let more = fronts_each xs h.1 in
        record {
          firsts = λ s. more.firsts (attempt room a.rule j a.subject a.target s) ∙ ap (made room (front n j) xs) (one.first s);
          rest = λ s. more.rest (attempt room a.rule j a.subject a.target s) ∙ one.others s;
        }

    cut_recorded : (s : State) (x : Explanation) (table : List ℤ) (status : Status) → cut n (recorded room s x table status) ≡ recorded room (cut n s) x (take (5 * n) table) status
    cut_recorded s x table status = go (fits room s.log (slip_words x))
      where
        go : (c : Bool) →
            cut n (cond c (record { table = table; log = s.log ++ slip_words x; slips = s.slips + 1; last = length s.log; status = status }) (record { table = s.table; log = s.log; slips = s.slips; last = s.last; status = ended stopped }))
            ≡ cond c (record { table = take (5 * n) table; log = s.log ++ slip_words x; slips = s.slips + 1; last = length s.log; status = status }) (record { table = take (5 * n) s.table; log = s.log; slips = s.slips; last = s.last; status = ended stopped })
        go true = refl
        go false = refl

    -- All rules at e, whose cage has no event from n on.
    module _ (e : ℕ) (l : e < n) (away : (y : ℕ) → n ≤ y → y < events j → here j e y ≡ false) where
      module _ (r : ℕ) (m b : Bool) (f : Family) (is : rule r ≡ reservoir m b f) (y : ℕ) (p : y < n) where
        slips_alike : (s : State) (x : Effect) → explanation r j (windows s.table) e y x ≡ explanation r (front n j) (windows (take (5 * n) s.table)) e y x
        slips_alike s x = explanation_front e l away (windows s.table) (windows (take (5 * n) s.table)) (cut_agree s.table) r m b f is y x

        cut_acted : (s : State) (x : Effect) → cut n (acted room r j e y x s) ≡ acted room r (front n j) e y x (cut n s)
        unfolding acted
        cut_acted s idle = refl
        cut_acted s (narrows v) =
            let k = own_end (rule r) in
            cut_recorded s (explanation r j (windows s.table) e y (narrows v)) (set s.table (slot y k) v) running
            ∙ ap₂ (λ x t. recorded room (cut n s) x t running) (slips_alike s (narrows v)) (take-set-lt (5 * n) s.table (slot y k) v (slot_inside n y k p))
        cut_acted s fails =
            cut_recorded s (explanation r j (windows s.table) e y fails) s.table (ended conflict)
            ∙ ap (λ x. recorded room (cut n s) x (take (5 * n) s.table) (ended conflict)) (slips_alike s fails)

        cut_attempt : (s : State) → cut n (attempt room r j e y s) ≡ attempt room r (front n j) e y (cut n s)
        unfolding attempt
        cut_attempt s = go s.status
          where
            does : Effect
            does = effect (own_end (rule r)) (windows s.table) y (finding (rule r) j (windows s.table) e y)

            does' : Effect
            does' = effect (own_end (rule r)) (windows (take (5 * n) s.table)) y (finding (rule r) (front n j) (windows (take (5 * n) s.table)) e y)

            alike : does ≡ does'
            alike = rw is (effect_front e l away (windows s.table) (windows (take (5 * n) s.table)) (cut_agree s.table) m b f y p)

            go : (x : Status) → cut n (elim x [ running ↦ acted room r j e y does s | ended v ↦ s ]) ≡ elim x [ running ↦ acted room r (front n j) e y does' (cut n s) | ended v ↦ cut n s ]
            go running = cut_acted s does ∙ ap (λ x. acted room r (front n j) e y x (cut n s)) alike
            go (ended v) = refl

        rest_step : (s t : State) → Step room r j e y s t → drop (5 * n) t.table ≡ drop (5 * n) s.table
        rest_step s t same = refl
        rest_step s t (stops on) = refl
        rest_step s t (narrowed v on q w) = drop-set-lt (5 * n) s.table (slot y (own_end (rule r))) v (slot_inside n y (own_end (rule r)) p)
        rest_step s t (failing on q w) = refl

        one_rule : One (try r e y)
        one_rule = record { first = cut_attempt; others = λ s. rest_step s (attempt room r j e y s) (attempt_step room r j e y s) }

      -- A target from n on is passed over.
      skips : (r : ℕ) (m b : Bool) → rule r ≡ reservoir m b height → (s : State) → made room j (target_attempts j r e) s ≡ made room j (target_attempts (front n j) r e) s
      skips r m b is s =
          let i = events (front n j) in
          let k = events j - n in
          let t : ℕ → List Attempt = λ y. try r e y ∷ [] in
          let size = events_front in
          let c : events j ≡ i + k = omega (arith, size) in
          let first = made room j (each_of t 0 i) s in
          ap (λ c. made room j (each_of t 0 c) s) c
          ∙ ap (λ xs. made room j xs s) (each_of_append t 0 i k)
          ∙ made_append room j (each_of t 0 i) (each_of t (0 + i) k) s
          ∙ made_still room j first (each_of t (0 + i) k) (each_of_range (Still j (windows first.table)) t (0 + i) k (λ y p q. (idle_away (windows first.table) y (omega (arith, size)) (omega (arith, size)), tt)))
        where
          idle_away : (W : Windows) (y : ℕ) → n ≤ y → y < events j → effect (own_end (rule r)) W y (finding (rule r) j W e y) ≡ idle
          idle_away W y p q = rw is (ap (effect (side_end m h_min) W y) (away_none j e (omega arith) W (masked (here j e) W) (λ z o k. refl) m b y (away y p q)))

      three_fronts : (r : ℕ) (m b : Bool) → rule r ≡ reservoir m b level → rule (r + 1) ≡ reservoir m b time → rule (r + 2) ≡ reservoir m b height → Fronts (three_attempts j r e) (three_attempts (front n j) r e)
      unfolding made
      three_fronts r m b f g h =
          let size = events_front in
          let each : Each One (three_attempts (front n j) r e) = (
            one_rule r m b level f e l,
            (
              one_rule (r + 1) m b time g e l,
              each_of_range One (λ y. try (r + 2) e y ∷ []) 0 (events (front n j)) (λ y p q. (one_rule (r + 2) m b height h y (omega (arith, size)), tt)),
            ),
          ) in
          let all = fronts_each (three_attempts (front n j) r e) each in
          let skip : (s : State) → made room j (three_attempts j r e) s ≡ made room j (three_attempts (front n j) r e) s = λ s. skips (r + 2) m b h (attempt room (r + 1) j e e (attempt room r j e e s)) in
          record {
            firsts = λ s. ap (cut n) (skip s) ∙ all.firsts s;
            rest = λ s. ap (λ (t : State). drop (5 * n) t.table) (skip s) ∙ all.rest s;
          }

      event_fronts : Fronts (event_attempts j e) (event_attempts (front n j) e)
      event_fronts =
          fronts_both (three_fronts 3 false true refl refl refl)
          (fronts_both (three_fronts 6 true true refl refl refl) (fronts_both (three_fronts 9 false false refl refl refl) (three_fronts 12 true false refl refl refl)))

    -- Neighbouring events in turn.
    pub events_fronts : (i k : ℕ) → i + k ≤ n → ((y : ℕ) → i ≤ y → y < i + k → (z : ℕ) → n ≤ z → z < events j → here j y z ≡ false) → Fronts (each_of (event_attempts j) i k) (each_of (event_attempts (front n j)) i k)
    unfolding each_of
    events_fronts i zero l away = fronts_none
    events_fronts i (suc k) l away =
        fronts_both (event_fronts i (omega arith) (away i (omega arith) (omega arith))) (events_fronts (i + 1) k (omega arith) (λ y p q. away y (omega arith) (omega arith)))
