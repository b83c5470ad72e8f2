-- All rules at neighbours of one cage on the board of the events up to its last: what they do there, put back, is what they do in the job; the same of the lags.
-- Assumes nothing.
use mathlib.Core.Path.{◌≡◌, refl, sym, ap, ap₂, subst, ◌∙◌}
use mathlib.Core.Bool.{Bool, true, false, cond}
use mathlib.Core.List.{List, [], ◌++◌}
use mathlib.Core.Logic.{◌⊎◌, inl, inr, ⊎_elim}
use Prim.Native.Nat.{ℕ, zero, suc, ◌+◌, ◌-◌, ◌*◌, ◌≤◌, ◌<◌}
use native.Mathlib.Omega.{arith}
use borrow.Author.Tests.{ltb-true, ltb-false, eqb-true}
use lib.Dec.{eqb, ltb}
use lib.IntN.{ℤ, pos, nat_abs}
use lib.ListN.{length, take, drop, length-append, take-append-drop, drop_of_length-le}
use lib.Seq.{length-take-le, drop-append-le}
use Rattle.std.specs.Borrow.{GName}
use Rattle.integers.specs.Range.{Within}
use Rattle.model.specs.Job.{End, t_min, t_max, h_min, h_max, windows, produces, events, sent, cage_at, cage_word, home, cage, cages, Job as Call}
use Rattle.model.specs.View.{shown, here}
use Rattle.model.specs.Standing.{Sane, span}
use Rattle.model.specs.Agenda.{Attempt, each_of, event_attempts, agenda}
use Rattle.model.specs.Rounds.{State, made}
use Rattle.model.proofs.Alone.{masked, apart, events_apart, home_word, sent_apart, Masks, Twin, with_table, events_twin, lags_twin, same_table}
use Rattle.model.proofs.Front.{front, cut, no_sets, windows_take, cage_take, length_front, events_front, sent_front, cage_front, Fronts, events_fronts}
use Rattle.model.proofs.Sweeps.{each_of_append}
use Rattle.tables.specs.Board.{board, event_words, table_of}
use Rattle.tables.specs.Job.{reservoir_of, OfCage, Holds, Kinds, Serves, Fit}
use Rattle.tables.specs.declared.Job.{Job}
use Rattle.tables.proofs.Boarding.{length_table, windows_board, cage_kept}
use Rattle.cages.specs.Masking.{together, Homed, Masked, Joined, Later, Stretch, Ends}
use Rattle.rounds.specs.Held.{Held}
use Rattle.rounds.specs.State.{room, state_of, Leads}
use Rattle.rounds.specs.Sweeps.{between_attempts, lags_attempts, events_attempts}
use Rattle.rounds.specs.declared.Log.{Log}
use Rattle.members.specs.Members.{Binds, sets_attempts}
use Rattle.rounds.proofs.Moves.{leads_as, leads_both, leads_nothing}
use Rattle.turns.specs.Works.{Works}
use Rattle.turns.specs.declared.Call.{Call as Hand}
use Rattle.turns.specs.Turns.{call_of, Done}

-- ---- ranges

shown_within : (t : Bool) (k : End) (v : ℤ) → Within v (span k) → Within (shown t k v) (span k)
shown_within true t_min v w = w
shown_within true t_max v w = w
shown_within true h_min v w = w
shown_within true h_max v w = w
shown_within false t_min v w = w
shown_within false t_max v w = w
shown_within false h_min v w = record { most = omega arith; least = omega arith }
shown_within false h_max v w = record { most = omega arith; least = omega arith }

either_within : (t : Bool) (k : End) (v w : ℤ) → Within v (span k) → Within w (span k) → Within (cond t v w) (span k)
either_within true k v w a b = a
either_within false k v w a b = b

produces_shown : (t : Bool) (v w : ℤ) → produces v ≡ produces w → produces (cond t v (pos 0)) ≡ produces (cond t w (pos 0))
produces_shown true v w e = e
produces_shown false v w e = refl

produces_either : (t : Bool) (v v' w w' : ℤ) → (t ≡ true → produces v ≡ produces v') → produces w ≡ produces w' → produces (cond t v w) ≡ produces (cond t v' w')
produces_either true v v' w w' f g = f refl
produces_either false v v' w w' f g = g

-- ---- the job and the board of one cage

module _ (j : Call) (n : ℕ) (b : List ℤ) (w : Works j n b) where
  pub homed : Homed n j.window_table
  homed =
      record {
        few = rw (← w.events_are) w.sane.few_events;
        whole = w.whole;
        sign = λ y l. w.sane.cage_sign y (rw w.events_are l);
      }

  -- A job of one cage, in which some are neutral, is that of the cage's words.
  module _ (own : ℕ → Bool) (k : Job) (c : ℕ) (horizon : k.horizon.0 ≡ j.horizon) (cage-is : reservoir_of k.reservoir ≡ cage j c) (count : k.events ≡ n) where
    holds_apart : Holds k j.lag_table (apart j own (cage j c))
    holds_apart =
        let size = events_apart j own (cage j c) in
        record {
          horizon_is = sym horizon;
          cages_are = refl;
          reservoir_is = sym cage-is;
          home_is = λ y l. home_word j own (cage j c) y (rw size at l);
          events_are = size ∙ w.events_are ∙ sym count;
          lags_are = refl;
        }

    fit_apart : c < cages j → Fit k j.lag_table
    fit_apart l =
        let s = w.sane in
        record {
          horizon_low = rw horizon s.horizon_low;
          horizon_high = rw horizon s.horizon_high;
          cage = rw cage-is (s.cage c l);
          few_events = rw (count, ← w.events_are) s.few_events;
          few_lags = s.few_lags;
          lag = rw (count, ← w.events_are) s.lag;
        }

    -- A board with the others' amounts 0 serves it.
    serves_apart : (s : List ℤ) → ((y : ℕ) → y < n → (k : End) → board s y k ≡ masked own (board b) y k) → Serves k j.lag_table (board s) (apart j own (cage j c))
    serves_apart s m =
        record {
          holds = holds_apart;
          kinds = λ y l.
              let size = events_apart j own (cage j c) in
              let p : y < events j = rw size at l in
              let q : y < n = rw w.events_are at p in
              ap produces (m y q h_max)
              ∙ produces_shown (own y) (board b y h_max) (sent j y h_max) (w.kinds y q)
              ∙ ap produces (sym (sent_apart j own (cage j c) y h_max p));
        }

-- ---- put back

-- The tables of the job and of the job of one cage, at the start.
module _ (j : Call) (n : ℕ) (own : ℕ → Bool) (is : events j ≡ n) (sent' b s : List ℤ) (m : (y : ℕ) → y < n → (k : End) → board s y k ≡ masked own (board b) y k) where
  masks_start : Masks (events j) own (table_of n j.window_table b) (table_of n j.window_table b) (table_of n sent' s)
  masks_start =
      record {
        whole = rw is (length_table n j.window_table b);
        whole' = rw is (length_table n sent' s);
        masks = λ y l k.
            let p : y < n = rw is at l in
            windows_board n sent' s y k p ∙ m y p k ∙ ap (shown (own y) k) (sym (windows_board n j.window_table b y k p));
        away = λ y l h k. refl;
        homes = λ y. refl;
      }

shown_true : (k : End) (v : ℤ) → shown true k v ≡ v
shown_true t_min v = refl
shown_true t_max v = refl
shown_true h_min v = refl
shown_true h_max v = refl

-- Attempts that do the same in the job of one cage, made there on the board s, and b'' with what moved put back.
module _ (j : Call) (n : ℕ) (b : List ℤ) (w : Works j n b) (held : Held n b) (own : ℕ → Bool) (k : Job) (c : ℕ) (horizon : k.horizon.0 ≡ j.horizon) (cage-is : reservoir_of k.reservoir ≡ cage j c) (count : k.events ≡ n)
    {s s' : List ℤ} {l l' : Log} (m : (y : ℕ) → y < n → (i : End) → board s y i ≡ masked own (board b) y i)
    (todo : Call → List Attempt) (r : Leads k.events (Serves k j.lag_table (board s)) (λ i. made (room l) i (todo i)) s l s' l') (held' : Held n s')
    (b'' : List ℤ) (whole : length b'' ≡ 256) (back : (y : ℕ) → y < n → (i : End) → board b'' y i ≡ cond (own y) (board s' y i) (board b y i)) where
  abbrev J : Call
  J = apart j own (cage j c)

  abbrev S : State
  S = state_of n j.window_table b l

  abbrev U : State
  U = state_of n J.window_table s l

  abbrev M : State
  M = made (room l) j (todo j) S

  run : state_of n J.window_table s' l' ≡ made (room l) J (todo J) U
  run =
      subst (λ x. state_of x J.window_table s' l' ≡ made (room l) J (todo J) (state_of x J.window_table s l)) count
      (r.is J (serves_apart j n b w own k c horizon cage-is count s m))

  kinds_back : Kinds n (board b'') (board b)
  kinds_back y i =
      ap produces (back y i h_max)
      ∙ produces_either (own y) (board s' y h_max) (board b y h_max) (board b y h_max) (board b y h_max)
      (λ h. r.kinds y (rw count i) ∙ ap produces (m y i h_max ∙ ap (λ t. shown t h_max (board b y h_max)) h)) refl
      ∙ ap produces (same_either (own y) (board b y h_max))
    where
      same_either : (t : Bool) (v : ℤ) → cond t v v ≡ v
      same_either true v = refl
      same_either false v = refl

  held_back : Held n b''
  held_back =
      record {
        whole = whole;
        ranged = record { few = held.ranged.few; range = λ y p i. rw (back y p i) (either_within (own y) i (board s' y i) (board b y i) (held'.ranged.range y p i) (held.ranged.range y p i)) };
        signed = λ y p. rw (back y p h_min, back y p h_max) (produces_either (own y) (board s' y h_min) (board s' y h_max) (board b y h_min) (board b y h_max) (λ t. held'.signed y p) (held.signed y p));
      }

  module _ (twin : (S U : State) → Twin (events j) own (table_of n j.window_table b) S U → Twin (events j) own (table_of n j.window_table b) (made (room l) j (todo j) S) (made (room l) J (todo J) U)) where
    both : Twin (events j) own (table_of n j.window_table b) M (made (room l) J (todo J) U)
    both =
        twin S U (record { table = table_of n J.window_table s; is = refl; masking = masks_start j n own w.events_are J.window_table b s m })

    told : state_of n J.window_table s' l' ≡ with_table M both.table
    told = run ∙ both.is

    same_end_at : (y : ℕ) → y < n → (i : End) → board b'' y i ≡ windows M.table y i
    same_end_at y p i = back y p i ∙ go (own y) refl
      where
        p₁ : y < events j
        p₁ = rw w.events_are p

        go : (t : Bool) → own y ≡ t → cond t (board s' y i) (board b y i) ≡ windows M.table y i
        go true h =
            sym (windows_board n J.window_table s' y i p)
            ∙ ap (λ (x : State). windows x.table y i) told
            ∙ both.masking.masks y p₁ i
            ∙ ap (λ t. shown t i (windows M.table y i)) h
            ∙ shown_true i (windows M.table y i)
        go false h = sym (windows_board n j.window_table b y i p) ∙ sym (both.masking.away y p₁ h i)

    table_is : table_of n j.window_table b'' ≡ M.table
    table_is =
        same_table n (table_of n j.window_table b'') M.table (length_table n j.window_table b'') (both.masking.whole ∙ ap (λ x. 5 * x) w.events_are)
        (λ y p i. windows_board n j.window_table b'' y i p ∙ same_end_at y p i)
        (λ y p. cage_kept n j.window_table b'' y p ∙ sym (both.masking.homes y ∙ cage_kept n j.window_table b y p))

    is_back : state_of n j.window_table b'' l' ≡ M
    is_back = ap (λ (x : State). with_table x (table_of n j.window_table b'')) told ∙ ap (with_table M) table_is

    leads_back : Leads n (λ i. i ≡ j) (λ i. made (room l) i (todo i)) b l b'' l'
    leads_back =
        record {
          is = λ i e. subst (λ i. state_of n i.window_table b'' l' ≡ made (room l) i (todo i) (state_of n i.window_table b l)) (sym e) is_back;
          kinds = kinds_back;
          grown = r.grown;
        }

-- ---- a call at hand

pub works_next : {j : Call} {n : ℕ} {b b' : List ℤ} → Works j n b → Kinds n (board b') (board b) → Works j n b'
works_next w a =
    record { sane = w.sane; whole = w.whole; events_are = w.events_are; kinds = λ y l. a y l ∙ w.kinds y l }

-- ---- the first events alone

before_or_on : (y n : ℕ) → (y < n) ⊎ (n ≤ y)
before_or_on y n = go (ltb y n) refl
  where
    go : (t : Bool) → ltb y n ≡ t → (y < n) ⊎ (n ≤ y)
    go true q = inl (ltb-true y n q)
    go false q = inr (ltb-false y n q)

-- The first events of a board's table, and a table whose later events are another board's.
cut_table : (n end : ℕ) (sent b : List ℤ) → end ≤ n → take (5 * end) (table_of n sent b) ≡ table_of end (take (5 * end) sent) b
cut_table n end sent b l =
    same_table end (take (5 * end) (table_of n sent b)) (table_of end (take (5 * end) sent) b)
    (length-take-le (5 * end) (table_of n sent b) (omega (arith, length_table n sent b))) (length_table end (take (5 * end) sent) b)
    (λ y p k. windows_take end (table_of n sent b) y k p ∙ windows_board n sent b y k (omega arith) ∙ sym (windows_board end (take (5 * end) sent) b y k p))
    (λ y p. cage_take end (table_of n sent b) y p ∙ cage_kept n sent b y (omega arith) ∙ sym (cage_kept end (take (5 * end) sent) b y p ∙ cage_take end sent y p))

later_table : (n end : ℕ) (sent b b' : List ℤ) → n ≤ 64 → Later end b b' → drop (5 * end) (table_of n sent b') ≡ drop (5 * end) (table_of n sent b)
unfolding table_of
later_table zero end sent b b' few l = refl
later_table (suc n) end sent b b' few l = go (before_or_on n end) (later_table n end sent b b' (omega arith) l)
  where
    size : (c : List ℤ) → length (table_of n sent c) ≡ 5 * n
    size = length_table n sent

    go : (n < end) ⊎ (end ≤ n) → drop (5 * end) (table_of n sent b') ≡ drop (5 * end) (table_of n sent b) → drop (5 * end) (table_of n sent b' ++ event_words sent b' n) ≡ drop (5 * end) (table_of n sent b ++ event_words sent b n)
    go (inl p) rec =
        let none : (c : List ℤ) → drop (5 * end) (table_of n sent c ++ event_words sent c n) ≡ [] = λ c. drop_of_length-le (table_of n sent c ++ event_words sent c n) {i = 5 * end} (rw (length-append (table_of n sent c) (event_words sent c n)) (omega (arith, size c))) in
        none b' ∙ sym (none b)
    go (inr p) rec =
        let at = l n p (omega arith) in
        drop-append-le (5 * end) (table_of n sent b') (event_words sent b' n) (omega (arith, size b'))
        ∙ ap₂ ◌++◌ rec (rw (at t_min, at t_max, at h_min, at h_max))
        ∙ sym (drop-append-le (5 * end) (table_of n sent b) (event_words sent b n) (omega (arith, size b)))

-- The last event of e's cage is the one before end.
module _ (j : Call) (n : ℕ) (b : List ℤ) (w : Works j n b) (held : Held n b) {e end : ℕ} (ends : Ends n j.window_table e end) where
  some : end ≤ events j
  some = rw w.events_are ends.inside

  front_sane : Sane (front end j)
  front_sane =
      let s = w.sane in
      let size = events_front j end some in
      record {
        horizon_low = s.horizon_low;
        horizon_high = s.horizon_high;
        some_cage = s.some_cage;
        few_cages = s.few_cages;
        cage = s.cage;
        cage_sign = λ y l. rw (cage_front j end some y (rw size at l)) (s.cage_sign y (omega (arith, size, some)));
        cage_real = λ y l. rw (cage_front j end some y (rw size at l)) (s.cage_real y (omega (arith, size, some)));
        few_events = omega (arith, size, some, s.few_events);
        few_lags = omega arith;
        lag = λ g l. absurd (omega arith);
        few_sets = rw (no_sets 17) (omega arith);
        set_sane = λ g l. absurd (let z = rw (no_sets 17) at l in omega arith);
      }

  pub front_works : Works (front end j) end b
  front_works =
      let inside = ends.inside in
      record {
        sane = front_sane;
        whole = length_front j end some;
        events_are = events_front j end some;
        kinds = λ y l. w.kinds y (omega arith) ∙ ap produces (sym (sent_front j end some y h_max l));
      }

  pub front_held : Held end b
  front_held =
      let inside = ends.inside in
      let few = held.ranged.few in
      record {
        whole = held.whole;
        ranged = record { few = omega arith; range = λ y l. held.ranged.range y (omega arith) };
        signed = λ y l. held.signed y (omega arith);
      }

  -- What holds of the first events on another board holds of all, if the later ones are the same.
  pub held_all : {b' : List ℤ} → Later end b b' → Held end b' → Held n b'
  held_all {b'} later h =
      let few = held.ranged.few in
      let other : (y : ℕ) → y < n → end ≤ y → (k : End) → board b' y k ≡ board b y k = λ y l o. later y o (omega arith) in
      record {
        whole = h.whole;
        ranged = record { few = few; range = λ y l k. ⊎_elim (λ o. h.ranged.range y o k) (λ o. rw (other y l o k) (held.ranged.range y l k)) (before_or_on y end) };
        signed = λ y l. ⊎_elim (λ o. h.signed y o) (λ o. rw (other y l o h_min, other y l o h_max) (held.signed y l)) (before_or_on y end);
      }

  kinds_all : (b' : List ℤ) → Later end b b' → Kinds end (board b') (board b) → Kinds n (board b') (board b)
  kinds_all b' later a y l =
      let few = held.ranged.few in
      ⊎_elim (λ o. a y o) (λ o. ap produces (later y o (omega arith) h_max)) (before_or_on y end)

  module _ {to : ℕ} (t : Stretch n j.window_table e to) where
    pub inside_front : to ≤ end
    inside_front = go (before_or_on end to)
      where
        go : (end < to) ⊎ (to ≤ end) → to ≤ end
        go (inr p) = p
        go (inl p) =
            let behind = ends.behind in
            let inside = t.inside in
            let b : false ≡ true = sym (ends.away end (omega arith) (omega arith)) ∙ t.one end (omega arith) p in
            absurd (let x : ◌≡◌ {A = ℕ} 0 1 = ap (λ t. cond t 1 0) b in omega arith)

    cage_away : (y : ℕ) → e ≤ y → y < e + (to - e) → (z : ℕ) → end ≤ z → z < events j → here j y z ≡ false
    cage_away y a o z i r =
        let some = t.some in
        let same : nat_abs (cage_word j.window_table y) ≡ nat_abs (cage_word j.window_table e) = eqb-true (nat_abs (cage_word j.window_table y)) (nat_abs (cage_word j.window_table e)) (t.one y a (omega arith)) in
        ap (λ x. eqb (nat_abs (cage_word j.window_table z)) x) same ∙ ends.away z i (rw w.events_are at r)

    fronts : (room : ℕ) → Fronts j end some room (between_attempts e to j) (between_attempts e to (front end j))
    fronts room =
        let o = inside_front in
        let some' = t.some in
        events_fronts j end some room e (to - e) (omega arith) cage_away

    -- What was done in the job of the first events was done in the job.
    module _ {b' : List ℤ} {l l' : Log} (later : Later end b b') (d : Leads end (λ i. i ≡ front end j) (λ i. made (room l) i (between_attempts e to i)) b l b' l') where
      abbrev before : State
      before = state_of n j.window_table b l

      abbrev after : State
      after = made (room l) j (between_attempts e to j) before

      told_front : state_of end (take (5 * end) j.window_table) b' l' ≡ cut end after
      told_front =
          d.is (front end j) refl
          ∙ ap (made (room l) (front end j) (between_attempts e to (front end j))) (ap (with_table before) (sym (cut_table n end j.window_table b ends.inside)))
          ∙ sym ((fronts (room l)).firsts before)

      table_front : table_of n j.window_table b' ≡ after.table
      table_front =
          sym (take-append-drop (5 * end) (table_of n j.window_table b'))
          ∙ ap₂ ◌++◌ (cut_table n end j.window_table b' ends.inside ∙ ap (λ (s : State). s.table) told_front) (later_table n end j.window_table b b' held.ranged.few later ∙ sym ((fronts (room l)).rest before))
          ∙ take-append-drop (5 * end) after.table

      is_front : state_of n j.window_table b' l' ≡ after
      is_front = ap (λ (s : State). with_table s (table_of n j.window_table b')) told_front ∙ ap (with_table after) table_front

      pub front_leads : Leads n (λ i. i ≡ j) (λ i. made (room l) i (between_attempts e to i)) b l b' l'
      front_leads =
          record {
            is = λ i q. subst (λ i. state_of n i.window_table b' l' ≡ made (room l) i (between_attempts e to i) (state_of n i.window_table b l)) (sym q) is_front;
            kinds = kinds_all b' later d.kinds;
            grown = d.grown;
          }

-- ---- all rules at neighbours of one cage

module _ (c : Hand) {e end to : ℕ} (ends : Ends c.events c.windows.now e end) (t : Stretch c.events c.windows.now e to) where
  abbrev F : Call
  F = front end (call_of c)

  works_first : Works F end c.board.now.words
  works_first = front_works (call_of c) c.events c.board.now.words c.works c.held ends

  held_first : Held end c.board.now.words
  held_first = front_held (call_of c) c.events c.board.now.words c.works c.held ends

  pub inside_first : to ≤ end
  inside_first = inside_front (call_of c) c.events c.board.now.words c.works c.held ends t

  own_real : e < events F
  own_real = rw works_first.events_are ends.behind

  module _ (k : Job) (i : ℕ) (q : i ≡ nat_abs (cage_word c.windows.now e)) (told : OfCage c.horizon.0 c.cages.now i end k) where
    abbrev number : ℕ
    number = nat_abs (cage_word F.window_table e)

    its_cage : reservoir_of k.reservoir ≡ home F e
    its_cage =
        told.reservoir_is
        ∙ ap (cage_at c.cages.now) (q ∙ ap nat_abs (sym (cage_front (call_of c) end (some (call_of c) c.events c.board.now.words c.works c.held ends) e ends.behind)))

    pub stretch_fits : Fit k []
    stretch_fits = fit_apart F end c.board.now.words works_first (here F e) k number told.horizon_is its_cage told.events_are (works_first.sane.cage_real e own_real)

    pub stretch_held : {s : List ℤ} → Masked end F.window_table e c.board.now.words s → Held k.events s
    stretch_held {s} m =
        let h = held_first in
        subst (λ x. Held x s) (sym told.events_are)
        (record {
          whole = m.whole;
          ranged = record { few = h.ranged.few; range = λ y r i. rw (m.is y r i) (shown_within (together F.window_table e y) i (board c.board.now.words y i) (h.ranged.range y r i)) };
          signed = λ y r. rw (m.is y r h_min, m.is y r h_max) (produces_shown (together F.window_table e y) (board c.board.now.words y h_min) (board c.board.now.words y h_max) (h.signed y r));
        })

    module _ {s s' b'' : List ℤ} {l l' : Log} (m : Masked end F.window_table e c.board.now.words s) (back : Joined end F.window_table e c.board.now.words s' b'') (r : Leads k.events (Serves k [] (board s)) (λ i. made (room l) i (between_attempts e to i)) s l s' l') (held : Held end s') where
      leads_first : Leads end (λ i. i ≡ F) (λ i. made (room l) i (between_attempts e to i)) c.board.now.words l b'' l'
      leads_first =
          let o = inside_first in
          let p = t.some in
          leads_back F end c.board.now.words works_first held_first (here F e) k number told.horizon_is its_cage told.events_are m.is (between_attempts e to) r held b'' back.whole back.is
          (events_twin F e (table_of end F.window_table c.board.now.words) e (to - e) (rw works_first.events_are (omega arith)) (λ y p q. one_front y p (omega arith)) (room l))
        where
          one_front : (y : ℕ) → e ≤ y → y < to → here F e y ≡ true
          one_front y p q =
              let o = inside_first in
              let real = some (call_of c) c.events c.board.now.words c.works c.held ends in
              rw (cage_front (call_of c) end real y (omega arith), cage_front (call_of c) end real e ends.behind) (t.one y p q)

      pub stretch_leads : Leads c.events (λ i. i ≡ call_of c) (λ i. made (room l) i (between_attempts e to i)) c.board.now.words l b'' l'
      stretch_leads = front_leads (call_of c) c.events c.board.now.words c.works c.held ends t back.later leads_first

      pub stretch_kept : Held c.events b''
      stretch_kept =
          held_all (call_of c) c.events c.board.now.words c.works c.held ends back.later
          (held_back F end c.board.now.words works_first held_first (here F e) k number told.horizon_is its_cage told.events_are m.is (between_attempts e to) r held b'' back.whole back.is)

      pub stretch_works : Works (call_of c) c.events b''
      stretch_works = works_next c.works stretch_leads.kinds

-- ---- lags

module _ (c : Hand) (k : Job) (told : OfCage c.horizon.0 c.cages.now 0 c.events k) where
  pub lags_lead : {b' : List ℤ} {l l' : Log} → Held c.events b' → Leads k.events (Serves k c.lags.now (board c.board.now.words)) (λ i. made (room l) i (lags_attempts i)) c.board.now.words l b' l' → Leads c.events (λ i. i ≡ call_of c) (λ i. made (room l) i (lags_attempts i)) c.board.now.words l b' l'
  lags_lead {b'} {l} held r =
      leads_back (call_of c) c.events c.board.now.words c.works c.held (λ y. true) k 0 told.horizon_is told.reservoir_is told.events_are (λ y m i. sym (shown_true i (board c.board.now.words y i))) lags_attempts r held b' held.whole (λ y m i. refl)
      (lags_twin (call_of c) c.works.sane (table_of c.events c.windows.now c.board.now.words) (room l))

-- ---- sets

pub sets_lead : (c : Hand) {b' : List ℤ} {l l' : Log} → Leads c.events (Binds c.events c.sets.now) (λ i. made (room l) i (sets_attempts i)) c.board.now.words l b' l' → Leads c.events (λ i. i ≡ call_of c) (λ i. made (room l) i (sets_attempts i)) c.board.now.words l b' l'
sets_lead c {b'} {l} {l'} r =
    record {
      is = λ i e. subst (λ i. state_of c.events i.window_table b' l' ≡ made (room l) i (sets_attempts i) (state_of c.events i.window_table c.board.now.words l)) (sym e) (r.is (call_of c) (record { events_are = c.works.events_are; sets_are = refl }));
      kinds = r.kinds;
      grown = r.grown;
    }

-- ---- in turn

module _ {x y : GName × Call × ℕ} (e : x ≡ y) where
  pub lent_is : x.0 ≡ y.0
  lent_is = ap (λ (x : GName × Call × ℕ). x.0) e

  pub call_is : x.1 ≡ y.1
  call_is = ap (λ (x : GName × Call × ℕ). x.1) e

  pub events_are : x.2 ≡ y.2
  events_are = ap (λ (x : GName × Call × ℕ). x.2) e

pub done_none : (f : ℕ → Call → List Attempt) (c : Hand) (l : Log) → Done (λ j. each_of (λ i. f i j) 0 0) c l c l
done_none f c l = record { leads = leads_nothing f c.board.now.words l; stays = refl }

module _ {c : Hand} {l : Log} {c₁ : Hand} {l₁ : Log} {c₂ : Hand} {l₂ : Log} where
  -- First these attempts, then those.
  pub done_both : (f g : Call → List Attempt) → Done f c l c₁ l₁ → Done g c₁ l₁ c₂ l₂ → Done (λ j. f j ++ g j) c l c₂ l₂
  done_both f g d e =
      record {
        leads = leads_both f g d.leads (λ j q. q ∙ sym (call_is d.stays)) (subst (λ n. Leads n (λ j. j ≡ call_of c₁) (λ j. made (room l₁) j (g j)) c₁.board.now.words l₁ c₂.board.now.words l₂) (events_are d.stays) e.leads);
        stays = e.stays ∙ d.stays;
      }

  -- In a loop: those of the events so far, then those of the events e..to.
  pub done_next : (e to : ℕ) → e ≤ to → Done (λ j. each_of (event_attempts j) 0 e) c l c₁ l₁ → Done (between_attempts e to) c₁ l₁ c₂ l₂ → Done (λ j. each_of (event_attempts j) 0 to) c l c₂ l₂
  done_next e to i d m =
      let both = done_both (λ j. each_of (event_attempts j) 0 e) (between_attempts e to) d m in
      record {
        leads = leads_as (λ j q s. ap (λ xs. made (room l) j xs s) (sym (all j))) both.leads;
        stays = both.stays;
      }
    where
      all : (j : Call) → each_of (event_attempts j) 0 to ≡ each_of (event_attempts j) 0 e ++ each_of (event_attempts j) e (to - e)
      all j =
          let f = event_attempts j in
          let n : to ≡ e + (to - e) = omega arith in
          let z : 0 + e ≡ e = omega arith in
          ap (each_of f 0) n ∙ each_of_append f 0 e (to - e) ∙ ap (λ i. each_of f 0 e ++ each_of f i (to - e)) z

-- A round is its three parts.
pub done_round : {c : Hand} {l : Log} {c₁ : Hand} {l₁ : Log} {c₂ : Hand} {l₂ : Log} {c₃ : Hand} {l₃ : Log} → Done lags_attempts c l c₁ l₁ → Done sets_attempts c₁ l₁ c₂ l₂ → Done events_attempts c₂ l₂ c₃ l₃ → Done agenda c l c₃ l₃
unfolding agenda
done_round d m o = done_both lags_attempts (λ j. sets_attempts j ++ events_attempts j) d (done_both sets_attempts events_attempts m o)
