-- A slip's facts counted and appended to a buffer, as `slips::writing` does it.
-- Assumes nothing.
use mathlib.Core.Path.{◌≡◌, refl, sym, ap, ap₂, subst, ◌∙◌}
use mathlib.Core.Bool.{Bool, true, false, cond, ◌&&◌}
use mathlib.Core.List.{List, [], ◌∷◌, ◌++◌, append_assoc, append-nil}
use mathlib.Core.Logic.{⊎_elim}
use Prim.Native.Nat.{ℕ, zero, suc, ◌+◌, ◌*◌, ◌-◌, ◌<◌, ◌≤◌}
use native.Mathlib.Nat.{eq-or-lt_of_le}
use native.Mathlib.Omega.{arith}
use native.Mathlib.Numerals.{add-one}
use borrow.Author.Tests.{eq-eqb, ne_eqb, le-leb, lt-leb}
use lib.Dec.{T, eqb, leb, leb→le, nleb→lt}
use lib.IntN.{ℤ, pos}
use lib.ListN.{length, take, length-append}
use mir.Val.{bool_byte}
use lib.Seq.{drop-drop}
use Rattle.std.specs.Bool.{then_some}
use Rattle.std.specs.Prelude.{is_some, Option, Some, None}
use Rattle.integers.proofs.Tests.{decide}
use Rattle.model.specs.Job.{End, t_min, t_max, h_min, h_max, Windows, Job as Call, events, in_set}
use Rattle.model.specs.Rules.{Rule, Effect, total}
use Rattle.model.specs.Facts.{quotes, quoted}
use Rattle.model.specs.Slips.{Premise, number, premise_words, quote, premise_list}
use Rattle.tables.specs.Job.{Serves}
use Rattle.tables.specs.declared.Job.{Job}
use Rattle.tables.specs.declared.ends.Word.{Word}
use Rattle.rules.specs.Values.{effect_of}
use Rattle.rules.specs.declared.Effect.{Effect as Done}
use Rattle.facts.specs.Quotes.{value_of, lag_cited, lag_said, cites_of, says_of, Cites, Shows, TotalCites}
use Rattle.facts.specs.declared.LagCiting.{LagCiting}
use Rattle.facts.specs.declared.Citing.{Citing}
use Rattle.slips.specs.Words.{Appended}
use Rattle.slips.specs.Writing.{HasRoom, Wrote}
use Rattle.slips.specs.Telling.{told, premises_of, told_by_lag}
use Rattle.slips.specs.declared.writer.Writer.{Writer}

-- ---- appended words
appended_none : (at : ℕ) (d : List ℤ) → Appended at [] d d at
appended_none at d = record { is = sym (append-nil (take at d)); rest = refl; same = refl; place = omega arith }

pub appended_both : {at i j : ℕ} {xs ys d d' d'' : List ℤ} → Appended at xs d d' i → Appended i ys d' d'' j → Appended at (xs ++ ys) d d'' j
appended_both {at} {i} {j} {xs} {ys} {d} {d'} {d''} p q =
    record {
      is = q.is ∙ rw p.is (append_assoc (take at d) xs ys);
      rest = q.rest ∙ rw q.place (sym (drop-drop (length ys) i d') ∙ rw p.rest (drop-drop (length ys) i d));
      same = q.same ∙ p.same;
      place = q.place ∙ rw p.place (simp length-append (omega arith));
    }

wrote_none : (w : Writer) → Wrote [] w w
wrote_none w = record { appended = appended_none w.at w.words.now }

pub wrote_both : {xs ys : List ℤ} {u v w : Writer} → Wrote xs u v → Wrote ys v w → Wrote (xs ++ ys) u w
wrote_both p q = record { appended = appended_both p.appended q.appended }

-- ---- facts as words
words_append : (xs ys : List Premise) → premise_words (xs ++ ys) ≡ premise_words xs ++ premise_words ys
unfolding premise_words
words_append [] ys = refl
words_append (x ∷ xs) ys = ap (λ r. x.event ∷ x.kind ∷ x.value ∷ r) (words_append xs ys)

pub words_length : (xs : List Premise) → length (premise_words xs) ≡ 3 * length xs
unfolding premise_words
words_length [] = refl
words_length (x ∷ xs) = let h = words_length xs in omega arith

pub wrote_more : (xs ys : List Premise) {u v w : Writer} → Wrote (premise_words xs) u v → Wrote (premise_words ys) v w → Wrote (premise_words (xs ++ ys)) u w
wrote_more xs ys p q = rw (words_append xs ys) (wrote_both p q)

pub wrote_nothing : (w : Writer) → Wrote (premise_words []) w w
unfolding premise_words
wrote_nothing w = wrote_none w

pub wrote_one : {hit : Option Word} (y : ℕ) (kind : End) {v : Word} {a b d : ℤ} {u w : Writer} → hit ≡ Some v → a ≡ pos y → b ≡ pos (number kind) → d ≡ v.0 → Wrote (a ∷ b ∷ d ∷ []) u w → Wrote (premise_words (told y kind hit)) u w
unfolding premise_words
wrote_one y kind e f g h p = rw e (rw (f, g, h) at p)

pub wrote_absent : {hit : Option Word} (y : ℕ) (kind : End) (w : Writer) → hit ≡ None → Wrote (premise_words (told y kind hit)) w w
wrote_absent y kind w e = rw e (wrote_nothing w)

-- ---- one event
-- Room for facts, and for those that follow.
pub room_left : (xs ys : List Premise) {s t : Writer} → HasRoom (3 * length (xs ++ ys)) s → Wrote (premise_words xs) s t → HasRoom (3 * length ys) t
room_left xs ys h w = omega (arith, length-append xs ys, words_length xs, w.appended.place, w.appended.same)

pub room_first : (xs ys : List Premise) (s : Writer) → HasRoom (3 * length (xs ++ ys)) s → HasRoom (3 * length xs) s
room_first xs ys s h = omega (arith, length-append xs ys)

pub told_quote : (t : Bool) (z : ℕ) (k : End) {w : Word} {o : Option Word} {v : ℤ} → o ≡ then_some t w → w.0 ≡ v → told z k o ≡ quote t z k v
told_quote true z k e f = rw (e, f)
told_quote false z k e f = rw e

-- ---- all events
module _ (c : ℕ → End → Bool) (v : ℕ → End → ℤ) where
  pub premises_none : premise_list 0 c v ≡ []
  unfolding premise_list
  premises_none = refl

  pub premises_more : (z : ℕ) → premise_list (z + 1) c v ≡ premise_list z c v ++ premises_of c v z
  unfolding premise_list
  premises_more z = rw (add-one z)

  pub length_more : (z : ℕ) → length (premise_list (z + 1) c v) ≡ length (premise_list z c v) + length (premises_of c v z)
  length_more z = ap length (premises_more z) ∙ length-append (premise_list z c v) (premises_of c v z)

  fewer : (z k : ℕ) → length (premise_list z c v) ≤ length (premise_list (z + k) c v)
  fewer z zero = let e : z + 0 ≡ z = omega arith in rw e (omega arith)
  fewer z (suc k) =
      let e : z + suc k ≡ z + k + 1 = omega arith in
      let h = fewer z k in
      let m = length_more (z + k) in
      rw e (omega arith)

  -- The facts of one more event are among those of all.
  pub room_for : {n z : ℕ} → z < n → length (premise_list z c v) + length (premises_of c v z) ≤ length (premise_list n c v)
  room_for {n} {z} l =
      let e : z + 1 + (n - (z + 1)) ≡ n = omega arith in
      let h = rw e at (fewer (z + 1) (n - (z + 1))) in
      let m = length_more z in
      omega arith

  -- Events without facts add none.
  listed_same : (a k : ℕ) → ((z : ℕ) → a ≤ z → z < a + k → premises_of c v z ≡ []) → premise_list (a + k) c v ≡ premise_list a c v
  listed_same a zero h = let e : a + 0 ≡ a = omega arith in rw e
  listed_same a (suc k) h =
      let e : a + suc k ≡ a + k + 1 = omega arith in
      rw (e, premises_more (a + k), h (a + k) (omega arith) (omega arith)) (append-nil (premise_list (a + k) c v) ∙ listed_same a k (λ z l m. h z l (omega arith)))

  -- Of the events from a on to n only i has facts.
  listed_one : (a i n : ℕ) → a ≤ i → i < n → ((z : ℕ) → a ≤ z → z < n → (z ≡ i → ⊥) → premises_of c v z ≡ []) → premise_list n c v ≡ premise_list a c v ++ premises_of c v i
  listed_one a i n l m h =
      let p : a + (i - a) ≡ i = omega arith in
      let q : i + 1 + (n - (i + 1)) ≡ n = omega arith in
      let first = rw p at (listed_same a (i - a) (λ z f g. h z f (omega arith) (λ e. omega arith))) in
      let last = rw q at (listed_same (i + 1) (n - (i + 1)) (λ z f g. h z (omega arith) (omega arith) (λ e. omega arith))) in
      last ∙ premises_more i ∙ rw first

  listed_two : (i j n : ℕ) → i < j → j < n → ((z : ℕ) → (z ≡ i → ⊥) → (z ≡ j → ⊥) → premises_of c v z ≡ []) → premise_list n c v ≡ premises_of c v i ++ premises_of c v j
  listed_two i j n l m h =
      listed_one (i + 1) j n (omega arith) m (λ z f g e. h z (λ p. omega arith) e)
      ∙ rw (listed_one 0 i (i + 1) (omega arith) (omega arith) (λ z f g e. h z e (λ p. omega arith)), premises_none)

-- ---- a lag's slip: the facts of two events
and_true : (b : Bool) → (b && true) ≡ b
and_true true = refl
and_true false = refl

and_false : (b : Bool) → (b && false) ≡ false
and_false true = refl
and_false false = refl

-- A word that is there is a fact, and what it says.
told_there : (z : ℕ) (k : End) (w : Option Word) → quote (is_some w) z k (value_of w) ≡ told z k w
told_there z k None = refl
told_there z k (Some w) = refl

told_length : (z : ℕ) (k : End) (w : Option Word) → length (told z k w) ≡ bool_byte (is_some w)
told_length z k None = refl
told_length z k (Some w) = refl

module _ (c : LagCiting) where
  abbrev s : Bool
  s = is_some c.from

  abbrev t : Bool
  t = is_some c.to

  event_lag : (z : ℕ) → premises_of (lag_cited c) (lag_said c) z ≡ quote (s && eqb z c.a) z t_min (value_of c.from) ++ quote (t && eqb z c.b) z t_max (value_of c.to)
  event_lag z = ap (λ (l : List Premise). quote (s && eqb z c.a) z t_min (value_of c.from) ++ l) (append-nil (quote (t && eqb z c.b) z t_max (value_of c.to)))

  lag_none : (z : ℕ) → (z ≡ c.a → ⊥) → (z ≡ c.b → ⊥) → premises_of (lag_cited c) (lag_said c) z ≡ []
  lag_none z l u = event_lag z ∙ rw (ne_eqb z c.a l, ne_eqb z c.b u, and_false s, and_false t)

  lag_first : (c.a ≡ c.b → ⊥) → premises_of (lag_cited c) (lag_said c) c.a ≡ told c.a t_min c.from
  lag_first h = event_lag c.a ∙ rw (eq-eqb c.a c.a refl, ne_eqb c.a c.b h, and_true s, and_false t, told_there c.a t_min c.from) (append-nil (told c.a t_min c.from))

  lag_second : (c.a ≡ c.b → ⊥) → premises_of (lag_cited c) (lag_said c) c.b ≡ told c.b t_max c.to
  lag_second h = event_lag c.b ∙ rw (eq-eqb c.b c.b refl, ne_eqb c.b c.a (λ e. h (sym e)), and_false s, and_true t, told_there c.b t_max c.to)

  -- In either order.
  pub lag_onward : c.a ≤ c.b → told_by_lag c ≡ told c.a t_min c.from ++ told c.b t_max c.to
  lag_onward h = rw (le-leb c.a c.b h)

  pub lag_back : c.b < c.a → told_by_lag c ≡ told c.b t_max c.to ++ told c.a t_min c.from
  lag_back h = rw (lt-leb c.a c.b h)

  module _ (n : ℕ) (known : (c.a < n) × (c.b < n)) where
    pub lag_listed : premise_list n (lag_cited c) (lag_said c) ≡ told_by_lag c
    lag_listed =
        ⊎_elim
        (λ t. let h = leb→le c.a c.b t in rw (lag_onward h) (⊎_elim one first (eq-or-lt_of_le h)))
        (λ t. let h = nleb→lt c.a c.b t in rw (lag_back h) (last h))
        (decide (leb c.a c.b))
      where
        one : c.a ≡ c.b → premise_list n (lag_cited c) (lag_said c) ≡ told c.a t_min c.from ++ told c.b t_max c.to
        one e = listed_one (lag_cited c) (lag_said c) 0 c.b n (omega arith) known.1 (λ z f g h. lag_none z (λ i. h (i ∙ e)) h) ∙ rw (premises_none (lag_cited c) (lag_said c)) (event_lag c.b ∙ rw (e, eq-eqb c.b c.b refl, and_true s, and_true t, told_there c.b t_min c.from, told_there c.b t_max c.to))

        first : c.a < c.b → premise_list n (lag_cited c) (lag_said c) ≡ told c.a t_min c.from ++ told c.b t_max c.to
        first h = listed_two (lag_cited c) (lag_said c) c.a c.b n h known.1 lag_none ∙ rw (lag_first (λ e. omega arith), lag_second (λ e. omega arith))

        last : c.b < c.a → premise_list n (lag_cited c) (lag_said c) ≡ told c.b t_max c.to ++ told c.a t_min c.from
        last h = listed_two (lag_cited c) (lag_said c) c.b c.a n h known.0 (λ z l u. lag_none z u l) ∙ rw (lag_first (λ e. omega arith), lag_second (λ e. omega arith))

  told_lag : (o : Bool) → length (cond o (told c.a t_min c.from ++ told c.b t_max c.to) (told c.b t_max c.to ++ told c.a t_min c.from)) ≡ bool_byte s + bool_byte t
  told_lag true = length-append (told c.a t_min c.from) (told c.b t_max c.to) ∙ ap₂ ◌+◌ (told_length c.a t_min c.from) (told_length c.b t_max c.to)
  told_lag false = length-append (told c.b t_max c.to) (told c.a t_min c.from) ∙ ap₂ ◌+◌ (told_length c.b t_max c.to) (told_length c.a t_min c.from) ∙ omega arith

  pub lag_length : length (told_by_lag c) ≡ bool_byte s + bool_byte t
  lag_length = told_lag (leb c.a c.b)

-- ---- the model's facts
-- Two ways to quote that agree give the same list.
quote_same : (t s : Bool) (z : ℕ) (k : End) (v w : ℤ) → t ≡ s → (T t → v ≡ w) → quote t z k v ≡ quote s z k w
quote_same true true z k v w p q = ap (λ (x : ℤ). quote true z k x) (q tt)
quote_same true false z k v w p q = absurd (subst T p tt)
quote_same false true z k v w p q = absurd (subst T (sym p) tt)
quote_same false false z k v w p q = refl

list_same : (n : ℕ) (c c' : ℕ → End → Bool) (v v' : ℕ → End → ℤ) → ((z : ℕ) → z < n → (k : End) → c z k ≡ c' z k) → ((z : ℕ) → z < n → (k : End) → T (c z k) → v z k ≡ v' z k) → premise_list n c v ≡ premise_list n c' v'
unfolding premise_list
list_same zero c c' v v' p q = refl
list_same (suc z) c c' v v' p q =
    ap₂ ◌++◌ (list_same z c c' v v' (λ y l. p y (omega arith)) (λ y l. q y (omega arith)))
    (ap₂ ◌++◌ (at t_min) (ap₂ ◌++◌ (at t_max) (ap₂ ◌++◌ (at h_min) (at h_max))))
  where
    at : (k : End) → quote (c z k) z k (v z k) ≡ quote (c' z k) z k (v' z k)
    at k = quote_same (c z k) (c' z k) z k (v z k) (v' z k) (p z (omega arith) k) (q z (omega arith) k)

-- What is cited is what the slip of its rule quotes.
pub same_premises : {k : Job} {ws : List ℤ} {W : Windows} {r : Rule} {e y : ℕ} {x : Done} {c : Citing} (j : Call) → Serves k ws W j → Cites k ws W r e y x c →
    premise_list k.events (cites_of c W) (says_of c W) ≡ premise_list (events j) (quotes r j W e y (effect_of x)) (quoted r j W e y (effect_of x))
same_premises {k} {ws} {W} {r} {e} {y} {x} {c} j h s =
    rw h.holds.events_are
    (list_same k.events (cites_of c W) (quotes r j W e y (effect_of x)) (says_of c W) (quoted r j W e y (effect_of x)) (s.cites j h) (s.says j h))

-- The same of a set's slip, on windows that show its members only.
pub set_premises : {m : Bool} {y : ℕ} {x : Effect} {c : Citing} (j : Call) (g : ℕ) (W X : Windows) → TotalCites m y x c → Shows (events j) (in_set j g) W X → in_set j g y ≡ true →
    premise_list (events j) (cites_of c X) (says_of c X) ≡ premise_list (events j) (quotes (total m) j W g y x) (quoted (total m) j W g y x)
set_premises {m} {y} {x} {c} j g W X s shows o =
    list_same (events j) (cites_of c X) (quotes (total m) j W g y x) (says_of c X) (quoted (total m) j W g y x) (s.cites j g (events j) W X shows) (s.says j g (events j) W X shows o)
