-- How numbers are laid out: the layout that the code finds is the job that the numbers say, part by part.
-- Assumes nothing.
use mathlib.Core.Path.{◌≡◌, refl, sym, ap, ap₂, ◌∙◌}
use mathlib.Core.Bool.{Bool, true, false}
use mathlib.Core.List.{List, [], ◌∷◌, ◌++◌}
use Prim.Native.Nat.{ℕ, zero, suc, ◌+◌, ◌*◌, ◌-◌, ◌≤◌, ◌<◌, min}
use native.Mathlib.Decide.{dec_le}
use native.Mathlib.Omega.{arith}
use borrow.Author.Tests.{le-leb, lt-leb, lt-ltb, le-ltb, eqb-true, eqb-false, ltb-true}
use lib.Dec.{leb, leb→le, eqb, ltb}
use lib.IntN.{ℤ, pos, negsuc, nat_abs}
use lib.ListN.{length, take, drop, length-drop, length-take}
use lib.Seq.{get_or-take, take-take, drop-drop, take-add}
use Rattle.std.specs.Prelude.{Option, Some, None, IfSome}
use Rattle.std.proofs.lemmas.List.{take_min, drop_more, drop_all, drop-take, nil_from_length}
use Rattle.integers.proofs.Tests.{and_out, true_is}
use Rattle.model.specs.Questions.{in_range}
use Rattle.model.specs.Job.{Job}
use Rattle.model.specs.Text.{Parsed, parsed, malformed, on, count_in, next_words, next_set, next_sets, limit_at_end, job_of}
use Rattle.scanner.specs.Layout.{at, count_of, count_at, walked, limit_at, sizes, layout_of, ◌>>=◌, windows_at, lags_at, sets_at, numbers_of, Room, Handed}
use Rattle.scanner.specs.Scanning.{State, state, read}
use Rattle.scanner.specs.declared.layout.Sizes.{Sizes}
use Rattle.scanner.specs.declared.scan.Scan.TheVariants.{Between}
use Rattle.scanner.proofs.Steps.{case}

-- ---- a count

-- A count that is there.
pub record Counted (z : ℤ) (l m k : ℕ) : Type 0 where
  pub is : z ≡ pos k
  pub inside : in_range (pos l) (pos m) (pos k) ≡ true
  pub few : k ≤ m

counted : (z : ℤ) (l m k : ℕ) → count_of z l m ≡ Some k → Counted z l m k
unfolding count_of
counted (pos n) l m k e = case (in_range (pos l) (pos m) (pos n))
    (λ t.
    let f : Some n ≡ Some k = rw t at e in
    let g : n ≡ k = cc in
    record { is = ap pos g; inside = rw (← g) t; few = rw (← g) (leb→le n m (and_out (leb l n) (leb n m) (true_is t)).1) })
    (λ t. let f : None ≡ Some k = rw t at e in absurd cc)
counted (negsuc n) l m k e = absurd cc

not_counted : (z : ℤ) (l m : ℕ) → count_of z l m ≡ None → in_range (pos l) (pos m) z ≡ false
unfolding count_of
not_counted z l m e = case (in_range (pos l) (pos m) z) (λ t. absurd (let f : Some (nat_abs z) ≡ None = rw t at e in cc)) (λ t. t)

-- ---- part by part, at a place of the numbers

abbrev by_count : Option ℕ → List ℤ → Parsed (ℕ × List ℤ)
by_count (Some v) r = parsed (v, r)
by_count None r = malformed

count_part : (ns : List ℤ) (i l k : ℕ) → count_in l k (drop i ns) ≡ by_count (count_at ns i l k) (drop (i + 1) ns)
unfolding count_of
count_part ns i l k = go (dec_le (suc i) (length ns))
  where
    go : Dec (suc i ≤ length ns) → count_in l k (drop i ns) ≡ by_count (count_at ns i l k) (drop (i + 1) ns)
    go (yes a) =
        rw (drop_more ns i (pos 0) a, lt-ltb i (length ns) a)
        (case (in_range (pos l) (pos k) (at ns i)) (λ p. rw p) (λ p. rw p))
    go (no a) = rw (drop_all i ns (omega arith), le-ltb i (length ns) (omega arith))

abbrev by_words : Bool → List ℤ → List ℤ → Parsed (List ℤ × List ℤ)
by_words true w r = parsed (w, r)
by_words false w r = malformed

words_part : (ns : List ℤ) (i k : ℕ) → i ≤ length ns → next_words k (drop i ns) ≡ by_words (leb (i + k) (length ns)) (take k (drop i ns)) (drop (i + k) ns)
words_part ns i k l = go (dec_le (i + k) (length ns))
  where
    go : Dec (i + k ≤ length ns) → next_words k (drop i ns) ≡ by_words (leb (i + k) (length ns)) (take k (drop i ns)) (drop (i + k) ns)
    go (yes a) =
        rw (le-leb (i + k) (length ns) a, le-leb k (length (drop i ns)) (omega (arith, length-drop i ns)), drop-drop k i ns)
    go (no a) = rw (lt-leb (i + k) (length ns) (omega arith), lt-leb k (length (drop i ns)) (omega (arith, length-drop i ns)))

-- A set's words, and those of all sets.
pub walked_up : (ns : List ℤ) (s i e : ℕ) → walked ns i s ≡ Some e → i ≤ e
unfolding walked
walked_up ns zero i e h = let f : i ≡ e = cc in omega arith
walked_up ns (suc s) i e h = go (count_at ns (i + 2) 0 64) (λ k. walked_up ns s (i + 3 + k) e) h
  where
    go : (c : Option ℕ) → ((k : ℕ) → walked ns (i + 3 + k) s ≡ Some e → i + 3 + k ≤ e) → (c >>= (λ k. walked ns (i + 3 + k) s)) ≡ Some e → i ≤ e
    go (Some k) rec f = omega (arith, rec k f)
    go None rec f = absurd cc

-- Up to an end that is there, or none.
abbrev by_end : List ℤ → ℕ → Option ℕ → Parsed (List ℤ × List ℤ)
by_end ns i (Some e) = by_words (leb e (length ns)) (take (e - i) (drop i ns)) (drop e ns)
by_end ns i None = malformed

-- A set behind place i.
next_set_short : (ns : List ℤ) (i : ℕ) → length ns ≤ i + 2 → next_set (drop i ns) ≡ malformed
next_set_short ns i l = go (drop i ns) (length-drop i ns)
  where
    go : (r : List ℤ) → length r ≡ length ns - i → next_set r ≡ malformed
    go [] e = refl
    go (a ∷ []) e = refl
    go (a ∷ b ∷ []) e = refl
    go (a ∷ b ∷ c ∷ r) e = absurd (omega arith)

three : (ns : List ℤ) (i : ℕ) → i + 2 < length ns → drop i ns ≡ at ns i ∷ at ns (i + 1) ∷ at ns (i + 2) ∷ drop (i + 3) ns
three ns i l =
    let a = drop_more ns i (pos 0) (omega arith) in
    let b = drop_more ns (i + 1) (pos 0) (omega arith) in
    let c = drop_more ns (i + 2) (pos 0) l in
    let p : i + 1 + 1 ≡ i + 2 = omega arith in
    let q : i + 2 + 1 ≡ i + 3 = omega arith in
    a ∙ ap (λ r. at ns i ∷ r) (b ∙ ap (λ r. at ns (i + 1) ∷ r) (ap (λ k. drop k ns) p ∙ c ∙ ap (λ k. at ns (i + 2) ∷ drop k ns) q))

-- The set at place i, which has k members.
module _ (ns : List ℤ) (i k : ℕ) (there : i + 2 < length ns) (z-is : at ns (i + 2) ≡ pos k) (inside : in_range (pos 0) (pos 64) (pos k) ≡ true) where
  abbrev behind : List ℤ
  behind = drop (i + 3) ns

  abbrev its_words : List ℤ
  its_words = at ns i ∷ at ns (i + 1) ∷ pos k ∷ take k behind

  set_is : next_set (drop i ns) ≡ on (next_words k behind) (λ m. parsed (at ns i ∷ at ns (i + 1) ∷ pos k ∷ m.0, m.1))
  set_is = rw (three ns i there, z-is, inside)

  set_part : next_set (drop i ns) ≡ by_words (leb (i + 3 + k) (length ns)) its_words (drop (i + 3 + k) ns)
  set_part = set_is ∙ ap (λ p. on p (λ m. parsed (at ns i ∷ at ns (i + 1) ∷ pos k ∷ m.0, m.1))) (words_part ns (i + 3) k (omega arith)) ∙ go (leb (i + 3 + k) (length ns))
    where
      go : (b : Bool) → on (by_words b (take k behind) (drop (i + 3 + k) ns)) (λ m. parsed (at ns i ∷ at ns (i + 1) ∷ pos k ∷ m.0, m.1)) ≡ by_words b its_words (drop (i + 3 + k) ns)
      go true = refl
      go false = refl

  -- Its words and those up to e are the words from i to e.
  joined_words : (e : ℕ) → i + 3 + k ≤ e → its_words ++ take (e - (i + 3 + k)) (drop (i + 3 + k) ns) ≡ take (e - i) (drop i ns)
  joined_words e l =
      let n : e - i ≡ (3 + k) + (e - (i + 3 + k)) = omega arith in
      let m : 3 + k ≡ suc (suc (suc k)) = omega arith in
      let d : i + (3 + k) ≡ i + 3 + k = omega arith in
      let head : take (3 + k) (drop i ns) ≡ its_words = rw (three ns i there, z-is, m) in
      sym
      (ap (λ x. take x (drop i ns)) n
      ∙ take-add (3 + k) (e - (i + 3 + k)) (drop i ns)
      ∙ ap₂ (λ x y. x ++ take (e - (i + 3 + k)) y) head (drop-drop (3 + k) i ns ∙ ap (λ x. drop x ns) d))

abbrev then_sets : ℕ → Parsed (List ℤ × List ℤ) → Parsed (List ℤ × List ℤ)
then_sets s p = on p (λ x. on (next_sets s x.1) (λ y. parsed (x.0 ++ y.0, y.1)))

sets_more : (s : ℕ) (r : List ℤ) → next_sets (suc s) r ≡ then_sets s (next_set r)
unfolding next_sets
sets_more s r = refl

-- No set is there, or its count is out of range.
no_set : (ns : List ℤ) (i : ℕ) → count_at ns (i + 2) 0 64 ≡ None → next_set (drop i ns) ≡ malformed
no_set ns i e = go (dec_le (suc (i + 2)) (length ns))
  where
    go : Dec (suc (i + 2) ≤ length ns) → next_set (drop i ns) ≡ malformed
    go (yes a) =
        let f : count_of (at ns (i + 2)) 0 64 ≡ None = rw (lt-ltb (i + 2) (length ns) a) at e in
        rw (three ns i a, not_counted (at ns (i + 2)) 0 64 f)
    go (no a) = next_set_short ns i (omega arith)

sets_none : (r : List ℤ) → next_sets 0 r ≡ parsed ([], r)
unfolding next_sets
sets_none r = refl

-- A count that is there.
pub record There (ns : List ℤ) (i l m k : ℕ) : Type 0 where
  pub place : i < length ns
  pub count : Counted (at ns i) l m k

pub there : (ns : List ℤ) (i l m k : ℕ) → count_at ns i l m ≡ Some k → There ns i l m k
there ns i l m k e = case (ltb i (length ns))
    (λ t. record { place = ltb-true i (length ns) t; count = counted (at ns i) l m k (rw t at e) })
    (λ t. absurd (let f : None ≡ Some k = rw t at e in cc))

module _ (ns : List ℤ) (s i k : ℕ) (h : There ns (i + 2) 0 64 k) where
  abbrev its : List ℤ
  its = its_words ns i k h.place h.count.is h.count.inside

  abbrev next : ℕ
  next = i + 3 + k

  by_more : (b : Bool) (e : ℕ) → next ≤ e → on (by_words b (take (e - next) (drop next ns)) (drop e ns)) (λ y. parsed (its ++ y.0, y.1)) ≡ by_words b (take (e - i) (drop i ns)) (drop e ns)
  by_more true e l = ap (λ x. parsed (x, drop e ns)) (joined_words ns i k h.place h.count.is h.count.inside e l)
  by_more false e l = refl

  all_there : (w : Option ℕ) → walked ns next s ≡ w → on (by_end ns next w) (λ y. parsed (its ++ y.0, y.1)) ≡ by_end ns i w
  all_there None f = refl
  all_there (Some e) f = by_more (leb e (length ns)) e (walked_up ns s next e f)

  some_missing : length ns < next → (w : Option ℕ) → walked ns next s ≡ w → malformed ≡ by_end ns i w
  some_missing l None f = refl
  some_missing l (Some e) f = rw (lt-leb e (length ns) (omega (arith, walked_up ns s next e f)))

  set_then : (next ≤ length ns → next_sets s (drop next ns) ≡ by_end ns next (walked ns next s)) → then_sets s (next_set (drop i ns)) ≡ by_end ns i (walked ns next s)
  set_then rec = ap (then_sets s) (set_part ns i k h.place h.count.is h.count.inside) ∙ go (dec_le next (length ns))
    where
      go : Dec (next ≤ length ns) → then_sets s (by_words (leb next (length ns)) its (drop next ns)) ≡ by_end ns i (walked ns next s)
      go (yes a) = rw (le-leb next (length ns) a) (ap (λ p. on p (λ y. parsed (its ++ y.0, y.1))) (rec a) ∙ all_there (walked ns next s) refl)
      go (no a) = rw (lt-leb next (length ns) (omega arith)) (some_missing (omega arith) (walked ns next s) refl)

pub sets_part : (ns : List ℤ) (s i : ℕ) → i ≤ length ns → next_sets s (drop i ns) ≡ by_end ns i (walked ns i s)
unfolding walked
sets_part ns zero i l =
    let n : i - i ≡ 0 = omega arith in
    sets_none (drop i ns) ∙ rw (le-leb i (length ns) l, n)
sets_part ns (suc s) i l = sets_more s (drop i ns) ∙ go (count_at ns (i + 2) 0 64) refl (λ k. sets_part ns s (i + 3 + k))
  where
    go : (c : Option ℕ) → count_at ns (i + 2) 0 64 ≡ c → ((k : ℕ) → i + 3 + k ≤ length ns → next_sets s (drop (i + 3 + k) ns) ≡ by_end ns (i + 3 + k) (walked ns (i + 3 + k) s))
        → then_sets s (next_set (drop i ns)) ≡ by_end ns i ((c >>= (λ k. walked ns (i + 3 + k) s)))
    go None e rec = ap (then_sets s) (no_set ns i e)
    go (Some k) e rec = set_then ns s i k (there ns (i + 2) 0 64 k e) (rec k)

-- What is left of a walk, one set later.
pub walk_on : (ns : List ℤ) (at g sets k : ℕ) {w : Option ℕ} → walked ns at (sets - g) ≡ w → g < sets → count_at ns (at + 2) 0 64 ≡ Some k → walked ns (at + (3 + k)) (sets - (g + 1)) ≡ w
unfolding walked
walk_on ns at g sets k left l e =
    let n : sets - g ≡ suc (sets - (g + 1)) = omega arith in
    let m : at + (3 + k) ≡ at + 3 + k = omega arith in
    rw m (rw (n, e) at left)

-- ---- the job

-- All parts of a job, one after the other.
abbrev whole : ℤ → List ℤ → List ℤ → List ℤ → List ℤ → Job
whole h cs ws ls ss =
    record { horizon = h; cage_table = cs; window_table = ws; lag_table = ls; set_table = ss }

module _ (ns : List ℤ) (h : ℤ) where
  -- The sets' words from place i on, and behind them nothing, or the round limit.
  abbrev last : List ℤ → List ℤ → List ℤ → ℕ → List ℤ → Parsed (Job × ℤ)
  last cs ws ls s r = on (next_sets s r) (λ y. limit_at_end (whole h cs ws ls y.0) y.1)

  abbrev sets_of : List ℤ → List ℤ → List ℤ → List ℤ → Parsed (Job × ℤ)
  sets_of cs ws ls r = on (count_in 0 16 r) (λ s. last cs ws ls s.0 s.1)

  abbrev tables_of : List ℤ → ℕ → ℕ → List ℤ → Parsed (Job × ℤ)
  tables_of cs n m r =
      on (next_words (5 * n) r) (λ w. on (next_words (3 * m) w.1) (λ l. sets_of cs w.0 l.0 l.1))

  abbrev counts_of : List ℤ → List ℤ → Parsed (Job × ℤ)
  counts_of cs r = on (count_in 0 64 r) (λ n. on (count_in 0 256 n.1) (λ m. tables_of cs n.0 m.0 m.1))

  abbrev cages_of : List ℤ → Parsed (Job × ℤ)
  cages_of r = on (count_in 1 8 r) (λ c. on (next_words (4 * c.0) c.1) (λ cs. counts_of cs.0 cs.1))

job_first : (h : ℤ) (r : List ℤ) → job_of (h ∷ r) ≡ cages_of (h ∷ r) h r
unfolding job_of
job_first h r = refl

job_none : job_of [] ≡ malformed
unfolding job_of
job_none = refl

job_cages : (ns : List ℤ) → 0 < length ns → job_of ns ≡ cages_of ns (at ns 0) (drop 1 ns)
job_cages [] l = absurd (omega arith)
job_cages (h ∷ r) l = job_first h r

-- A count at place i, and what goes on with it.
count_is : (ns : List ℤ) (i l k v : ℕ) {B : Type 0} (K : ℕ → List ℤ → Parsed B) → count_at ns i l k ≡ Some v → on (count_in l k (drop i ns)) (λ c. K c.0 c.1) ≡ K v (drop (i + 1) ns)
count_is ns i l k v K e = ap (λ p. on p (λ c. K c.0 c.1)) (count_part ns i l k ∙ ap (λ c. by_count c (drop (i + 1) ns)) e)

count_not : (ns : List ℤ) (i l k : ℕ) {B : Type 0} (K : ℕ → List ℤ → Parsed B) → count_at ns i l k ≡ None → on (count_in l k (drop i ns)) (λ c. K c.0 c.1) ≡ malformed
count_not ns i l k K e = ap (λ p. on p (λ c. K c.0 c.1)) (count_part ns i l k ∙ ap (λ c. by_count c (drop (i + 1) ns)) e)

-- Words from place i on, and what goes on with them.
words_are : (ns : List ℤ) (i k : ℕ) {B : Type 0} (K : List ℤ → List ℤ → Parsed B) → i + k ≤ length ns → on (next_words k (drop i ns)) (λ w. K w.0 w.1) ≡ K (take k (drop i ns)) (drop (i + k) ns)
words_are ns i k K l = rw (words_part ns i k (omega arith), le-leb (i + k) (length ns) l)

words_not : (ns : List ℤ) (i k : ℕ) {B : Type 0} (K : List ℤ → List ℤ → Parsed B) → i ≤ length ns → (i + k ≤ length ns → K (take k (drop i ns)) (drop (i + k) ns) ≡ malformed) → on (next_words k (drop i ns)) (λ w. K w.0 w.1) ≡ malformed
words_not ns i k K l f = go (dec_le (i + k) (length ns))
  where
    go : Dec (i + k ≤ length ns) → on (next_words k (drop i ns)) (λ w. K w.0 w.1) ≡ malformed
    go (yes a) = words_are ns i k K a ∙ f a
    go (no a) = rw (words_part ns i k l, lt-leb (i + k) (length ns) (omega arith))

pub walked_few : (ns : List ℤ) (s i e : ℕ) → walked ns i s ≡ Some e → e ≤ i + 67 * s
unfolding walked
walked_few ns zero i e h = let f : i ≡ e = cc in omega arith
walked_few ns (suc s) i e h = go (count_at ns (i + 2) 0 64) refl (λ k. walked_few ns s (i + 3 + k) e) h
  where
    go : (c : Option ℕ) → count_at ns (i + 2) 0 64 ≡ c → ((k : ℕ) → walked ns (i + 3 + k) s ≡ Some e → e ≤ i + 3 + k + 67 * s) → (c >>= (λ k. walked ns (i + 3 + k) s)) ≡ Some e → e ≤ i + 67 * suc s
    go (Some k) q rec f = omega (arith, rec k f, (there ns (i + 2) 0 64 k q).count.few)
    go None q rec f = absurd cc

more_left : {A : Type 0} (a : A) (ns : List ℤ) → 1 < length ns → limit_at_end a ns ≡ malformed
more_left a [] h = absurd (omega arith)
more_left a (z ∷ []) h = absurd (omega arith)
more_left a (z ∷ w ∷ ns) h = refl

-- A layout that is handed over, of no more than 2198 numbers.
record Laid (l : Option Sizes) (ns : List ℤ) : Type 0 where
  handed : Handed l ns (job_of ns)
  small : IfSome l (λ s. length ns ≤ 2198)

none_laid : (ns : List ℤ) → job_of ns ≡ malformed → Laid None ns
none_laid ns e = record { handed = record { says = sym e; roomy = tt }; small = tt }

no_cages : (ns : List ℤ) → count_at ns 1 1 8 ≡ None → job_of ns ≡ malformed
no_cages ns e = go (dec_le 1 (length ns))
  where
    go : Dec (1 ≤ length ns) → job_of ns ≡ malformed
    go (yes a) = job_cages ns a ∙ count_not ns 1 1 8 (λ c r. on (next_words (4 * c) r) (λ cs. counts_of ns (at ns 0) cs.0 cs.1)) e
    go (no a) = ap job_of (nil_from_length ns (omega arith)) ∙ job_none

module _ (ns : List ℤ) (c : ℕ) (p₁ : count_at ns 1 1 8 ≡ Some c) where
  abbrev h : ℤ
  h = at ns 0

  t₁ : There ns 1 1 8 c
  t₁ = there ns 1 1 8 c p₁

  abbrev cs : List ℤ
  cs = take (4 * c) (drop 2 ns)

  step₁ : job_of ns ≡ on (next_words (4 * c) (drop 2 ns)) (λ x. counts_of ns h x.0 x.1)
  step₁ = job_cages ns (omega (arith, t₁.place)) ∙ count_is ns 1 1 8 c (λ c r. on (next_words (4 * c) r) (λ x. counts_of ns h x.0 x.1)) p₁

  no_events : count_at ns (2 + 4 * c) 0 64 ≡ None → job_of ns ≡ malformed
  no_events e =
      step₁
      ∙ words_not ns 2 (4 * c) (counts_of ns h) (omega (arith, t₁.place)) (λ l. count_not ns (2 + 4 * c) 0 64 (λ n r. on (count_in 0 256 r) (λ m. tables_of ns h cs n m.0 m.1)) e)

  module _ (n : ℕ) (p₂ : count_at ns (2 + 4 * c) 0 64 ≡ Some n) where
    t₂ : There ns (2 + 4 * c) 0 64 n
    t₂ = there ns (2 + 4 * c) 0 64 n p₂

    step₂ : job_of ns ≡ on (count_in 0 256 (drop (3 + 4 * c) ns)) (λ m. tables_of ns h cs n m.0 m.1)
    step₂ =
        let u : 2 + 4 * c + 1 ≡ 3 + 4 * c = omega arith in
        step₁
        ∙ words_are ns 2 (4 * c) (counts_of ns h) (omega (arith, t₂.place))
        ∙ count_is ns (2 + 4 * c) 0 64 n (λ n r. on (count_in 0 256 r) (λ m. tables_of ns h cs n m.0 m.1)) p₂
        ∙ ap (λ k. on (count_in 0 256 (drop k ns)) (λ m. tables_of ns h cs n m.0 m.1)) u

    no_lags : count_at ns (3 + 4 * c) 0 256 ≡ None → job_of ns ≡ malformed
    no_lags e = step₂ ∙ count_not ns (3 + 4 * c) 0 256 (tables_of ns h cs n) e

    module _ (m : ℕ) (p₃ : count_at ns (3 + 4 * c) 0 256 ≡ Some m) where
      t₃ : There ns (3 + 4 * c) 0 256 m
      t₃ = there ns (3 + 4 * c) 0 256 m p₃

      abbrev place : ℕ
      place = 4 + 4 * c + 5 * n + 3 * m

      abbrev ws : List ℤ
      ws = take (5 * n) (drop (4 + 4 * c) ns)

      abbrev ls : List ℤ
      ls = take (3 * m) (drop (4 + 4 * c + 5 * n) ns)

      step₃ : job_of ns ≡ tables_of ns h cs n m (drop (4 + 4 * c) ns)
      step₃ =
          let u : 3 + 4 * c + 1 ≡ 4 + 4 * c = omega arith in
          step₂ ∙ count_is ns (3 + 4 * c) 0 256 m (tables_of ns h cs n) p₃ ∙ ap (λ k. tables_of ns h cs n m (drop k ns)) u

      no_sets : count_at ns place 0 16 ≡ None → job_of ns ≡ malformed
      no_sets e =
          step₃
          ∙ words_not ns (4 + 4 * c) (5 * n) (λ w r. on (next_words (3 * m) r) (λ l. sets_of ns h cs w l.0 l.1)) (omega (arith, t₃.place))
          (λ a. words_not ns (4 + 4 * c + 5 * n) (3 * m) (sets_of ns h cs ws) a (λ b. count_not ns place 0 16 (last ns h cs ws ls) e))

      module _ (s : ℕ) (p₄ : count_at ns place 0 16 ≡ Some s) where
        t₄ : There ns place 0 16 s
        t₄ = there ns place 0 16 s p₄

        abbrev begin : ℕ
        begin = 5 + 4 * c + 5 * n + 3 * m

        step₄ : job_of ns ≡ on (by_end ns begin (walked ns begin s)) (λ y. limit_at_end (whole h cs ws ls y.0) y.1)
        step₄ =
            let u : place + 1 ≡ begin = omega arith in
            step₃
            ∙ words_are ns (4 + 4 * c) (5 * n) (λ w r. on (next_words (3 * m) r) (λ l. sets_of ns h cs w l.0 l.1)) (omega (arith, t₄.place))
            ∙ words_are ns (4 + 4 * c + 5 * n) (3 * m) (sets_of ns h cs ws) (omega (arith, t₄.place))
            ∙ count_is ns place 0 16 s (last ns h cs ws ls) p₄
            ∙ ap (λ k. last ns h cs ws ls s (drop k ns)) u
            ∙ ap (λ p. on p (λ y. limit_at_end (whole h cs ws ls y.0) y.1)) (sets_part ns s begin (omega (arith, t₄.place)))

        no_end : walked ns begin s ≡ None → job_of ns ≡ malformed
        no_end e = step₄ ∙ rw e

        module _ (e : ℕ) (p₅ : walked ns begin s ≡ Some e) where
          step₅ : job_of ns ≡ on (by_words (leb e (length ns)) (take (e - begin) (drop begin ns)) (drop e ns)) (λ y. limit_at_end (whole h cs ws ls y.0) y.1)
          step₅ = step₄ ∙ rw p₅

          other_end : (e ≡ length ns → ⊥) → (e + 1 ≡ length ns → ⊥) → job_of ns ≡ malformed
          other_end d f = step₅ ∙ go (dec_le e (length ns))
            where
              go : Dec (e ≤ length ns) → on (by_words (leb e (length ns)) (take (e - begin) (drop begin ns)) (drop e ns)) (λ y. limit_at_end (whole h cs ws ls y.0) y.1) ≡ malformed
              go (yes a) = rw (le-leb e (length ns) a) (more_left (whole h cs ws ls (take (e - begin) (drop begin ns))) (drop e ns) (omega (arith, d, f, length-drop e ns)))
              go (no a) = rw (lt-leb e (length ns) (omega arith))

          -- What is left behind the sets says the limit.
          -- What is left behind the sets says the limit.
          laid_job : (z : ℤ) → e ≤ length ns → length ns ≤ e + 1 → ((x : Job) → limit_at_end x (drop e ns) ≡ parsed (x, z)) → Laid (Some (sizes c n m e z)) ns
          laid_job z l l' q =
              let up = walked_up ns s begin e p₅ in
              let few = walked_few ns s begin e p₅ in
              let u : 4 + 4 * c + 5 * n + 3 * m + 1 ≡ begin = omega arith in
              record {
                handed =
                    record {
                      says = ap (λ k. parsed (whole h cs ws ls (take (e - begin) (drop k ns)), z)) u
                          ∙ sym (step₅ ∙ rw (le-leb e (length ns) l) (q (whole h cs ws ls (take (e - begin) (drop begin ns)))));
                      roomy = record { few_cages = t₁.count.few; few_events = t₂.count.few; few_lags = t₃.count.few; few_words = omega (arith, few, t₄.count.few); inside = omega (arith, l, up) };
                    };
                small = omega (arith, l', few, t₁.count.few, t₂.count.few, t₃.count.few, t₄.count.few);
              }

          laid_limit : Laid (limit_at ns e >>= (λ z. Some (sizes c n m e z))) ns
          unfolding limit_at
          laid_limit =
              case (eqb e (length ns))
              (λ t.
              let q = eqb-true e (length ns) t in
              rw t (laid_job (pos 40) (omega arith) (omega arith) (λ x. rw (drop_all e ns (omega arith)))))
              (λ t. case (eqb (e + 1) (length ns))
              (λ u.
              let q = eqb-true (e + 1) (length ns) u in
              rw (t, u) (laid_job (at ns e) (omega arith) (omega arith) (λ x. rw (drop_more ns e (pos 0) (omega arith), drop_all (e + 1) ns (omega arith)))))
              (λ u. rw (t, u) (none_laid ns (other_end (eqb-false e (length ns) t) (eqb-false (e + 1) (length ns) u)))))

-- Count by count.
laid_bind : {ns : List ℤ} (o : Option ℕ) (f : ℕ → Option Sizes) → (o ≡ None → job_of ns ≡ malformed) → ((k : ℕ) → o ≡ Some k → Laid (f k) ns) → Laid (o >>= f) ns
laid_bind {ns} None f none some = none_laid ns (none refl)
laid_bind (Some k) f none some = some k refl

all_laid : (ns : List ℤ) → Laid (layout_of ns) ns
unfolding layout_of
all_laid ns =
    laid_bind _ _ (no_cages ns)
    (λ c p₁.
    laid_bind _ _ (no_events ns c p₁)
    (λ n p₂.
    laid_bind _ _ (no_lags ns c p₁ n p₂)
    (λ m p₃.
    laid_bind _ _ (no_sets ns c p₁ n p₂ m p₃)
    (λ s p₄. laid_bind _ _ (no_end ns c p₁ n p₂ m p₃ s p₄) (laid_limit ns c p₁ n p₂ m p₃ s p₄)))))

pub laid : (ns : List ℤ) → Handed (layout_of ns) ns (job_of ns)
laid ns = (all_laid ns).handed

-- No job has more than 2198 numbers.
pub too_many : (ns : List ℤ) → 2198 < length ns → job_of ns ≡ malformed
too_many ns l = go (layout_of ns) (all_laid ns)
  where
    go : (x : Option Sizes) → Laid x ns → job_of ns ≡ malformed
    go (Some s) a = absurd (omega (arith, a.small))
    go None a = sym a.handed.says

-- ---- the end of the text

part_take : (i j k : ℕ) (t : List ℤ) → i + j ≤ k → take j (drop i (take k t)) ≡ take j (drop i t)
part_take i j k t h =
    let e : k ≡ i + (k - i) = omega arith in
    ap (λ n. take j (drop i (take n t))) e ∙ ap (take j) (drop-take i (k - i) t) ∙ take-take j (k - i) (drop i t) (omega arith)

-- A job that stands in the first k words of a table stands in the table.
within : (l : Option Sizes) (k : ℕ) (t : List ℤ) {j : Parsed (Job × ℤ)} → Handed l (take k t) j → Handed l t j
within (Some s) k t h =
    let r : Room s (take k t) = h.roomy in
    let g : numbers_of s ≤ k = omega (arith, r.inside, length-take k t) in
    record {
      says =
          rw (← get_or-take k t 0 (pos 0) (omega arith), ← part_take 2 (4 * s.cages) k t (omega arith), ← part_take (windows_at s) (5 * s.events) k t (omega arith), ← part_take (lags_at s) (3 * s.lags) k t (omega arith), ← part_take (sets_at s) s.words k t (omega arith)) h.says;
      roomy =
          record { few_cages = r.few_cages; few_events = r.few_events; few_lags = r.few_lags; few_words = r.few_words; inside = omega (arith, r.inside, length-take k t) };
    }
within None k t h = record { says = h.says; roomy = tt }

-- The text has ended behind so many numbers, which are the first words of the table.
pub laid_end : {many k : ℕ} {t : List ℤ} {l : Option Sizes} {x : State} → k ≡ min many (length t) → l ≡ layout_of (take k t) → state (Between many) t ≡ x → Handed l t (read x)
laid_end {many} {k} {t} e f g =
    let h : take k t ≡ take many t = ap (λ i. take i t) e ∙ take_min many t in
    rw (f, ← g, ← h) (within (layout_of (take k t)) k t (laid (take k t)))
