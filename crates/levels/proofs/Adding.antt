-- What an event adds, and the sums of it, as the loops of `levels::levels` make them.
-- Assumes nothing.
use mathlib.Core.Path.{◌≡◌, refl, sym, ap, ◌∙◌}
use mathlib.Core.Bool.{Bool, true, false, cond}
use Prim.Native.Nat.{ℕ, ◌+◌, ◌<◌, ◌≤◌}
use native.Mathlib.Omega.{arith}
use native.Mathlib.Numerals.{add-one}
use borrow.Author.Tests.{eq-eqb, ne_eqb}
use lib.Dec.{eqb}
use lib.IntN.{ℤ, pos, negsuc, ◌+ℤ◌, ◌-ℤ◌}
use lib.Signed.{◌≤ℤ◌}
use Rattle.integers.specs.Range.{Within}
use Rattle.integers.specs.Sum.{sum}
use Rattle.integers.proofs.Linear.{ints, add_law, sub_law, neg_law}
use Rattle.integers.proofs.Sums.{sum_ext, sum_le_but, sum_within}
use Rattle.model.specs.Job.{End, t_min, t_max, h_min, h_max, Windows, ahead, produces}
use Rattle.model.specs.Standing.{span, Ranged}
use Rattle.model.specs.View.{side, View}
use Rattle.model.specs.Levels.{Place, sure, possible, never, placed, place, e_min, e_max, stands, gain, gains, sure_gain, most_in, most, sure_part}
use Rattle.levels.specs.Values.{other_gains}

-- ---- ranges

-- The same number in a wider range.
pub wider : {x y : ℤ} {k l : ℕ} → x ≡ y → Within y k → k ≤ l → Within x l
wider e w h = rw e (omega arith)

pub apart : {a b r : ℤ} {i j k : ℕ} → r ≡ a -ℤ b → Within a i → Within b j → i + j ≤ k → Within r k
apart {a} {b} e v w h = omega (ints, sub_law a b)

pub side_ranged : {n : ℕ} {W : Windows} (m : Bool) → Ranged n W → Ranged n (side m W)
side_ranged {n} {W} true r = record { few = r.few; range = λ y l k. at y l k }
  where
    at : (y : ℕ) → y < n → (k : End) → Within (side true W y k) (span k)
    at y l t_min = r.range y l t_min
    at y l t_max = r.range y l t_max
    at y l h_min = let h = r.range y l h_max in omega (ints, neg_law (W y h_max))
    at y l h_max = let h = r.range y l h_min in omega (ints, neg_law (W y h_min))
side_ranged false r = r

pub kept_within : (t : Bool) (h : ℤ) {k : ℕ} → Within h k → Within (cond t h (pos 0)) k
kept_within true h w = w
kept_within false h w = omega arith

gain_within : (p : Place) (h : ℤ) {k : ℕ} → Within h k → Within (gain p h) k
gain_within sure h w = w
gain_within possible h w = kept_within (produces h) h w
gain_within never h w = omega arith

pub other_within : (s : ℕ → Bool) {n : ℕ} {W : Windows} (u v : ℤ) (y : ℕ) → Ranged n W → y < n → Within (other_gains s W u v y) 9999
other_within s {n} {W} u v y r l = gain_within (placed false (s y) (ahead (s y) (W y t_max) u) (ahead (s y) (W y t_min) v)) (W y h_max) (r.range y l h_max)

pub own_within : (s : Bool) {n : ℕ} {W : Windows} (e : ℕ) → Ranged n W → e < n → Within (cond s (pos 0) (W e h_max)) 9999
own_within true e r l = omega arith
own_within false e r l = r.range e l h_max

pub within_sum : (n k : ℕ) (q : ℤ) (f : ℕ → ℤ) → n ≤ k → k ≤ 64 → Within q 1000000 → ((y : ℕ) → y < k → Within (f y) 9999) → Within (q +ℤ sum n f) 1640000
within_sum n k q f l few w h = let s = sum_within n 9999 f (λ y b. h y (omega arith)) in omega (ints, add_law q (sum n f))

-- A level, and each partial sum of all gains, is within 1,640,000 of 0.
pub most_within : (E : View) {W : Windows} (u v : ℤ) → Ranged E.events W → Within E.opening 1000000 → Within (most_in E W u v) 1640000
unfolding most_in
most_within E {W} u v r q =
    within_sum E.events E.events E.opening (gains E W u v) (omega arith) r.few q (λ y l. gain_within (place E W u v y) (W y h_max) (r.range y l h_max))

pub all_within : (s : ℕ → Bool) {n : ℕ} (i : ℕ) {q : ℤ} {W : Windows} (u v : ℤ) → Ranged n W → Within q 1000000 → i ≤ n → Within (q +ℤ sum i (other_gains s W u v)) 1640000
all_within s {n} i {q} {W} u v r d l =
    within_sum i n q (other_gains s W u v) l r.few d (λ y b. other_within s u v y r b)

-- ---- the loop

pub sum_none : (q : ℤ) (f : ℕ → ℤ) → q ≡ q +ℤ sum 0 f
unfolding sum
sum_none q f = omega ints

pub sum_more : (q : ℤ) (f : ℕ → ℤ) (i : ℕ) {t h r : ℤ} → t ≡ q +ℤ sum i f → h ≡ f i → r ≡ t +ℤ h → r ≡ q +ℤ sum (i + 1) f
unfolding sum
sum_more q f i {t} {h} {r} a b d = rw (add-one i) (omega (ints, add_law q (sum i f), add_law (sum i f) (f i), add_law q (sum i f +ℤ f i)))

-- ---- e's own part

pub own_term : (E : View) (W : Windows) (u v : ℤ) → gains E W u v E.subject ≡ cond (E.before E.subject) (pos 0) (W E.subject h_max)
own_term E W u v = rw (eq-eqb E.subject E.subject refl) (go (E.before E.subject))
  where
    go : (s : Bool) → gain (placed true s (ahead s (W E.subject t_max) u) (ahead s (W E.subject t_min) v)) (W E.subject h_max) ≡ cond s (pos 0) (W E.subject h_max)
    go true = refl
    go false = refl

pub other_term : (E : View) (W : Windows) (u v : ℤ) (y : ℕ) → (y ≡ E.subject → ⊥) → gains E W u v y ≡ other_gains E.before W u v y
other_term E W u v y d = rw (ne_eqb y E.subject d)

-- All gains, less e's as another event, with e's own.
pub most_own : (E : View) (W : Windows) (u v : ℤ) {all other rest own r : ℤ} → E.subject < E.events →
    all ≡ E.opening +ℤ sum E.events (other_gains E.before W u v) → other ≡ other_gains E.before W u v E.subject → rest ≡ all -ℤ other →
    own ≡ cond (E.before E.subject) (pos 0) (W E.subject h_max) → r ≡ rest +ℤ own → r ≡ most_in E W u v
unfolding most_in
most_own E W u v {all} {other} {rest} {own} {r} l a o d w p =
    let n = E.events in
    let e = E.subject in
    let f = gains E W u v in
    let g = other_gains E.before W u v in
    let x = sum_le_but n e f g l (λ y b k. same (other_term E W u v y k)) in
    let y = sum_le_but n e g f l (λ y b k. same (sym (other_term E W u v y k))) in
    let z = own_term E W u v in
    let k = w ∙ sym z in
    omega (ints, add_law (sum n f) (g e), add_law (sum n g) (f e), add_law E.opening (sum n f), add_law E.opening (sum n g))
  where
    same : {i j : ℤ} → i ≡ j → i ≤ℤ j
    same e = omega ints

-- ---- the sure part

sure_alone : (own s a b : Bool) (h : ℤ) → gain (placed own s a false) h ≡ sure_gain (placed own s a b) h
sure_alone true true a b h = refl
sure_alone true false a b h = refl
sure_alone false s true b h = refl
sure_alone false s false true h = refl
sure_alone false s false false h = refl

-- No time is before or by −20,001.
never_ahead : (s : Bool) (t : ℤ) → Within t 20000 → ahead s t (negsuc 20000) ≡ false
never_ahead true t w = omega ints
never_ahead false t w = omega ints

-- Where e comes too early for an event to be possibly before (by) it, only the sure part is left.
pub sure_level : (E : View) (W : Windows) {u r : ℤ} → Ranged E.events W → u ≡ e_min E W → r ≡ most_in E W u (negsuc 20000) → r ≡ sure_part E W
unfolding most_in sure_part
sure_level E W {u} g p q =
    q ∙ rw p (ap (λ x. E.opening +ℤ x) (sum_ext E.events (gains E W (e_min E W) (negsuc 20000)) (λ y. sure_gain (stands E W y) (W y h_max)) term))
  where
    term : (y : ℕ) → y < E.events → gains E W (e_min E W) (negsuc 20000) y ≡ sure_gain (stands E W y) (W y h_max)
    term y l =
        rw (never_ahead (E.before y) (W y t_min) (g.range y l t_min))
        (sure_alone (eqb y E.subject) (E.before y) (ahead (E.before y) (W y t_max) (e_min E W)) (ahead (E.before y) (W y t_min) (e_max E W)) (W y h_max))

-- A bound of rules 5 and 11 is within 2,650,000 of 0.
pub bound_within : (E : View) {W : Windows} (y : ℕ) → Ranged E.events W → Within E.limit 1000000 → Within E.opening 1000000 → y < E.events → Within (E.limit -ℤ (most E W -ℤ W y h_max)) 2650000
bound_within E {W} y r d q l =
    apart refl d (apart {k = 1650000} refl (most_within E (e_min E W) (e_max E W) r q) (r.range y l h_max) (omega arith)) (omega arith)
