-- Texts put one behind the other, and the numbers in them.
-- Assumes nothing.
use Rattle.std.proofs.Common.{◌≡◌, refl, sym, ap, ◌∙◌, List, [], ◌∷◌, ◌++◌, append_assoc, ℕ, zero, suc, ◌+◌, ◌*◌, ◌/◌, ◌^◌, ◌≤◌, ◌<◌, ℤ, pos, negsuc, length, take, drop, flat_map, get_or, length-append, length-take, length-drop, add-one, arith}
use native.Mathlib.Decide.{dec_lt}
use borrow.Author.Tests.{lt-ltb, le-ltb}
use mir.Val.{to_z, of_z}
use mir.Syntax.{w32}
use lib.Signed.{mag}
use Rattle.std.specs.Fmt.{decimal, signed_decimal}
use Rattle.std.proofs.lemmas.Fmt.{decimal_digit, decimal_step}
use Rattle.std.proofs.lemmas.List.{take_more, take_all, take-append-le, drop-drop, drop_at, flat_map_more}
use Rattle.integers.proofs.Linear.{back32}
use Rattle.model.specs.Print.{last_digits, numeral, integer, line_of, headline, event_lines}
use Rattle.printer.specs.declared.text.Text.{Text}
use Rattle.printer.specs.Buffer.{Put}

-- ---- what is put

pub put_then : {m n : ℕ} {a b c : Text} {x y : List ℕ} → Put m a b x → Put n b c y → Put (m + n) a c (x ++ y)
put_then {a = a} {x = x} {y = y} p q =
    record {
      same = q.same ∙ p.same;
      long = q.long ∙ p.long;
      few = omega (arith, p.few, q.few, length-append x y);
      ends = omega (arith, p.ends, q.ends, length-append x y);
      holds = q.holds ∙ ap (λ (l : List ℕ). l ++ y) p.holds ∙ append_assoc (take a.at a.out.now) x y;
    }

pub put_as : {m n : ℕ} {a b : Text} {x y : List ℕ} → m ≤ n → x ≡ y → Put m a b x → Put n a b y
put_as h e p = rw (← e) (record { same = p.same; long = p.long; few = omega (arith, p.few); ends = p.ends; holds = p.holds })

-- ---- numbers

-- Any number of digits above n is enough.
digits_are : (k n : ℕ) → n < k → n < 2 ^ 64 → last_digits k n ≡ decimal n
unfolding last_digits
digits_are zero n h l = absurd (omega arith)
digits_are (suc k) n h l = go (dec_lt n 10) (λ (g : 10 ≤ n). digits_are k (n / 10) (omega arith) (omega arith))
  where
    go : Dec (n < 10) → (10 ≤ n → last_digits k (n / 10) ≡ decimal (n / 10)) → last_digits (suc k) n ≡ decimal n
    go (yes s) r = rw (lt-ltb n 10 s, decimal_digit n s)
    go (no s) r = rw (le-ltb n 10 (omega arith), r (omega arith)) (sym (decimal_step n (omega arith) l))

pub numeral_is : (n : ℕ) → n < 2 ^ 64 → decimal n ≡ numeral n
unfolding numeral
numeral_is n h = sym (digits_are (suc n) n (omega arith) h)

pub integer_is : (z : ℤ) → mag z < 2 ^ 31 → signed_decimal z ≡ integer z
unfolding integer
integer_is (pos n) h = numeral_is n (omega arith)
integer_is (negsuc n) h = ap (λ (l : List ℕ). 45 ∷ l) (numeral_is (suc n) (omega arith))

-- ---- lines

pub put_headline : {a b c d e : Text} {name : List ℕ} {m n : ℕ} → m < 2 ^ 64 → n < 2 ^ 64 → Put (length name) a b name → Put 21 b c (32 ∷ decimal m) → Put 21 c d (32 ∷ decimal n) → Put 1 d e (10 ∷ []) → Put (length name + 43) a e (headline name m n)
unfolding line_of integer
put_headline {m = m} {n} h k p q r s =
    put_as (omega arith) (rw (numeral_is m h, numeral_is n k)) (put_then p (put_then q (put_then r s)))

-- Words, each behind a blank.
abbrev pub spaced : List ℤ → List ℕ
spaced zs = flat_map (λ z. 32 ∷ integer z) zs

spaced_line : (zs : List ℤ) → spaced zs ++ (10 ∷ []) ≡ line_of zs
unfolding line_of
spaced_line [] = refl
spaced_line (z ∷ zs) = append_assoc (32 ∷ integer z) (spaced zs) (10 ∷ []) ∙ ap (λ (l : List ℕ). (32 ∷ integer z) ++ l) (spaced_line zs)

module _ (zs : List ℤ) (i : ℕ) where
  -- A word more, behind a blank.
  pub word_more : {a b c : Text} → i < length zs → mag (get_or zs i (pos 0)) < 2 ^ 31 → Put (12 * i) a b (spaced (take i zs)) → Put 12 b c (32 ∷ signed_decimal (to_z w32 (of_z w32 (get_or zs i (pos 0))))) → Put (12 * (i + 1)) a c (spaced (take (i + 1) zs))
  word_more h k p q =
      let z = get_or zs i (pos 0) in
      let e : signed_decimal (to_z w32 (of_z w32 z)) ≡ integer z = ap signed_decimal (back32 z k) ∙ integer_is z k in
      put_as (omega arith)
      (rw (e, take_more zs i (pos 0) h) (flat_map_more (λ z. 32 ∷ integer z) [] (take i zs) z))
      (put_then p q)

  pub line_end : {a b c : Text} → length zs ≤ i → i ≤ length zs → Put (12 * i) a b (spaced (take i zs)) → Put 1 b c (10 ∷ []) → Put (12 * length zs + 1) a c (line_of zs)
  line_end h l p q = put_as (omega arith) (rw (take_all i zs h) (spaced_line zs)) (put_then p q)

-- ---- events

pub put_event : {a b c : Text} {y : ℕ} (event : List ℤ) → y < 2 ^ 64 → Put 20 a b (decimal y) → Put (12 * length (take 4 event) + 1) b c (line_of (take 4 event)) → Put 69 a c (numeral y ++ line_of (take 4 event))
put_event {y = y} event h p q =
    put_as (omega (arith, length-take 4 event)) (ap (λ (l : List ℕ). l ++ line_of (take 4 event)) (numeral_is y h)) (put_then p q)

-- One event more: its five words are the next of the table.
module _ (table : List ℤ) (y : ℕ) (event left : List ℤ) (next : drop (5 * y) table ≡ event ++ left) (five : length event ≡ 5) where
  pub event_more : {z : ℕ} {a b c : Text} → z ≡ y → Put (69 * y) a b (event_lines table y) → Put 69 b c (numeral z ++ line_of (take 4 event)) → Put (69 * (y + 1)) a c (event_lines table (y + 1))
  unfolding event_lines
  event_more e p q =
      let words : take 4 (drop (5 * y) table) ≡ take 4 event = ap (take 4) next ∙ take-append-le 4 event left (omega arith) in
      put_as (omega arith) (rw (add-one y, words, e) (sym (append_assoc (event_lines table y) (numeral y) (line_of (take 4 event))))) (put_then p q)

  pub words_left : left ≡ drop (5 * (y + 1)) table
  words_left =
      let five_more : 5 * (y + 1) ≡ 5 * y + 5 = omega arith in
      sym (ap (λ n. drop n table) five_more ∙ sym (drop-drop 5 (5 * y) table) ∙ ap (drop 5) next ∙ drop_at event left 5 five)

  pub words_within : 5 * (y + 1) ≤ length table
  words_within =
      omega (arith, length-drop (5 * y) table, ap length next, length-append event left, five)
