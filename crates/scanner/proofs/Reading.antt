-- The scanner reads what the text says: fed with a whole text, in whatever pieces, and finished, it gives `job_text` of that text.
-- The invariant: the numbers stored, then those of the text to come behind the open token, are the numbers of the whole text.
-- Assumes nothing.
use mathlib.Core.Path.{◌≡◌, refl, sym, ap, subst, ◌∙◌}
use mathlib.Core.Bool.{Bool, true, false, cond}
use mathlib.Core.List.{List, [], ◌∷◌, ◌++◌, append_assoc, append-nil}
use mathlib.Core.Logic.{◌⊎◌, inl, inr, ⊎_elim}
use Prim.Native.Nat.{ℕ, ◌+◌, ◌*◌, ◌-◌, ◌≤◌, ◌<◌}
use native.Mathlib.Omega.{arith}
use borrow.Author.Tests.{ne_eqb, eqb-true, leb-false, ltb-true, ltb-false, lt-leb}
use lib.Dec.{leb, ltb, leb→le}
use lib.IntN.{ℤ, pos, negsuc, neg_ℤ}
use lib.ListN.{length, take, set, length-append, length-take, length-set}
use lib.Signed.{le_z}
use Rattle.std.specs.Prelude.{Option, Some}
use Rattle.std.proofs.lemmas.List.{take_more_set}
use Rattle.integers.proofs.Linear.{ints, neg_law}
use Rattle.integers.proofs.Tests.{and_out, true_is}
use Rattle.model.specs.Job.{Job}
use Rattle.model.specs.Text.{Parsed, parsed, malformed, on, blank, minus, digit, digits_value, signed, fits_word, one_number, decimal, token, numbers_behind, job_of, job_text}
use Rattle.scanner.specs.Scanning.{State, state, sized, kept, closed, ended, negated, valued, grown, step, fed, read, finished}
use Rattle.scanner.specs.declared.scan.Scan.{Scan}
use Rattle.scanner.specs.declared.scan.Scan.TheVariants.{Between, Minus, Digits, Malformed}
use Rattle.scanner.proofs.Steps.{case, fed_malformed}
use Rattle.scanner.proofs.Laying.{too_many}

-- ---- digits

value_append : (v : ℕ) (u w : List ℕ) → digits_value v (u ++ w) ≡ on (digits_value v u) (λ x. digits_value x w)
unfolding digits_value
value_append v [] w = refl
value_append v (b ∷ u) w = case (digit b) (λ y. rw y (value_append (10 * v + (b - 48)) u w)) (λ y. rw y)

outside : (negative : Bool) (n : ℕ) → 2147483648 < n → fits_word (signed negative n) ≡ false
outside true n h =
    let e : le_z (negsuc 2147483647) (neg_ℤ (pos n)) ≡ false = omega (ints, neg_law (pos n)) in
    rw e
outside false n h = lt-leb n 2147483647 (omega arith)

-- Further digits only raise a value.
too_large : (negative : Bool) (v : ℕ) (w : List ℕ) → 2147483648 < v → on (digits_value v w) (λ x. one_number (signed negative x)) ≡ malformed
unfolding digits_value
too_large negative v [] h = rw (outside negative v h)
too_large negative v (b ∷ w) h =
    case (digit b) (λ y. rw y (too_large negative (10 * v + (b - 48)) w (omega arith))) (λ y. rw y)

-- ---- a token of digits, behind a '-' or not

abbrev signed_digits : Bool → List ℕ → List ℕ
signed_digits true u = 45 ∷ u
signed_digits false u = u

signed_append : (negative : Bool) (u v : List ℕ) → signed_digits negative u ++ v ≡ signed_digits negative (u ++ v)
signed_append true u v = refl
signed_append false u v = refl

digit_no_minus : (b : ℕ) → digit b ≡ true → minus b ≡ false
digit_no_minus b e =
    let h : 48 ≤ b = leb→le 48 b (and_out (leb 48 b) (leb b 57) (true_is e)).0 in
    ne_eqb b 45 (λ p. omega arith)

token_of : (negative : Bool) (d : ℕ) (u : List ℕ) → digit d ≡ true → token (signed_digits negative (d ∷ u)) ≡ decimal negative (d ∷ u)
token_of true d u e = refl
token_of false d u e = rw (digit_no_minus d e)

-- Digits of the value x, then v.
token_behind : (negative : Bool) (d : ℕ) (u : List ℕ) {x : ℕ} (v : List ℕ) → digit d ≡ true → digits_value 0 (d ∷ u) ≡ parsed x → token (signed_digits negative (d ∷ u) ++ v) ≡ on (digits_value x v) (λ y. one_number (signed negative y))
token_behind negative d u v e f =
    ap token (signed_append negative (d ∷ u) v)
    ∙ token_of negative d (u ++ v) e
    ∙ ap (λ (p : Parsed ℕ). on p (λ y. one_number (signed negative y))) (value_append 0 (d ∷ u) v ∙ ap (λ (p : Parsed ℕ). on p (λ y. digits_value y v)) f)

-- ---- the open token

-- The scan s stands after n numbers and then w, the beginning of a token.
data Opened (n : ℕ) : Scan → List ℕ → Type 0 where
  no_token : Opened n (Between n) []
  sign_alone : Opened n (Minus n) (45 ∷ [])
  some_digits : (negative : Bool) (d : ℕ) (u : List ℕ) (x : ℕ) → digit d ≡ true → digits_value 0 (d ∷ u) ≡ parsed x → Opened n (Digits n negative x) (signed_digits negative (d ∷ u))

-- After one byte more the token goes on, or no token begins so.
abbrev Goes : ℕ → Scan → List ℕ → Type 0
Goes n s w = Opened n s w ⊎ ((s ≡ Malformed) × ((v : List ℕ) → token (w ++ v) ≡ malformed))

goes_as : {n : ℕ} {w : List ℕ} {s r : Scan} → s ≡ r → Goes n r w → Goes n s w
goes_as {n} {w} e g = subst (λ (x : Scan). Goes n x w) (sym e) g

-- what a byte that is no blank does to a scan
abbrev after : Scan → ℕ → Scan
after s b = cond (minus b) (negated s) (cond (digit b) (grown s (b - 48)) Malformed)

after_digit : (s : Scan) (b : ℕ) → digit b ≡ true → after s b ≡ grown s (b - 48)
after_digit s b d = rw (digit_no_minus b d, d)

after_other : (s : Scan) (b : ℕ) → minus b ≡ false → digit b ≡ false → after s b ≡ Malformed
after_other s b m d = rw (m, d)

-- Digits of the value x.
grows : (n : ℕ) (negative : Bool) (d : ℕ) (u : List ℕ) (x : ℕ) → digit d ≡ true → digits_value 0 (d ∷ u) ≡ parsed x → Goes n (valued n negative x) (signed_digits negative (d ∷ u))
grows n negative d u x e f =
    case (leb x 2147483648)
    (λ y. rw y (inl (some_digits negative d u x e f)))
    (λ y. inr (rw y, λ v. token_behind negative d u v e f ∙ too_large negative x v (leb-false x 2147483648 y)))

first_value : (b : ℕ) → digit b ≡ true → digits_value 0 (b ∷ []) ≡ parsed (b - 48)
unfolding digits_value
first_value b e = rw e (ap parsed (omega arith))

next_value : (d : ℕ) (u : List ℕ) (x b : ℕ) → digits_value 0 (d ∷ u) ≡ parsed x → digit b ≡ true → digits_value 0 (d ∷ (u ++ (b ∷ []))) ≡ parsed (10 * x + (b - 48))
unfolding digits_value
next_value d u x b f e = value_append 0 (d ∷ u) (b ∷ []) ∙ ap (λ (p : Parsed ℕ). on p (λ y. digits_value y (b ∷ []))) f ∙ rw e

stray : (negative : Bool) (x b : ℕ) (v : List ℕ) → digit b ≡ false → on (digits_value x (b ∷ v)) (λ y. one_number (signed negative y)) ≡ malformed
unfolding digits_value
stray negative x b v e = rw e

goes : (n : ℕ) {s : Scan} {w : List ℕ} (b : ℕ) → Opened n s w → Goes n (after s b) (w ++ (b ∷ []))
goes n b no_token =
    case (digit b)
    (λ d. goes_as (after_digit (Between n) b d) (grows n false b [] (b - 48) d (first_value b d)))
    (λ d.
    case (minus b)
    (λ m. subst (λ (x : ℕ). Goes n (after (Between n) x) (x ∷ [])) (sym (eqb-true b 45 m)) (inl sign_alone))
    (λ m. inr (after_other (Between n) b m d, λ v. rw m (stray false 0 b v d))))
goes n b sign_alone =
    case (digit b)
    (λ d. goes_as (after_digit (Minus n) b d) (grows n true b [] (b - 48) d (first_value b d)))
    (λ d. inr (case (minus b) (λ m. rw m) (λ m. after_other (Minus n) b m d), λ v. stray true 0 b v d))
goes n b (some_digits negative d u x e f) =
    case (digit b)
    (λ y.
    goes_as (after_digit (Digits n negative x) b y)
    (rw (signed_append negative (d ∷ u) (b ∷ [])) (grows n negative d (u ++ (b ∷ [])) (10 * x + (b - 48)) e (next_value d u x b f y))))
    (λ y. inr (
      case (minus b) (λ m. rw m) (λ m. after_other (Digits n negative x) b m y),
      λ v. ap token (append_assoc (signed_digits negative (d ∷ u)) (b ∷ []) v) ∙ token_behind negative d u (b ∷ v) e f ∙ stray negative x b v y,
    ))

-- A token that no token begins with.
no_numbers : (w text : List ℕ) → ((v : List ℕ) → token (w ++ v) ≡ malformed) → numbers_behind w text ≡ malformed
unfolding numbers_behind
no_numbers w [] h = rw append-nil at (h [])
no_numbers w (b ∷ text) h =
    case (blank b)
    (λ y. let e = rw append-nil at (h []) in rw (y, e))
    (λ y. rw y (no_numbers (w ++ (b ∷ [])) text (λ v. ap token (append_assoc w (b ∷ []) v) ∙ h ((b ∷ []) ++ v))))

-- ---- the end of a token

-- The numbers of a token, then what else there is.
abbrev joined : List ℕ → Parsed (List ℤ) → Parsed (List ℤ)
joined w p = on (token w) (λ xs. on p (λ ys. parsed (xs ++ ys)))

-- The job that is said by the numbers in the table, then p.
abbrev meant : ℕ → List ℤ → Parsed (List ℤ) → Parsed (Job × ℤ)
meant n t p = on p (λ ys. job_of (take n t ++ ys))

-- A token has ended: its number is stored, or no text begins so.
record Stored (n : ℕ) (t : List ℤ) (w : List ℕ) (s : State) : Type 0 where
  many : ℕ
  table : List ℤ
  is : s ≡ state (Between many) table
  room : many ≤ length table
  long : 2198 ≤ length table
  found : List ℤ
  says : token w ≡ parsed found
  read_so_far : take n t ++ found ≡ take many table

abbrev Ends : ℕ → List ℤ → List ℕ → State → Type 0
Ends n t w s = Stored n t w s ⊎ ((s ≡ state Malformed t) × ((p : Parsed (List ℤ)) → meant n t (joined w p) ≡ malformed))

stored_one : (n : ℕ) (z : ℤ) (t : List ℤ) (w : List ℕ) → 2198 ≤ length t → n < length t → token w ≡ parsed (z ∷ []) → Stored n t w (state (Between (n + 1)) (set t n z))
stored_one n z t w l h e =
    record {
      many = n + 1;
      table = set t n z;
      is = refl;
      room = omega (arith, length-set t n z);
      long = omega (arith, length-set t n z);
      found = z ∷ [];
      says = e;
      read_so_far = sym (take_more_set t n z (omega arith));
    }

one_too_many : (n : ℕ) (z : ℤ) (t : List ℤ) (w : List ℕ) → 2198 ≤ length t → length t ≤ n → token w ≡ parsed (z ∷ []) → (p : Parsed (List ℤ)) → meant n t (joined w p) ≡ malformed
one_too_many n z t w l h e p = rw e (go p)
  where
    go : (p : Parsed (List ℤ)) → meant n t (on p (λ ys. parsed (z ∷ ys))) ≡ malformed
    go (parsed ys) = too_many (take n t ++ (z ∷ ys)) (omega (arith, length-append (take n t) (z ∷ ys), length-take n t))
    go malformed = refl

ends_in : (n : ℕ) (z : ℤ) (t : List ℤ) (w : List ℕ) → 2198 ≤ length t → token w ≡ parsed (z ∷ []) → Ends n t w (kept n z t)
ends_in n z t w l e =
    case (ltb n (length t))
    (λ y. subst (λ (s : State). Ends n t w s) (sym (rw y)) (inl (stored_one n z t w l (ltb-true n (length t) y) e)))
    (λ y. inr (rw y, one_too_many n z t w l (ltb-false n (length t) y) e))

token_whole : (negative : Bool) (d : ℕ) (u : List ℕ) {x : ℕ} → digit d ≡ true → digits_value 0 (d ∷ u) ≡ parsed x → token (signed_digits negative (d ∷ u)) ≡ one_number (signed negative x)
token_whole negative d u e f =
    token_of negative d u e ∙ ap (λ (p : Parsed ℕ). on p (λ y. one_number (signed negative y))) f

ends : (n : ℕ) (t : List ℤ) {s : Scan} {w : List ℕ} → 2198 ≤ length t → n ≤ length t → Opened n s w → Ends n t w (ended s t)
ends n t l h no_token =
    inl (record { many = n; table = t; is = refl; room = h; long = l; found = []; says = refl; read_so_far = append-nil (take n t) })
ends n t l h sign_alone = inr (refl, λ p. refl)
ends n t l h (some_digits negative d u x e f) =
    case (fits_word z)
    (λ y.
    let g : sized negative x ≡ Some z = rw y in
    subst (λ (m : Option ℤ). Ends n t w (closed n m t)) (sym g) (ends_in n z t w l (token_whole negative d u e f ∙ rw y)))
    (λ y. inr (rw y, λ p. let g : token w ≡ malformed = token_whole negative d u e f ∙ rw y in rw g))
  where
    w : List ℕ
    w = signed_digits negative (d ∷ u)

    z : ℤ
    z = signed negative x

-- ---- the whole text

step_blank : (s : Scan) (t : List ℤ) (b : ℕ) → blank b ≡ true → step (state s t) b ≡ ended s t
unfolding step
step_blank s t b e = rw e

step_after : (s : Scan) (t : List ℤ) (b : ℕ) → blank b ≡ false → step (state s t) b ≡ state (after s b) t
unfolding step
step_after s t b e = rw e

abbrev finished_after : State → List ℕ → Parsed (Job × ℤ)
finished_after s text = finished (fed s text)

stays : (t : List ℤ) (text : List ℕ) → finished_after (state Malformed t) text ≡ malformed
stays t text = ap finished (fed_malformed t text)

behind_blank : (w : List ℕ) (b : ℕ) (text : List ℕ) → blank b ≡ true → numbers_behind w (b ∷ text) ≡ joined w (numbers_behind [] text)
unfolding numbers_behind
behind_blank w b text y = rw y

behind_other : (w : List ℕ) (b : ℕ) (text : List ℕ) → blank b ≡ false → numbers_behind w (b ∷ text) ≡ numbers_behind (w ++ (b ∷ [])) text
unfolding numbers_behind
behind_other w b text y = rw y

-- A token's end alone.
ends_alone : (w : List ℕ) → joined w (parsed []) ≡ token w
ends_alone w = go (token w)
  where
    go : (p : Parsed (List ℤ)) → on p (λ xs. parsed (xs ++ [])) ≡ p
    go (parsed xs) = ap parsed (append-nil xs)
    go malformed = refl

so_far : {n : ℕ} {t : List ℤ} {w : List ℕ} {s : State} (k : Stored n t w s) (p : Parsed (List ℤ)) → meant k.many k.table p ≡ meant n t (joined w p)
so_far {n} {t} k (parsed ys) =
    rw k.says (ap job_of (rw (← k.read_so_far) (append_assoc (take n t) k.found ys)))
so_far k malformed = rw k.says

-- What a state says of the text to come.
reading : (text : List ℕ) (n : ℕ) (t : List ℤ) (s : Scan) (w : List ℕ) → 2198 ≤ length t → n ≤ length t → Opened n s w → finished_after (state s t) text ≡ meant n t (numbers_behind w text)
unfolding numbers_behind
reading [] n t s w l h o =
    ⊎_elim
    (λ k. ap read k.is ∙ ap job_of (sym (append-nil (take k.many k.table))) ∙ so_far k (parsed []))
    (λ k. ap read k.0 ∙ sym (k.1 (parsed [])))
    (ends n t l h o)
    ∙ ap (meant n t) (ends_alone w)
reading (b ∷ text) n t s w l h o =
    case (blank b)
    (λ y.
    ap (λ (u : State). finished_after u text) (step_blank s t b y)
    ∙ ⊎_elim
    (λ k.
    ap (λ (u : State). finished_after u text) k.is
    ∙ reading text k.many k.table (Between k.many) [] k.long k.room no_token
    ∙ so_far k (numbers_behind [] text))
    (λ k. ap (λ (u : State). finished_after u text) k.0 ∙ stays t text ∙ sym (k.1 (numbers_behind [] text)))
    (ends n t l h o)
    ∙ ap (meant n t) (sym (behind_blank w b text y)))
    (λ y.
    ap (λ (u : State). finished_after u text) (step_after s t b y)
    ∙ ⊎_elim
    (λ g. reading text n t (after s b) (w ++ (b ∷ [])) l h g)
    (λ g.
    ap (λ (u : Scan). finished_after (state u t) text) g.0
    ∙ stays t text
    ∙ ap (meant n t) (sym (no_numbers (w ++ (b ∷ [])) text g.1)))
    (goes n b o)
    ∙ ap (meant n t) (sym (behind_other w b text y)))

-- A text fed to a fresh scanner, and finished, is read as the definition says.
pub reads : (t : List ℤ) (text : List ℕ) → 2198 ≤ length t → finished (fed (state (Between 0) t) text) ≡ job_text text
unfolding job_text
reads t text l = reading text 0 t (Between 0) [] l (omega arith) no_token
