-- A set's members: where they end in the table, which are new, and their test by its words.
-- Assumes nothing.
use Rattle.std.proofs.Common.{◌≡◌, refl, ap, ◌∙◌, Bool, true, false, ◌&&◌, List, ℕ, zero, suc, ◌+◌, arith}
use Rattle.model.specs.Job.{every, set_begin}
use Rattle.model.specs.Questions.{set_whole}
use Rattle.sets.specs.Sets.{count_at}
use Rattle.integers.specs.Range.{eq_z}
use Rattle.std.specs.List.{list_any}
use Rattle.std.proofs.lemmas.List.Folds.{list_any_more}
use Rattle.std.proofs.lemmas.Bool.Decides.{same_from_decides, Decides-int_eq}
use Rattle.integers.proofs.Tests.{is_true, and_out}
use Rattle.integers.proofs.Linear.{eq_z→}
use borrow.Author.Tests.{leb-true}
use Rattle.std.specs.Int.Signed.{le_z}
use Rattle.model.specs.Questions.{members_right}
use Rattle.questions.specs.Asked.{member_right}
use Rattle.model.specs.Job.{to_count, member_word, member_count, set_word}
use Rattle.model.specs.Questions.{is_event, member_right as right}
use Rattle.std.proofs.lemmas.List.{length-take-le, length-drop, get_or-take, get_or-drop}
use Rattle.std.proofs.Common.{eqb, eq-eqb, add-one, drop, ltb, leb, negsuc, ◌||◌, ℤ, pos, T, int_eq, not, ◌<◌, ◌≤◌, length, take, get_or}

-- Where a set is whole, its members end in the table.
pub whole_ends : (ws : List ℤ) (g : ℕ) {at : ℕ} → T (set_whole ws g) → at ≡ set_begin ws g → at + 3 + count_at ws at ≤ length ws
unfolding set_begin
whole_ends ws g t e = rw e (leb-true _ _ (is_true _ (and_out (ltb g 16) (leb (set_begin ws (suc g)) (length ws)) t).1))

eq_z_refl : (x : ℤ) → eq_z x x ≡ true
eq_z_refl (pos a) = eq-eqb a a refl
eq_z_refl (negsuc a) = eq-eqb a a refl

same_test : (x y : ℤ) → int_eq x y ≡ eq_z x y
same_test x y = same_from_decides _ _ (Decides-int_eq x y) (eq_z→ x y, λ e. rw e (eq_z_refl y))

none_of : (a b : Bool) → not (a || b) ≡ (not a && not b)
none_of true b = refl
none_of false b = refl

-- A word that those before it do not have is new.
pub new_among : (ms : List ℤ) (i : ℕ) (x : ℤ) → i ≤ length ms → not (list_any (λ y. int_eq y x) (take i ms)) ≡ every i (λ k. not (eq_z (get_or ms k (pos 0)) x))
unfolding every
new_among ms zero x l = refl
new_among ms (suc i) x l =
    let more = rw (add-one i) at (list_any_more (λ y. int_eq y x) ms i (pos 0) l) in
    ap not more ∙ none_of (list_any (λ y. int_eq y x) (take i ms)) (int_eq (get_or ms i (pos 0)) x)
    ∙ rw (new_among ms i x (omega arith), same_test (get_or ms i (pos 0)) x) refl

every_same : (n : ℕ) {p q : ℕ → Bool} → ((k : ℕ) → k < n → p k ≡ q k) → every n p ≡ every n q
unfolding every
every_same zero h = refl
every_same (suc n) h = rw (every_same n (λ k l. h k (omega arith)), h n (omega arith)) refl

some_counted : (w : ℤ) → not (eqb (to_count w) 0) ≡ le_z (pos 1) w
some_counted (pos zero) = refl
some_counted (pos (suc n)) = grind arith
some_counted (negsuc n) = refl

-- The test of a set's members is the test of the words that it has for members.
pub members_are : (n : ℕ) (ws : List ℤ) (g : ℕ) {at : ℕ} {ms : List ℤ}
    → T (set_whole ws g)
    → at ≡ set_begin ws g
    → ms ≡ take (count_at ws at) (drop (at + 3) ws)
    → (not (eqb (length ms) 0) && every (length ms) (member_right n ms)) ≡ members_right n ws g
members_are n ws g {at} {ms} t b e = both some all
  where
    both : {a b c d : Bool} → a ≡ c → b ≡ d → (a && b) ≡ (c && d)
    both p q = rw (p, q) refl

    size : length ms ≡ member_count ws g
    size =
        let end = whole_ends ws g t b in
        let rest : count_at ws at ≤ length (drop (at + 3) ws) = rw (length-drop (at + 3) ws) (omega arith) in
        ap length e ∙ length-take-le (count_at ws at) (drop (at + 3) ws) rest ∙ ap (count_at ws) b

    word : (i : ℕ) → i < member_count ws g → get_or ms i (pos 0) ≡ member_word ws g i
    word i l =
        let near : i < count_at ws at = rw (ap (count_at ws) b) l in
        ap (λ xs. get_or xs i (pos 0)) e
        ∙ get_or-take (count_at ws at) (drop (at + 3) ws) i (pos 0) near
        ∙ get_or-drop (at + 3) ws i (pos 0)
        ∙ ap (λ k. get_or ws k (pos 0)) (omega (arith, b))

    some : not (eqb (length ms) 0) ≡ le_z (pos 1) (set_word ws g 2)
    some = ap (λ z. not (eqb z 0)) size ∙ some_counted (set_word ws g 2)

    all : every (length ms) (member_right n ms) ≡ every (member_count ws g) (right n ws g)
    all =
        ap (λ z. every z (member_right n ms)) size
        ∙ every_same (member_count ws g)
        (λ i l. both (ap (is_event n) (word i l)) (every_same i (λ k m. rw (word k (omega arith), word i l) refl)))
