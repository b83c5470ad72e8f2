-- A slip's words appended part by part.
-- Assumes nothing.
use mathlib.Core.Path.{◌≡◌, refl, sym, ap, ◌∙◌}
use mathlib.Core.List.{List, [], ◌∷◌, ◌++◌, append_assoc}
use Prim.Native.Nat.{ℕ, ◌+◌, ◌*◌, ◌-◌, ◌/◌, ◌≤◌}
use native.Mathlib.Omega.{arith}
use lib.IntN.{ℤ, pos}
use lib.ListN.{length, take, drop, length-append}
use lib.Seq.{length-take-le, take-add, take_at, drop_at, take-take, drop-drop}
use Rattle.model.specs.Job.{Windows}
use Rattle.model.specs.Standing.{Ranged}
use Rattle.model.specs.Rules.{Rule, own_end, Effect, idle, narrows, fails}
use Rattle.model.specs.Slips.{premise_list, Explanation, premise_words, slip_words, concluded_kind}
use Rattle.model.proofs.Words.{premise_list_length}
use Rattle.facts.specs.Quotes.{cites_of, says_of}
use Rattle.facts.specs.declared.Citing.{Citing}
use Rattle.slips.specs.Words.{Appended}
use Rattle.slips.specs.Slip.{kind_at}
use Rattle.slips.specs.Writing.{Wrote}
use Rattle.slips.specs.declared.writer.Writer.{Writer}
use Rattle.slips.proofs.Filling.{appended_both, wrote_both, words_length}

-- Lists that agree from u on agree from any later place on.
pub drop_later : (l m : List ℤ) (u v : ℕ) → u ≤ v → drop u l ≡ drop u m → drop v l ≡ drop v m
drop_later l m u v h e =
    let k : v ≡ u + (v - u) = omega arith in
    rw (k, ← drop-drop (v - u) u l, ← drop-drop (v - u) u m, e)

-- At most four facts an event.
pub few_facts : {n : ℕ} {W : Windows} (c : Citing) → Ranged n W → length (premise_list n (cites_of c W) (says_of c W)) ≤ 256
few_facts {n} {W} c r = omega (arith, premise_list_length n (cites_of c W) (says_of c W), r.few)

-- A rule's slip concludes with the kind of its own end.
pub own_kind : (r : Rule) (x : Effect) → kind_at (own_end r) x ≡ concluded_kind r x
own_kind r idle = refl
own_kind r (narrows v) = refl
own_kind r fails = refl

-- The six words before the facts.
abbrev pub head_words : Explanation → ℕ → List ℤ
head_words x m = x.rule ∷ x.subject ∷ x.target ∷ x.kind ∷ x.value ∷ pos m ∷ []

-- The head, the facts, the length.
pub slip_appended : (x : Explanation) {m : ℕ} {s t u v : Writer} → m ≡ length x.premises → Wrote (head_words x m) s t → Wrote (premise_words x.premises) t u → Wrote (pos (7 + 3 * m) ∷ []) u v → Wrote (slip_words x) s v
unfolding slip_words
slip_appended x count first facts l =
    let first' = rw count at first in
    let l' = rw count at l in
    wrote_both (wrote_both first' facts) l'

-- Words written before others that stand already.
pub appended_before : {at i j : ℕ} {xs ys d d₁ d₂ : List ℤ} → i ≤ length d → Appended i ys d d₁ j → Appended at xs d₁ d₂ i → Appended at (xs ++ ys) d d₂ j
appended_before {at} {i} {j} {xs} {ys} {d} {d₁} {d₂} fits facts head =
    let whole : take i d₁ ++ take (length ys) (drop i d₁) ≡ take i d ++ ys = sym (take-add i (length ys) d₁) ∙ rw (← facts.place) facts.is in
    let long₁ : length (take i d₁) ≡ i = length-take-le i d₁ (omega (arith, facts.same)) in
    let long : length (take i d) ≡ i = length-take-le i d fits in
    let tail : take (length ys) (drop i d₁) ≡ ys = sym (drop_at (take i d₁) (take (length ys) (drop i d₁)) i long₁) ∙ ap (drop i) whole ∙ drop_at (take i d) ys i long in
    let front : take i d₁ ≡ take i d = sym (take_at (take i d₁) (take (length ys) (drop i d₁)) i long₁) ∙ ap (take i) whole ∙ take_at (take i d) ys i long in
    let start : take at d₁ ≡ take at d = sym (take-take at i d₁ (omega (arith, head.place))) ∙ ap (take at) front ∙ take-take at i d (omega (arith, head.place)) in
    record {
      is = rw facts.place (take-add i (length ys) d₂ ∙ rw (head.is, head.rest, tail, start) (append_assoc (take at d) xs ys));
      rest = drop_later d₂ d₁ i j (omega (arith, facts.place)) head.rest ∙ facts.rest;
      same = head.same ∙ facts.same;
      place = simp length-append (omega (arith, facts.place, head.place));
    }

-- The facts first, then the head, then the length.
pub slip_put : (x : Explanation) {at i j m : ℕ} {d d₁ d₂ : List ℤ} → m ≡ length x.premises → at + 6 ≤ length d → Appended (at + 6) (premise_words x.premises) d d₁ j → Appended at (head_words x m) d₁ d₂ i
    → {k : ℕ} {d₃ : List ℤ} → Appended j (pos (7 + 3 * m) ∷ []) d₂ d₃ k → Appended at (slip_words x) d d₃ k
unfolding slip_words
slip_put x {at} {i} count fits facts first l =
    let e : i ≡ at + 6 = omega (arith, first.place) in
    let first' = rw (count, e) at first in
    let l' = rw count at l in
    appended_both (appended_before fits facts first') l'

pub facts_counted : (x : Explanation) {i j m : ℕ} {d d₁ : List ℤ} → Appended i (premise_words x.premises) d d₁ j → m ≡ (j - i) / 3 → m ≡ length x.premises
facts_counted x {i} {j} a e = omega (arith, words_length x.premises, a.place)
