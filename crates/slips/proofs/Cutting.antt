-- A slip read from a list's words before a place alone.
-- Assumes nothing.
use Rattle.std.proofs.Common.{◌≡◌, refl, sym, ◌∙◌, ◌&&◌, Bool, true, false, List, ℕ, zero, suc, ◌+◌, ◌*◌, ◌<◌, ◌≤◌, ℤ, pos, leb, take, arith}
use Rattle.std.proofs.lemmas.List.{get_or-take}
use borrow.Author.Tests.{leb-true}
use Rattle.integers.specs.Range.{eq_z}
use Rattle.model.specs.Rules.{known_rule}
use Rattle.model.specs.Slips.{slip_length, at, premise_count, premises_at, slip_at}
use Rattle.model.specs.Questions.{in_range}
use Rattle.model.specs.Reader.{cut, whole, reading}

module _ (list : List ℤ) (stop : ℕ) where
  abbrev words : List ℤ
  words = take stop list

  same_word : (i : ℕ) → i < stop → at words i ≡ at list i
  same_word i l = get_or-take stop list i (pos 0) l

  same_premises : (i m : ℕ) → i + 3 * m ≤ stop → premises_at words i m ≡ premises_at list i m
  unfolding premises_at
  same_premises i zero l = refl
  same_premises i (suc m) l =
      rw (same_word i (omega arith), same_word (i + 1) (omega arith), same_word (i + 2) (omega arith), same_premises (i + 3) m (omega arith)) refl

  none : (a b : Bool) → (a && false && b) ≡ false
  none true b = refl
  none false b = refl

  -- A slip longer than the words: not whole.
  too_long : (ws : List ℤ) (p : ℕ) → leb (p + slip_length (premise_count ws p)) stop ≡ false → cut ≡ reading ws stop p
  unfolding reading whole
  too_long ws p f =
      rw (f, none (leb (p + 7) stop && known_rule (at ws p) && in_range (pos 0) (pos 256) (at ws (p + 5))) (eq_z (at ws (p + (6 + 3 * premise_count ws p))) (pos (slip_length (premise_count ws p))))) refl

  -- No word from there on is looked at.
  pub same_reading : (p : ℕ) → reading words stop p ≡ reading list stop p
  unfolding reading whole slip_at
  same_reading p = go (leb (p + 7) stop) refl
    where
      go : (b : Bool) → leb (p + 7) stop ≡ b → reading words stop p ≡ reading list stop p
      go false e = rw e refl
      go true e =
          let l = leb-true _ _ e in
          let first = same_word p (omega arith) in
          let count = same_word (p + 5) (omega arith) in
          behind first count (leb (p + slip_length (premise_count list p)) stop) refl
        where
          behind : at words p ≡ at list p → at words (p + 5) ≡ at list (p + 5) → (c : Bool) → leb (p + slip_length (premise_count list p)) stop ≡ c → reading words stop p ≡ reading list stop p
          behind first count false f = sym (too_long words p (rw count f)) ∙ too_long list p f
          behind first count true f =
              let l = leb-true _ _ f in
              let m = premise_count list p in
              rw (e, first, count, f, same_word (p + (6 + 3 * m)) (omega arith), same_word (p + 1) (omega arith), same_word (p + 2) (omega arith), same_word (p + 3) (omega arith), same_word (p + 4) (omega arith), same_premises (p + 6) m (omega arith)) refl
