-- A list's slips read from its words before the trailer alone.
-- Assumes nothing.
use Rattle.std.proofs.Common.{◌≡◌, refl, sym, ◌∙◌, Bool, List, ℕ, zero, suc, ◌+◌, ℤ, take}
use Rattle.model.specs.Job.{Windows, windows, Job}
use Rattle.model.specs.Slips.{Explanation}
use Rattle.model.specs.Questions.{Check, pass, refuse}
use Rattle.model.specs.Reader.{Reading, slip, cut, reading, slip_questions, is_conflict, applied, Read, read_from}
use Rattle.slips.proofs.Cutting.{same_reading}

-- ---- one slip of any words

module _ (j : Job) (wide : Windows) (ws : List ℤ) (stop k i p last : ℕ) (c : Bool) (table : List ℤ) where
  abbrev left_at : Check → Read
  left_at q = record { check = q; conflicting = c; table = table; after = p; last = last }

  not_whole : reading ws stop p ≡ cut → read_from j wide ws stop (suc k) i p last c table ≡ left_at (refuse 13 i)
  unfolding read_from
  not_whole e = rw (e, read_from)

  module _ {x : Explanation} {next : ℕ} (e : reading ws stop p ≡ slip x next) where
    answered_no : {q n : ℕ} → slip_questions j wide (windows table) x k ≡ refuse q n → read_from j wide ws stop (suc k) i p last c table ≡ left_at (refuse q i)
    unfolding read_from
    answered_no f = rw (e, f, read_from)

    taken : slip_questions j wide (windows table) x k ≡ pass → read_from j wide ws stop (suc k) i p last c table ≡ read_from j wide ws stop k (i + 1) next p (is_conflict x) (applied table x)
    unfolding read_from
    taken f = rw (e, f, read_from)

-- ---- the words before a place

module _ (list : List ℤ) (stop : ℕ) where
  abbrev words : List ℤ
  words = take stop list

  -- No word from there on is looked at.
  pub same_read : (j : Job) (wide : Windows) (k i p last : ℕ) (c : Bool) (table : List ℤ) → read_from j wide words stop k i p last c table ≡ read_from j wide list stop k i p last c table
  unfolding read_from
  same_read j wide zero i p last c table = refl
  same_read j wide (suc k) i p last c table = go (λ next d t. same_read j wide k (i + 1) next p d t) (reading list stop p) refl
    where
      go : ((next : ℕ) (d : Bool) (t : List ℤ) → read_from j wide words stop k (i + 1) next p d t ≡ read_from j wide list stop k (i + 1) next p d t)
          → (r : Reading)
          → reading list stop p ≡ r
          → read_from j wide words stop (suc k) i p last c table ≡ read_from j wide list stop (suc k) i p last c table
      go again cut e = not_whole j wide words stop k i p last c table (same_reading list stop p ∙ e) ∙ sym (not_whole j wide list stop k i p last c table e)
      go again (slip x next) e = ask (slip_questions j wide (windows table) x k) refl
        where
          ask : (q : Check) → slip_questions j wide (windows table) x k ≡ q → read_from j wide words stop (suc k) i p last c table ≡ read_from j wide list stop (suc k) i p last c table
          ask pass f = taken j wide words stop k i p last c table (same_reading list stop p ∙ e) f ∙ again next (is_conflict x) (applied table x) ∙ sym (taken j wide list stop k i p last c table e f)
          ask (refuse q n) f = answered_no j wide words stop k i p last c table (same_reading list stop p ∙ e) f ∙ sym (answered_no j wide list stop k i p last c table e f)
