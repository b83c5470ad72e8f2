-- One slip read, asked and applied; then all slips in turn.
-- Assumes nothing.
use mathlib.Core.Path.{◌≡◌, refl, sym}
use mathlib.Core.Bool.{Bool, true, false, not}
use mathlib.Core.List.{List}
use Prim.Native.Nat.{ℕ, suc, ◌+◌, ◌*◌}
use native.Mathlib.Omega.{arith}
use lib.IntN.{ℤ, pos}
use Rattle.std.specs.Prelude.{Some, None, is_some}
use lib.ListN.{set, length}
use Rattle.integers.specs.Range.{eq_z}
use Rattle.model.specs.Job.{word, Windows, windows, events, Job}
use Rattle.model.specs.Rules.{own_end}
use Rattle.model.specs.Slips.{Explanation, slip_length, premise_count, slip_at}
use Rattle.model.specs.Questions.{Check, pass, refuse}
use Rattle.model.specs.Reader.{slip, cut, whole, reading, slip_questions, is_conflict, applied, read_from}
use Rattle.model.proofs.Questions.{refusal}
use Rattle.model.proofs.Accepted.{passed}
use Rattle.model.proofs.Sound.{named}
use Rattle.tables.specs.Board.{board, table_of}
use Rattle.tables.proofs.Boarding.{table_set}
use Rattle.rules.specs.Values.{rule_of}
use Rattle.rules.proofs.Numbering.{rule_number}
use Rattle.slips.specs.Slip.{explanation_of}
use Rattle.slips.specs.declared.Slip.{Slip}
use Rattle.tables.specs.declared.ends.Word.{Word}
use Rattle.judging.specs.Ready.{job_of, ReadyFor}
use Rattle.judging.specs.declared.Call.{Call}
use Rattle.judging.specs.declared.Named.{Named}
use Rattle.checker.specs.Turns.{Applies, slip_asked}

-- ---- the narrowing made

module _ (n : ℕ) (sent : List ℤ) (s : Named) where
  -- A conflict: none.
  pub none_made : (b : List ℤ) → s.bound ≡ None → table_of n sent b ≡ applied (table_of n sent b) (explanation_of s.slip)
  none_made b e = go (eq_z s.slip.kind.0 (pos 0)) refl
    where
      go : (t : Bool) → eq_z s.slip.kind.0 (pos 0) ≡ t → table_of n sent b ≡ applied (table_of n sent b) (explanation_of s.slip)
      go true f = rw f refl
      go false f = let h = rw (s.bound_is, f) at e in cc

  -- A bound: stored at the rule's own end.
  pub one_made : (b : List ℤ) {b' : List ℤ} {v : Word} → length b ≡ 256 → s.bound ≡ Some v → Applies n s → b' ≡ set b (64 * word (own_end (rule_of s.slip.rule)) + s.target) v.0 →
      table_of n sent b' ≡ applied (table_of n sent b) (explanation_of s.slip)
  one_made b {b'} {v} full e a g = go (eq_z s.slip.kind.0 (pos 0)) refl
    where
      go : (t : Bool) → eq_z s.slip.kind.0 (pos 0) ≡ t → table_of n sent b' ≡ applied (table_of n sent b) (explanation_of s.slip)
      go true f = let h = rw (s.bound_is, f) at e in cc
      go false f =
          let h = rw (s.bound_is, f) at e in
          let is : s.slip.value ≡ v = cc in
          rw (f, rule_number (rule_of s.slip.rule), is, ← s.target_is, g) (table_set n sent b full s.target (own_end (rule_of s.slip.rule)) v.0 a.event a.few)

-- ---- one slip

module _ (j : Job) (wide W : Windows) (list : List ℤ) (stop p left : ℕ) where
  -- Not whole: 13. Whole: what questions 14 to 18 come to.
  pub asked_cut : cut ≡ reading list stop p → slip_asked j wide W list stop p left ≡ refuse 13 0
  unfolding reading
  asked_cut e = go (whole list stop p) refl
    where
      go : (b : Bool) → whole list stop p ≡ b → slip_asked j wide W list stop p left ≡ refuse 13 0
      go true w = let f = rw w at e in let z : ◌≡◌ {A = ℕ} 0 1 = cc in absurd (omega arith)
      go false w = rw w

  asked_slip : {x : Explanation} {next : ℕ} → slip x next ≡ reading list stop p →
      (slip_questions j wide W x left ≡ slip_asked j wide W list stop p left) × (x ≡ slip_at list p) × (next ≡ p + slip_length (premise_count list p))
  unfolding reading
  asked_slip {x} {next} e = go (whole list stop p) refl
    where
      go : (b : Bool) → whole list stop p ≡ b → (slip_questions j wide W x left ≡ slip_asked j wide W list stop p left) × (x ≡ slip_at list p) × (next ≡ p + slip_length (premise_count list p))
      go true w = let f : slip x next ≡ slip (slip_at list p) (p + slip_length (premise_count list p)) = rw w at e in let g : x ≡ slip_at list p = cc in (rw (w, g), g, cc)
      go false w = let f : slip x next ≡ cut = rw w at e in let z : ◌≡◌ {A = ℕ} 0 1 = cc in absurd (omega arith)

  -- The slip there, as it was read.
  pub slip_there : (s : Slip) {next : ℕ} → slip (explanation_of s) next ≡ reading list stop p →
      (slip_questions j wide W (explanation_of s) left ≡ slip_asked j wide W list stop p left) × (explanation_of s ≡ slip_at list p) × (next ≡ p + slip_length (premise_count list p))
  slip_there s e = asked_slip e

-- A slip that passed can be applied.
pub applies_is : (c : Call) {b : List ℤ} → ReadyFor c b → (s : Named) (left : ℕ) → pass ≡ slip_questions (job_of c) (board c.wide.now.words) (board b) (explanation_of s.slip) left → Applies c.job.events s
applies_is c {b} h s left e =
    let j = job_of c in
    let p = passed j (board c.wide.now.words) (board b) (explanation_of s.slip) left (sym e) in
    let o = named j (explanation_of s.slip) p.named in
    let count : events j ≡ c.job.events = omega (arith, h.seated.long) in
    record { few = h.range.few; event = rw (s.target_is, ← count) o.target_real }

-- A slip without a bound is a conflict.
pub no_bound : (s : Named) {t : Bool} → is_some s.bound ≡ not t → t ≡ is_conflict (explanation_of s.slip)
no_bound s {t} e = go (eq_z s.slip.kind.0 (pos 0)) refl t e
  where
    go : (z : Bool) → eq_z s.slip.kind.0 (pos 0) ≡ z → (t : Bool) → is_some s.bound ≡ not t → t ≡ is_conflict (explanation_of s.slip)
    go true f true h = sym f
    go true f false h = let g = rw (s.bound_is, f) at h in cc
    go false f true h = let g = rw (s.bound_is, f) at h in cc
    go false f false h = sym f

-- ---- all slips in turn

module _ (j : Job) (wide : Windows) (list : List ℤ) (stop i p last : ℕ) (c : Bool) (table : List ℤ) (left : ℕ) where
  abbrev asked : Check
  asked = slip_questions j wide (windows table) (slip_at list p) left

  pub reads_off : (q : ℕ) → slip_asked j wide (windows table) list stop p left ≡ refuse q 0 → (read_from j wide list stop (suc left) i p last c table).check ≡ refuse q i
  unfolding read_from reading
  reads_off q e = go (whole list stop p) refl asked refl
    where
      go : (b : Bool) → whole list stop p ≡ b → (k : Check) → asked ≡ k → (read_from j wide list stop (suc left) i p last c table).check ≡ refuse q i
      go false w k f =
          let g : refuse 13 0 ≡ refuse q 0 = rw w at e in
          let h : 13 ≡ q = cc in
          rw (w, ← h, read_from)
      go true w pass f = refusal q 0 (sym (rw (w, f) at e))
      go true w (refuse u v) f =
          let g : refuse u v ≡ refuse q 0 = rw (w, f) at e in
          let h : u ≡ q = cc in
          rw (w, f, ← h, read_from)

  pub reads_on : slip_asked j wide (windows table) list stop p left ≡ pass →
      (read_from j wide list stop (suc left) i p last c table ≡ read_from j wide list stop left (i + 1) (p + slip_length (premise_count list p)) p (is_conflict (slip_at list p)) (applied table (slip_at list p))) × (asked ≡ pass)
  unfolding read_from reading
  reads_on e = go (whole list stop p) refl asked refl
    where
      go : (b : Bool) → whole list stop p ≡ b → (k : Check) → asked ≡ k →
          (read_from j wide list stop (suc left) i p last c table ≡ read_from j wide list stop left (i + 1) (p + slip_length (premise_count list p)) p (is_conflict (slip_at list p)) (applied table (slip_at list p))) × (asked ≡ pass)
      go false w k f = refusal 13 0 (rw w at e)
      go true w pass f = (rw (w, f, read_from), f)
      go true w (refuse u v) f = refusal u v (rw (w, f) at e)
