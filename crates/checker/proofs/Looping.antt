-- The reader's loop over the slips: where it stands, and that it goes as the definition reads.
-- Assumes nothing.
use mathlib.Core.Path.{◌≡◌, refl, sym, ap, ◌∙◌}
use mathlib.Core.Bool.{Bool, true, false, cond}
use mathlib.Core.List.{List}
use Prim.Native.Nat.{ℕ, suc, ◌+◌, ◌-◌, ◌*◌, ◌<◌, ◌≤◌}
use native.Mathlib.Omega.{arith}
use lib.IntN.{ℤ, pos, negsuc}
use lib.ListN.{length}
use Rattle.std.specs.Prelude.{Result, Ok, Err, MatchResult, IsErrAnd}
use Rattle.questions.specs.Numbers.{number_of}
use Rattle.questions.specs.declared.Question.{Question}
use lib.Signed.{◌≤ℤ◌}
use Rattle.integers.proofs.Linear.{ints}
use Rattle.model.specs.Job.{End, t_min, t_max, h_min, h_max, Windows, windows, sent, widest, produces, consumes, Job, events}
use Rattle.model.specs.Standing.{Sane, Standing}
use Rattle.model.specs.Slips.{slip_at}
use Rattle.model.specs.Questions.{pass, refuse, ◌then◌, ask}
use Rattle.model.specs.Reader.{whole, read_from}
use Rattle.model.proofs.Order.{inside_refl}
use Rattle.model.proofs.Levels.{kind_kept}
use Rattle.model.proofs.Agree.{Agree, slip_questions_agree}
use Rattle.model.proofs.Ranges.{end_range}
use Rattle.model.proofs.Accepted.{passed, passed_standing}
use Rattle.tables.specs.Board.{board, table_of}
use Rattle.tables.proofs.Boarding.{windows_board, length_table}
use Rattle.judging.specs.Ready.{job_of, ReadyFor}
use Rattle.judging.specs.Wide.{opened}
use Rattle.judging.specs.declared.Call.{Call}
use Rattle.checker.specs.Turns.{slip_asked, Stepped, Called}
use Rattle.checker.specs.declared.Tail.{Tail}
use Rattle.checker.proofs.Turning.{reads_off, reads_on}

-- The loop over n events' windows stands at slip i, behind those that left the tail t: what is left to read from here is the whole reading.
pub record At (n : ℕ) (j : Job) (list : List ℤ) (stop count : ℕ) (b : List ℤ) (i : ℕ) (t : Tail) : Type 0 where
  pub before_stop : t.after ≤ stop
  pub last_in : t.last ≤ stop
  pub standing : Standing j (windows (table_of n j.window_table b))
  pub same : read_from j (widest j) list stop (count - i) i t.after t.last t.conflict (table_of n j.window_table b) ≡ read_from j (widest j) list stop count 0 0 0 false j.window_table

-- ---- the widest windows

widest_is : (j : Job) (W : Windows) (y : ℕ) (k : End) → W y h_max ≡ sent j y h_max → opened j.horizon W y k ≡ widest j y k
widest_is j W y t_min e = refl
widest_is j W y t_max e = refl
widest_is j W y h_min e = rw e
widest_is j W y h_max e = rw e

-- They stand, too: so their ends are in range.
widest_stands : {j : Job} → Sane j → Standing j (widest j)
widest_stands {j} s = record { within = inside_refl (events j) (widest j); times = λ y l. s.horizon_low; heights = λ y l. go (produces (sent j y h_max)) (consumes (sent j y h_max)) }
  where
    go : (p q : Bool) → cond p (pos 1) (cond q (negsuc 9998) (pos 0)) ≤ℤ cond p (pos 9999) (cond q (negsuc 0) (pos 0))
    go true q = omega ints
    go false true = omega ints
    go false false = omega ints

-- ---- the loop

module _ {c : Call} {b₀ : List ℤ} (call : Called c b₀) where
  abbrev n : ℕ
  n = c.job.events

  abbrev j : Job
  j = job_of c

  abbrev table : List ℤ
  table = c.table.now

  abbrev wide : List ℤ
  wide = c.wide.now.words

  abbrev sane : Sane j
  sane = call.seated.sane

  count_is : events j ≡ n
  count_is = omega (arith, call.seated.long)

  on_board : (b : List ℤ) → Agree n (board b) (windows (table_of n table b))
  on_board b y l i = sym (windows_board n table b y i l)

  sent_here : (y : ℕ) → y < n → board b₀ y h_max ≡ sent j y h_max
  sent_here y l = on_board b₀ y l h_max ∙ ap (λ (t : List ℤ). windows t y h_max) call.loaded.is

  opened_wide : Agree n (board wide) (widest j)
  opened_wide y l i = call.opened.is y l i ∙ widest_is j (board b₀) y i (sent_here y l)

  -- The job's events are those on the board.
  there : {y : ℕ} → y < n → y < events j
  there l = rw count_is l

  -- Windows that stand show the deliveries sent in.
  kept : {W : Windows} → Standing j W → (y : ℕ) → y < n → produces (W y h_max) ≡ produces (sent j y h_max)
  kept {W} s y l = kind_kept j W s.within s.heights y (there l)

  pub begins : {list : List ℤ} {stop count : ℕ} → At n j list stop count b₀ 0 (record { after = 0; last = 0; conflict = false })
  begins {count = count} =
      let i : count - 0 ≡ count = omega arith in
      record {
        before_stop = omega arith;
        last_in = omega arith;
        standing = rw call.loaded.is call.standing;
        same = rw (i, call.loaded.is);
      }

  module _ {list : List ℤ} {stop count : ℕ} {b : List ℤ} {i : ℕ} {t : Tail} (here : At n j list stop count b i t) where
    pub ready : ReadyFor c b
    ready =
        let few = rw count_is at sane.few_events in
        record {
          seated = call.seated;
          wide_range = record { few = few; range = λ y l e. rw (opened_wide y l e) (end_range sane (widest_stands sane) y (there l) e) };
          range = record { few = few; range = λ y l e. rw (on_board b y l e) (end_range sane here.standing y (there l) e) };
          inside = record { inside = λ y l e. rw (opened_wide y l e, on_board b y l e) (here.standing.within.inside y (there l) e) };
          wide_kinds = λ y l. ap produces (opened_wide y l h_max) ∙ kept (widest_stands sane) y l;
          kinds = λ y l. ap produces (on_board b y l h_max) ∙ kept here.standing y l;
        }

    same_asked : (left : ℕ) → slip_asked j (board wide) (board b) list stop t.after left ≡ slip_asked j (widest j) (windows (table_of n table b)) list stop t.after left
    same_asked left =
        ap (λ c. ask 13 (whole list stop t.after) then c)
        (slip_questions_agree j (board wide) (widest j) (board b) (windows (table_of n table b)) (rw count_is opened_wide) (rw count_is (on_board b)) sane (slip_at list t.after) left)

    one_more : i < count → count - i ≡ suc (count - i - 1)
    one_more l = omega arith

    pub refuses : (q : Question) → i < count → slip_asked j (board wide) (board b) list stop t.after (count - i - 1) ≡ refuse (number_of q) 0 →
        (read_from j (widest j) list stop count 0 0 0 false j.window_table).check ≡ refuse (number_of q) i
    refuses q l e =
        rw (← here.same, one_more l) (reads_off j (widest j) list stop i t.after t.last t.conflict (table_of n table b) (count - i - 1) (number_of q) (sym (same_asked (count - i - 1)) ∙ e))

    pub goes_on : {b' : List ℤ} {t' : Tail} → i < count → Stepped c list stop t.after (count - i - 1) b b' (Ok t') →
        At n j list stop count b' (i + 1) t'
    goes_on l e =
        let left = count - i - 1 in
        let x = slip_at list t.after in
        let r = reads_on j (widest j) list stop i t.after t.last t.conflict (table_of n table b) left (sym (same_asked left) ∙ e.0) in
        let m : count - (i + 1) ≡ left = omega arith in
        let long : length (table_of n table b) ≡ 5 * events j = length_table n table b ∙ rw count_is in
        let q = passed_standing j (widest j) (table_of n table b) x left long here.standing (passed j (widest j) (windows (table_of n table b)) x left r.1) in
        record {
          before_stop = e.5;
          last_in = rw e.2 here.before_stop;
          standing = rw e.4 q;
          same = rw (m, e.4, e.3, e.2, e.1, ← r.0, ← one_more l) here.same;
        }

    pub finishes : count ≤ i →
        read_from j (widest j) list stop count 0 0 0 false j.window_table
        ≡ record { check = pass; conflicting = t.conflict; table = table_of n table b; after = t.after; last = t.last }
    unfolding read_from
    finishes l = let m : count - i ≡ 0 = omega arith in sym here.same ∙ rw m

-- ---- what `map_err` made of a result

module _ {T D E : Type 0} (P : D → E → Type 0) (m : Result T E) where
  pub err_mapped : (r : Result T D) {e : E} → MatchResult r (λ x. m ≡ Ok x) (λ d. IsErrAnd m (P d)) → m ≡ Err e → (d : D) × (r ≡ Err d) × P d e
  err_mapped (Ok x) h f = let g = sym f ∙ h in cc
  err_mapped (Err d) h f = (d, refl, rw f at h)

  pub ok_mapped : (r : Result T D) {x : T} → MatchResult r (λ x. m ≡ Ok x) (λ d. IsErrAnd m (P d)) → m ≡ Ok x → r ≡ Ok x
  ok_mapped (Ok y) h f = cc
  ok_mapped (Err d) h f = absurd (rw f at h)
