-- The reader's whole call: its questions up to 12, all slips, question 19, and the windows stored.
-- Assumes nothing.
use mathlib.Core.Path.{◌≡◌, refl, sym, ◌∙◌}
use mathlib.Core.Bool.{Bool, true, false}
use mathlib.Core.List.{List}
use Prim.Native.Nat.{ℕ, ◌+◌, ◌-◌, ◌*◌, ◌/◌, ◌≤◌}
use native.Mathlib.Omega.{arith}
use lib.IntN.{ℤ, pos, nat_abs}
use Rattle.std.specs.Prelude.{Result, Ok, Err}
use lib.ListN.{length, take}
use Rattle.std.proofs.lemmas.List.{length-take-le}
use Rattle.checker.proofs.Cutting.{same_read}
use lib.Signed.{le_z}
use Rattle.integers.specs.Range.{eq_z}
use Rattle.integers.proofs.Tests.{and_out, true_is}
use Rattle.model.specs.Job.{widest, Job}
use Rattle.model.specs.Slips.{at}
use Rattle.model.specs.Questions.{pass, refuse, questions}
use Rattle.model.specs.Reader.{stop_of, counted, marked, ends_right, read_from, read_all, judged, check}
use Rattle.model.specs.Reader as model
use Rattle.model.proofs.Questions.{Asked, asked}
use Rattle.tables.specs.Board.{board, table_of, WindowTable, Loaded}
use Rattle.tables.specs.Job.{OfCage, call}
use Rattle.questions.specs.declared.Refusal.{Refusal}
use Rattle.judging.specs.Ready.{job_of}
use Rattle.judging.specs.Wide.{Wide}
use Rattle.judging.specs.declared.Call.{Call}
use Rattle.checker.specs.Turns.{Called, Ends}
use Rattle.questions.specs.Numbers.{number_of}
use Rattle.checker.specs.Judgement.{reply_of, left_by, closing_reply, Passing, Trailed, Judges}
use Rattle.checker.specs.declared.Tail.{Tail}
use Rattle.checker.specs.declared.Judgement.{Judgement}
use Rattle.checker.specs.declared.Judgement.TheVariants.{Open, Conflict}

-- ---- the judgement on a reading

module _ (c : Call) (list b' : List ℤ) where
  abbrev n : ℕ
  n = c.job.events

  abbrev j : Job
  j = job_of c

  abbrev table : List ℤ
  table = c.table.now

  abbrev reading_over : model.Read
  reading_over = read_from j (widest j) list (stop_of list) (nat_abs (counted list)) 0 0 0 false table

  -- What reading the words before the trailer leaves is what reading the list leaves.
  pub cut_ends : (r : Result Tail Refusal) → Ends c (read_from j (widest j) (take (length list - 3) list) (length (take (length list - 3) list)) (nat_abs (counted list)) 0 0 0 false table) b' (length (take (length list - 3) list)) r →
      Ends c reading_over b' (stop_of list) r
  cut_ends r e =
      let long : length (take (length list - 3) list) ≡ stop_of list = length-take-le (length list - 3) list (omega arith) in
      rw (long, same_read list (stop_of list) j (widest j) (nat_abs (counted list)) 0 0 0 false table) at e

  -- All slips read: question 19 decides, and the windows left follow it.
  closed : (t : Tail) (c : Bool) → ends_right list t.after t.last ≡ c → (v : Result Judgement Refusal) → reply_of v ≡ closing_reply list t →
      Judges (judged j list (record { check = pass; conflicting = t.conflict; table = table_of n table b'; after = t.after; last = t.last })) (left_by v (table_of n table b') table) v
  closed t true e (Ok v) g = record { answer = g ∙ rw (judged, e) refl; windows = rw (judged, e) refl }
  closed t false e (Ok Open) g = let h = rw e at g in cc
  closed t false e (Ok Conflict) g = let h = rw e at g in cc
  closed t true e (Err r) g = let h = rw e at g in cc
  closed t false e (Err r) g = record { answer = g ∙ rw (judged, e) refl; windows = rw (judged, e) refl }

  -- A refused slip: no window is left narrowed.
  pub judges_cut : {q : Refusal} → reading_over.check ≡ refuse (number_of q.question) q.place → Judges (judged j list (read_all j list)) table (Err q)
  unfolding read_all
  judges_cut g = record { answer = rw (judged, g) refl; windows = rw (judged, g) refl }

  pub judges_all : {t : Tail} {v : Result Judgement Refusal} → Ends c reading_over b' (stop_of list) (Ok t) → reply_of v ≡ closing_reply list t → Judges (judged j list (read_all j list)) (left_by v (table_of n table b') table) v
  unfolding read_all
  judges_all {t} {v} e g = rw e.0 (closed t _ refl v g)

-- ---- the call read

module _ {h : ℤ} {cs table ws gs list : List ℤ} (p : Passing h cs table ws gs list) where
  facts : Asked (call h cs table ws gs) (length list)
  facts = asked (call h cs table ws gs) (length list) p.asked

  pub trailer_right : Trailed list
  trailer_right =
      record {
        room = facts.room_low;
        short = facts.room_high;
        sign = (and_out (eq_z (at list (stop_of list + 2)) (pos 4207)) (le_z (pos 0) (counted list)) (true_is p.trailer)).1;
      }

  pub some_cage : 4 ≤ length cs
  some_cage = let l = facts.sane.some_cage in omega arith

  pub few : length table / 5 ≤ 64
  few = facts.sane.few_events

  whole_events : length table ≡ 5 * (length table / 5)
  whole_events = facts.whole_events

  pub window_table : WindowTable table
  window_table = record { few = few; whole = whole_events }

  pub called : {c : Call} {b : List ℤ} → c.cages.now ≡ cs → c.table.now ≡ table → c.lags.now ≡ ws → c.sets.now ≡ gs → OfCage h cs 0 (length table / 5) c.job →
      Loaded (length table / 5) table b → Wide c.job.events c.job.horizon.0 (board b) c.wide.now.words → Called c b
  called f g i k o l w =
      let e = o.horizon_is in
      let m = o.events_are in
      record {
        seated = record { sane = rw (e, f, g, i, k) facts.sane; first = rw f (sym o.reservoir_is); long = rw (g, m) whole_events };
        standing = rw (e, f, g, i, k) facts.standing;
        loaded = rw (g, m) l;
        opened = w;
      }

-- ---- the questions up to 12

pub room_there : (j : Job) (list : List ℤ) → pass ≡ questions j (length list) → 3 ≤ length list
room_there j list e = (asked j (length list) (sym e)).room_low
