-- The papers' cases with P (document 01: K1 to K10; document 02: cover, cages, sets, the round limit): one listing of inputs and expected words, K1's text and what is printed of it too, one statement that the definitions give them, proved by computation.
-- By its name it is checked before all other proofs: a definition that is changed is told first by the words that it gives.
-- Assumes nothing.
use mathlib.Core.Path.{◌≡◌, refl}
use mathlib.Core.List.{List, [], ◌∷◌}
use Prim.Native.Nat.{ℕ, zero, suc}
use Prim.Native.String.{String}
use lib.IntN.{ℤ, pos, neg_ℤ}
use lib.ListN.{take, length}
use Rattle.integers.specs.Sum.{sum}
use Rattle.model.specs.Job.{windows, Job, any, every, begun, set_begin}
use Rattle.model.specs.Levels.{most_in, sure_part}
use Rattle.model.specs.Rules.{earliest, finding, others}
use Rattle.model.specs.Facts.{quotes, quoted}
use Rattle.model.specs.Slips.{premise_words, slip_words, premise_list, premises_at, slip_at}
use Rattle.model.specs.Agenda.{agenda, each_of}
use Rattle.model.specs.Rounds.{settled, conflict, stopped, still_open, acted, attempt, run, made}
use Rattle.model.specs.Questions.{each, questions, own_questions, plan_questions}
use Rattle.model.specs.Planner.{Reply, refused, done, Outcome, plan}
use Rattle.model.specs.Reader.{whole, reading, premises_fit, names, all_true, narrowed, gives, slip_questions, read_from, read_all, check}
use Rattle.model.specs.Text.{bytes, digits_value, numbers_behind, next_sets, job_of, job_text}
use Rattle.model.specs.Print.{last_digits, numeral, integer, line_of, event_lines}
use Rattle.model.specs.Program.{slip_room, program}

-- ---- a case

-- The planner's with its round limit, the reader's.
pub data Call : Type 0 where
  planner : ℤ → Call
  reader : Call

pub record Case : Type 0 where
  pub call : Call
  pub job : Job
  pub buffer : List ℤ
  pub reply : Reply
  pub table_left : List ℤ
  pub buffer_left : List ℤ
  -- the words that the papers print of the list, from its first word on
  pub printed : List ℤ

abbrev pub outcome : Case → Outcome
outcome c = go c.call
  where
    go : Call → Outcome
    go (planner limit) = plan c.job limit c.buffer
    go reader = check c.job c.buffer

abbrev pub expected : Case → Outcome
expected c = record { reply = c.reply; table = c.table_left; buffer = c.buffer_left }

-- A word below 0; words that a buffer held before.
abbrev pub neg : ℕ → ℤ
neg n = neg_ℤ (pos n)

abbrev pub blank : ℕ → List ℤ
blank zero = []
blank (suc n) = pos 77 ∷ blank n

-- Horizon, cage table, window table, lag table, set table.
abbrev pub job : ℤ → List ℤ → List ℤ → List ℤ → List ℤ → Job
job h cages table lags sets =
    record { horizon = h; cage_table = cages; window_table = table; lag_table = lags; set_table = sets }

-- "H 100, Lmin 0, Lmax 10, no lags unless said", one cage, cover 1, no sets: Q, the window table, the lag table.
abbrev pub standard : ℤ → List ℤ → List ℤ → Job
standard q table lags = job (pos 100) (pos 0 ∷ pos 10 ∷ q ∷ pos 1 ∷ []) table lags []

-- ---- the cases

-- K1: Q 0; 5..40 / 6..6; 0..30 / −4..−4: settled 1 2. Words after the trailer keep what they held.
abbrev pub k1 : Case
k1 =
    record {
      call = planner (pos 0);
      job = standard (pos 0) (pos 5 ∷ pos 40 ∷ pos 6 ∷ pos 6 ∷ pos 0 ∷ pos 0 ∷ pos 30 ∷ neg 4 ∷ neg 4 ∷ pos 0 ∷ []) [];
      buffer = blank 18;
      reply = done settled 1 2 16;
      table_left = pos 5 ∷ pos 40 ∷ pos 6 ∷ pos 6 ∷ pos 0 ∷ pos 5 ∷ pos 30 ∷ neg 4 ∷ neg 4 ∷ pos 0 ∷ [];
      buffer_left = pos 10 ∷ pos 1 ∷ pos 1 ∷ pos 1 ∷ pos 5 ∷ pos 2 ∷ pos 0 ∷ pos 1 ∷ pos 5 ∷ pos 1 ∷ pos 4 ∷ neg 4 ∷ pos 13 ∷ pos 1 ∷ pos 0 ∷ pos 4207 ∷ pos 77 ∷ pos 77 ∷ [];
      printed = pos 10 ∷ pos 1 ∷ pos 1 ∷ pos 1 ∷ pos 5 ∷ pos 2 ∷ pos 0 ∷ pos 1 ∷ pos 5 ∷ pos 1 ∷ pos 4 ∷ neg 4 ∷ pos 13 ∷ pos 1 ∷ pos 0 ∷ pos 4207 ∷ [];
    }

-- K2: K1 with 15 words of room: stopped, 0 slips, 1 round.
abbrev pub k2 : Case
k2 =
    record {
      call = planner (pos 0);
      job = standard (pos 0) (pos 5 ∷ pos 40 ∷ pos 6 ∷ pos 6 ∷ pos 0 ∷ pos 0 ∷ pos 30 ∷ neg 4 ∷ neg 4 ∷ pos 0 ∷ []) [];
      buffer = blank 15;
      reply = done stopped 0 1 3;
      table_left = pos 5 ∷ pos 40 ∷ pos 6 ∷ pos 6 ∷ pos 0 ∷ pos 0 ∷ pos 30 ∷ neg 4 ∷ neg 4 ∷ pos 0 ∷ [];
      buffer_left = pos 0 ∷ pos 0 ∷ pos 4207 ∷ blank 12;
      printed = pos 0 ∷ pos 0 ∷ pos 4207 ∷ [];
    }

-- K3: Q 0, no events: settled, 0 slips, 1 round.
abbrev pub k3 : Case
k3 =
    record {
      call = planner (pos 0);
      job = standard (pos 0) [] [];
      buffer = blank 3;
      reply = done settled 0 1 3;
      table_left = [];
      buffer_left = pos 0 ∷ pos 0 ∷ pos 4207 ∷ [];
      printed = [];
    }

-- K4: Q 3; 0..30 / −4..−4: conflict.
abbrev pub k4 : Case
k4 =
    record {
      call = planner (pos 0);
      job = standard (pos 3) (pos 0 ∷ pos 30 ∷ neg 4 ∷ neg 4 ∷ pos 0 ∷ []) [];
      buffer = blank 16;
      reply = done conflict 1 1 13;
      table_left = pos 0 ∷ pos 30 ∷ neg 4 ∷ neg 4 ∷ pos 0 ∷ [];
      buffer_left = pos 9 ∷ pos 0 ∷ pos 0 ∷ pos 0 ∷ pos 0 ∷ pos 1 ∷ pos 0 ∷ pos 4 ∷ neg 4 ∷ pos 10 ∷ pos 1 ∷ pos 0 ∷ pos 4207 ∷ blank 3;
      printed = pos 9 ∷ pos 0 ∷ pos 0 ∷ pos 0 ∷ pos 0 ∷ pos 1 ∷ pos 0 ∷ pos 4 ∷ neg 4 ∷ pos 10 ∷ [];
    }

-- K4 with Q 4: settled.
abbrev pub k4_settled : Case
k4_settled =
    record {
      call = planner (pos 0);
      job = standard (pos 4) (pos 0 ∷ pos 30 ∷ neg 4 ∷ neg 4 ∷ pos 0 ∷ []) [];
      buffer = blank 16;
      reply = done settled 0 1 3;
      table_left = pos 0 ∷ pos 30 ∷ neg 4 ∷ neg 4 ∷ pos 0 ∷ [];
      buffer_left = pos 0 ∷ pos 0 ∷ pos 4207 ∷ blank 13;
      printed = [];
    }

-- K5: Q 5; 0..30 / −9..−2.
abbrev pub k5 : Case
k5 =
    record {
      call = planner (pos 0);
      job = standard (pos 5) (pos 0 ∷ pos 30 ∷ neg 9 ∷ neg 2 ∷ pos 0 ∷ []) [];
      buffer = blank 16;
      reply = done settled 1 2 10;
      table_left = pos 0 ∷ pos 30 ∷ neg 5 ∷ neg 2 ∷ pos 0 ∷ [];
      buffer_left = pos 11 ∷ pos 0 ∷ pos 0 ∷ pos 3 ∷ neg 5 ∷ pos 0 ∷ pos 7 ∷ pos 1 ∷ pos 0 ∷ pos 4207 ∷ blank 6;
      printed = pos 11 ∷ pos 0 ∷ pos 0 ∷ pos 3 ∷ neg 5 ∷ pos 0 ∷ pos 7 ∷ [];
    }

-- K6: Q 0; 0..30 / 7..20.
abbrev pub k6 : Case
k6 =
    record {
      call = planner (pos 0);
      job = standard (pos 0) (pos 0 ∷ pos 30 ∷ pos 7 ∷ pos 20 ∷ pos 0 ∷ []) [];
      buffer = blank 16;
      reply = done settled 1 2 10;
      table_left = pos 0 ∷ pos 30 ∷ pos 7 ∷ pos 10 ∷ pos 0 ∷ [];
      buffer_left = pos 14 ∷ pos 0 ∷ pos 0 ∷ pos 4 ∷ pos 10 ∷ pos 0 ∷ pos 7 ∷ pos 1 ∷ pos 0 ∷ pos 4207 ∷ blank 6;
      printed = pos 14 ∷ pos 0 ∷ pos 0 ∷ pos 4 ∷ pos 10 ∷ pos 0 ∷ pos 7 ∷ [];
    }

-- K6 with 11..20: conflict.
abbrev pub k6_conflict : Case
k6_conflict =
    record {
      call = planner (pos 0);
      job = standard (pos 0) (pos 0 ∷ pos 30 ∷ pos 11 ∷ pos 20 ∷ pos 0 ∷ []) [];
      buffer = blank 16;
      reply = done conflict 1 1 13;
      table_left = pos 0 ∷ pos 30 ∷ pos 11 ∷ pos 20 ∷ pos 0 ∷ [];
      buffer_left = pos 12 ∷ pos 0 ∷ pos 0 ∷ pos 0 ∷ pos 0 ∷ pos 1 ∷ pos 0 ∷ pos 3 ∷ pos 11 ∷ pos 10 ∷ pos 1 ∷ pos 0 ∷ pos 4207 ∷ blank 3;
      printed = pos 12 ∷ pos 0 ∷ pos 0 ∷ pos 0 ∷ pos 0 ∷ pos 1 ∷ pos 0 ∷ pos 3 ∷ pos 11 ∷ pos 10 ∷ [];
    }

-- K7: Q 0; 7..7 / 6..6; 7..7 / −4..−4: settled, no slip.
abbrev pub k7 : Case
k7 =
    record {
      call = planner (pos 0);
      job = standard (pos 0) (pos 7 ∷ pos 7 ∷ pos 6 ∷ pos 6 ∷ pos 0 ∷ pos 7 ∷ pos 7 ∷ neg 4 ∷ neg 4 ∷ pos 0 ∷ []) [];
      buffer = blank 16;
      reply = done settled 0 1 3;
      table_left = pos 7 ∷ pos 7 ∷ pos 6 ∷ pos 6 ∷ pos 0 ∷ pos 7 ∷ pos 7 ∷ neg 4 ∷ neg 4 ∷ pos 0 ∷ [];
      buffer_left = pos 0 ∷ pos 0 ∷ pos 4207 ∷ blank 13;
      printed = [];
    }

-- K8: Q 0; 0..10 / 0..0; 0..6 / 0..0; lag 0, 1, −2.
abbrev pub k8 : Case
k8 =
    record {
      call = planner (pos 0);
      job = standard (pos 0) (pos 0 ∷ pos 10 ∷ pos 0 ∷ pos 0 ∷ pos 0 ∷ pos 0 ∷ pos 6 ∷ pos 0 ∷ pos 0 ∷ pos 0 ∷ []) (pos 0 ∷ pos 1 ∷ neg 2 ∷ []);
      buffer = blank 24;
      reply = done settled 2 2 23;
      table_left = pos 0 ∷ pos 4 ∷ pos 0 ∷ pos 0 ∷ pos 0 ∷ pos 2 ∷ pos 6 ∷ pos 0 ∷ pos 0 ∷ pos 0 ∷ [];
      buffer_left = pos 1 ∷ pos 0 ∷ pos 0 ∷ pos 2 ∷ pos 4 ∷ pos 1 ∷ pos 1 ∷ pos 2 ∷ pos 6 ∷ pos 10 ∷ pos 2 ∷ pos 0 ∷ pos 1 ∷ pos 1 ∷ pos 2 ∷ pos 1 ∷ pos 0 ∷ pos 1 ∷ pos 0 ∷ pos 10 ∷ pos 2 ∷ pos 10 ∷ pos 4207 ∷ pos 77 ∷ [];
      printed = pos 1 ∷ pos 0 ∷ pos 0 ∷ pos 2 ∷ pos 4 ∷ pos 1 ∷ pos 1 ∷ pos 2 ∷ pos 6 ∷ pos 10 ∷ pos 2 ∷ pos 0 ∷ pos 1 ∷ pos 1 ∷ pos 2 ∷ pos 1 ∷ pos 0 ∷ pos 1 ∷ pos 0 ∷ pos 10 ∷ [];
    }

-- K1's list is accepted.
abbrev pub k1_read : Case
k1_read =
    record {
      call = reader;
      job = standard (pos 0) (pos 5 ∷ pos 40 ∷ pos 6 ∷ pos 6 ∷ pos 0 ∷ pos 0 ∷ pos 30 ∷ neg 4 ∷ neg 4 ∷ pos 0 ∷ []) [];
      buffer = pos 10 ∷ pos 1 ∷ pos 1 ∷ pos 1 ∷ pos 5 ∷ pos 2 ∷ pos 0 ∷ pos 1 ∷ pos 5 ∷ pos 1 ∷ pos 4 ∷ neg 4 ∷ pos 13 ∷ pos 1 ∷ pos 0 ∷ pos 4207 ∷ [];
      reply = done still_open 0 0 0;
      table_left = pos 5 ∷ pos 40 ∷ pos 6 ∷ pos 6 ∷ pos 0 ∷ pos 5 ∷ pos 30 ∷ neg 4 ∷ neg 4 ∷ pos 0 ∷ [];
      buffer_left = pos 10 ∷ pos 1 ∷ pos 1 ∷ pos 1 ∷ pos 5 ∷ pos 2 ∷ pos 0 ∷ pos 1 ∷ pos 5 ∷ pos 1 ∷ pos 4 ∷ neg 4 ∷ pos 13 ∷ pos 1 ∷ pos 0 ∷ pos 4207 ∷ [];
      printed = [];
    }

-- K9: K1's list with value 6: 16.
abbrev pub k9_strict : Case
k9_strict =
    record {
      call = reader;
      job = standard (pos 0) (pos 5 ∷ pos 40 ∷ pos 6 ∷ pos 6 ∷ pos 0 ∷ pos 0 ∷ pos 30 ∷ neg 4 ∷ neg 4 ∷ pos 0 ∷ []) [];
      buffer = pos 10 ∷ pos 1 ∷ pos 1 ∷ pos 1 ∷ pos 6 ∷ pos 2 ∷ pos 0 ∷ pos 1 ∷ pos 5 ∷ pos 1 ∷ pos 4 ∷ neg 4 ∷ pos 13 ∷ pos 1 ∷ pos 0 ∷ pos 4207 ∷ [];
      reply = refused 16 0;
      table_left = pos 5 ∷ pos 40 ∷ pos 6 ∷ pos 6 ∷ pos 0 ∷ pos 0 ∷ pos 30 ∷ neg 4 ∷ neg 4 ∷ pos 0 ∷ [];
      buffer_left = pos 10 ∷ pos 1 ∷ pos 1 ∷ pos 1 ∷ pos 6 ∷ pos 2 ∷ pos 0 ∷ pos 1 ∷ pos 5 ∷ pos 1 ∷ pos 4 ∷ neg 4 ∷ pos 13 ∷ pos 1 ∷ pos 0 ∷ pos 4207 ∷ [];
      printed = [];
    }

-- K9: value 4: accepted, window 4..30.
abbrev pub k9_weak : Case
k9_weak =
    record {
      call = reader;
      job = standard (pos 0) (pos 5 ∷ pos 40 ∷ pos 6 ∷ pos 6 ∷ pos 0 ∷ pos 0 ∷ pos 30 ∷ neg 4 ∷ neg 4 ∷ pos 0 ∷ []) [];
      buffer = pos 10 ∷ pos 1 ∷ pos 1 ∷ pos 1 ∷ pos 4 ∷ pos 2 ∷ pos 0 ∷ pos 1 ∷ pos 5 ∷ pos 1 ∷ pos 4 ∷ neg 4 ∷ pos 13 ∷ pos 1 ∷ pos 0 ∷ pos 4207 ∷ [];
      reply = done still_open 0 0 0;
      table_left = pos 5 ∷ pos 40 ∷ pos 6 ∷ pos 6 ∷ pos 0 ∷ pos 4 ∷ pos 30 ∷ neg 4 ∷ neg 4 ∷ pos 0 ∷ [];
      buffer_left = pos 10 ∷ pos 1 ∷ pos 1 ∷ pos 1 ∷ pos 4 ∷ pos 2 ∷ pos 0 ∷ pos 1 ∷ pos 5 ∷ pos 1 ∷ pos 4 ∷ neg 4 ∷ pos 13 ∷ pos 1 ∷ pos 0 ∷ pos 4207 ∷ [];
      printed = [];
    }

-- K9: first fact 0 1 6: 15.
abbrev pub k9_false : Case
k9_false =
    record {
      call = reader;
      job = standard (pos 0) (pos 5 ∷ pos 40 ∷ pos 6 ∷ pos 6 ∷ pos 0 ∷ pos 0 ∷ pos 30 ∷ neg 4 ∷ neg 4 ∷ pos 0 ∷ []) [];
      buffer = pos 10 ∷ pos 1 ∷ pos 1 ∷ pos 1 ∷ pos 5 ∷ pos 2 ∷ pos 0 ∷ pos 1 ∷ pos 6 ∷ pos 1 ∷ pos 4 ∷ neg 4 ∷ pos 13 ∷ pos 1 ∷ pos 0 ∷ pos 4207 ∷ [];
      reply = refused 15 0;
      table_left = pos 5 ∷ pos 40 ∷ pos 6 ∷ pos 6 ∷ pos 0 ∷ pos 0 ∷ pos 30 ∷ neg 4 ∷ neg 4 ∷ pos 0 ∷ [];
      buffer_left = pos 10 ∷ pos 1 ∷ pos 1 ∷ pos 1 ∷ pos 5 ∷ pos 2 ∷ pos 0 ∷ pos 1 ∷ pos 6 ∷ pos 1 ∷ pos 4 ∷ neg 4 ∷ pos 13 ∷ pos 1 ∷ pos 0 ∷ pos 4207 ∷ [];
      printed = [];
    }

-- K10: H 20,001 and Q 11: 1.
abbrev pub k10_horizon : Case
k10_horizon =
    record {
      call = planner (pos 0);
      job = job (pos 20001) (pos 0 ∷ pos 10 ∷ pos 11 ∷ pos 1 ∷ []) (pos 5 ∷ pos 40 ∷ pos 6 ∷ pos 6 ∷ pos 0 ∷ pos 0 ∷ pos 30 ∷ neg 4 ∷ neg 4 ∷ pos 0 ∷ []) [] [];
      buffer = blank 16;
      reply = refused 1 0;
      table_left = pos 5 ∷ pos 40 ∷ pos 6 ∷ pos 6 ∷ pos 0 ∷ pos 0 ∷ pos 30 ∷ neg 4 ∷ neg 4 ∷ pos 0 ∷ [];
      buffer_left = blank 16;
      printed = [];
    }

-- K10: H 20,000 and Q 11: 3.
abbrev pub k10_stock : Case
k10_stock =
    record {
      call = planner (pos 0);
      job = job (pos 20000) (pos 0 ∷ pos 10 ∷ pos 11 ∷ pos 1 ∷ []) (pos 5 ∷ pos 40 ∷ pos 6 ∷ pos 6 ∷ pos 0 ∷ pos 0 ∷ pos 30 ∷ neg 4 ∷ neg 4 ∷ pos 0 ∷ []) [] [];
      buffer = blank 16;
      reply = refused 3 0;
      table_left = pos 5 ∷ pos 40 ∷ pos 6 ∷ pos 6 ∷ pos 0 ∷ pos 0 ∷ pos 30 ∷ neg 4 ∷ neg 4 ∷ pos 0 ∷ [];
      buffer_left = blank 16;
      printed = [];
    }

-- K10: event 0 with amounts −1..1 and event 1 with t_min 5, t_max 4: refused 5, place 1.
abbrev pub k10_order : Case
k10_order =
    record {
      call = planner (pos 0);
      job = standard (pos 0) (pos 0 ∷ pos 30 ∷ neg 1 ∷ pos 1 ∷ pos 0 ∷ pos 5 ∷ pos 4 ∷ pos 1 ∷ pos 1 ∷ pos 0 ∷ []) [];
      buffer = blank 16;
      reply = refused 5 1;
      table_left = pos 0 ∷ pos 30 ∷ neg 1 ∷ pos 1 ∷ pos 0 ∷ pos 5 ∷ pos 4 ∷ pos 1 ∷ pos 1 ∷ pos 0 ∷ [];
      buffer_left = blank 16;
      printed = [];
    }

-- K1 under cover 0: the pull waits a minute longer.
abbrev pub k1_later : Case
k1_later =
    record {
      call = planner (pos 0);
      job = job (pos 100) (pos 0 ∷ pos 10 ∷ pos 0 ∷ pos 0 ∷ []) (pos 5 ∷ pos 40 ∷ pos 6 ∷ pos 6 ∷ pos 0 ∷ pos 0 ∷ pos 30 ∷ neg 4 ∷ neg 4 ∷ pos 0 ∷ []) [] [];
      buffer = blank 18;
      reply = done settled 1 2 16;
      table_left = pos 5 ∷ pos 40 ∷ pos 6 ∷ pos 6 ∷ pos 0 ∷ pos 6 ∷ pos 30 ∷ neg 4 ∷ neg 4 ∷ pos 0 ∷ [];
      buffer_left = pos 10 ∷ pos 1 ∷ pos 1 ∷ pos 1 ∷ pos 6 ∷ pos 2 ∷ pos 0 ∷ pos 1 ∷ pos 5 ∷ pos 1 ∷ pos 4 ∷ neg 4 ∷ pos 13 ∷ pos 1 ∷ pos 0 ∷ pos 4207 ∷ pos 77 ∷ pos 77 ∷ [];
      printed = pos 10 ∷ pos 1 ∷ pos 1 ∷ pos 1 ∷ pos 6 ∷ pos 2 ∷ pos 0 ∷ pos 1 ∷ pos 5 ∷ pos 1 ∷ pos 4 ∷ neg 4 ∷ pos 13 ∷ [];
    }

-- K7 under cover 0: conflict.
abbrev pub k7_later : Case
k7_later =
    record {
      call = planner (pos 0);
      job = job (pos 100) (pos 0 ∷ pos 10 ∷ pos 0 ∷ pos 0 ∷ []) (pos 7 ∷ pos 7 ∷ pos 6 ∷ pos 6 ∷ pos 0 ∷ pos 7 ∷ pos 7 ∷ neg 4 ∷ neg 4 ∷ pos 0 ∷ []) [] [];
      buffer = blank 22;
      reply = done conflict 1 1 19;
      table_left = pos 7 ∷ pos 7 ∷ pos 6 ∷ pos 6 ∷ pos 0 ∷ pos 7 ∷ pos 7 ∷ neg 4 ∷ neg 4 ∷ pos 0 ∷ [];
      buffer_left = pos 9 ∷ pos 0 ∷ pos 0 ∷ pos 0 ∷ pos 0 ∷ pos 3 ∷ pos 0 ∷ pos 1 ∷ pos 7 ∷ pos 1 ∷ pos 2 ∷ pos 7 ∷ pos 1 ∷ pos 4 ∷ neg 4 ∷ pos 16 ∷ pos 1 ∷ pos 0 ∷ pos 4207 ∷ blank 3;
      printed = pos 9 ∷ pos 0 ∷ pos 0 ∷ pos 0 ∷ pos 0 ∷ pos 3 ∷ pos 0 ∷ pos 1 ∷ pos 7 ∷ pos 1 ∷ pos 2 ∷ pos 7 ∷ pos 1 ∷ pos 4 ∷ neg 4 ∷ pos 16 ∷ [];
    }

-- Cover 2: 22.
abbrev pub cover_refused : Case
cover_refused =
    record {
      call = planner (pos 0);
      job = job (pos 100) (pos 0 ∷ pos 10 ∷ pos 0 ∷ pos 2 ∷ []) (pos 7 ∷ pos 7 ∷ pos 6 ∷ pos 6 ∷ pos 0 ∷ pos 7 ∷ pos 7 ∷ neg 4 ∷ neg 4 ∷ pos 0 ∷ []) [] [];
      buffer = blank 16;
      reply = refused 22 0;
      table_left = pos 7 ∷ pos 7 ∷ pos 6 ∷ pos 6 ∷ pos 0 ∷ pos 7 ∷ pos 7 ∷ neg 4 ∷ neg 4 ∷ pos 0 ∷ [];
      buffer_left = blank 16;
      printed = [];
    }

-- Cover 2 and Q 11: 3, which is asked first.
abbrev pub cover_last : Case
cover_last =
    record {
      call = reader;
      job = job (pos 100) (pos 0 ∷ pos 10 ∷ pos 11 ∷ pos 2 ∷ []) [] [] [];
      buffer = blank 3;
      reply = refused 3 0;
      table_left = [];
      buffer_left = blank 3;
      printed = [];
    }

-- Cover 2 and no whole event: 22, which is asked before 4.
abbrev pub cover_first : Case
cover_first =
    record {
      call = reader;
      job = job (pos 100) (pos 0 ∷ pos 10 ∷ pos 0 ∷ pos 2 ∷ []) (pos 7 ∷ []) [] [];
      buffer = blank 3;
      reply = refused 22 0;
      table_left = pos 7 ∷ [];
      buffer_left = blank 3;
      printed = [];
    }

-- K1 in cage 1, under cover 0, with a delivery of another cage between: it counts nowhere, is quoted nowhere and is no target.
abbrev pub two_cages : Case
two_cages =
    record {
      call = planner (pos 0);
      job = job (pos 100) (pos 0 ∷ pos 10 ∷ pos 0 ∷ pos 1 ∷ pos 0 ∷ pos 10 ∷ pos 0 ∷ pos 0 ∷ []) (pos 5 ∷ pos 40 ∷ pos 6 ∷ pos 6 ∷ pos 1 ∷ pos 0 ∷ pos 3 ∷ pos 9 ∷ pos 9 ∷ pos 0 ∷ pos 0 ∷ pos 30 ∷ neg 4 ∷ neg 4 ∷ pos 1 ∷ []) [] [];
      buffer = blank 18;
      reply = done settled 1 2 16;
      table_left = pos 5 ∷ pos 40 ∷ pos 6 ∷ pos 6 ∷ pos 1 ∷ pos 0 ∷ pos 3 ∷ pos 9 ∷ pos 9 ∷ pos 0 ∷ pos 6 ∷ pos 30 ∷ neg 4 ∷ neg 4 ∷ pos 1 ∷ [];
      buffer_left = pos 10 ∷ pos 2 ∷ pos 2 ∷ pos 1 ∷ pos 6 ∷ pos 2 ∷ pos 0 ∷ pos 1 ∷ pos 5 ∷ pos 2 ∷ pos 4 ∷ neg 4 ∷ pos 13 ∷ pos 1 ∷ pos 0 ∷ pos 4207 ∷ pos 77 ∷ pos 77 ∷ [];
      printed = pos 10 ∷ pos 2 ∷ pos 2 ∷ pos 1 ∷ pos 6 ∷ pos 2 ∷ pos 0 ∷ pos 1 ∷ pos 5 ∷ pos 2 ∷ pos 4 ∷ neg 4 ∷ pos 13 ∷ [];
    }

-- No cage: 29. A cage that its job has not: 30, naming the event.
abbrev pub no_cage : Case
no_cage =
    record {
      call = planner (pos 0);
      job = job (pos 100) [] (pos 7 ∷ pos 7 ∷ pos 6 ∷ pos 6 ∷ pos 0 ∷ pos 7 ∷ pos 7 ∷ neg 4 ∷ neg 4 ∷ pos 0 ∷ []) [] [];
      buffer = blank 16;
      reply = refused 29 0;
      table_left = pos 7 ∷ pos 7 ∷ pos 6 ∷ pos 6 ∷ pos 0 ∷ pos 7 ∷ pos 7 ∷ neg 4 ∷ neg 4 ∷ pos 0 ∷ [];
      buffer_left = blank 16;
      printed = [];
    }

-- Cage 1 of one: 30.
abbrev pub cage_unknown : Case
cage_unknown =
    record {
      call = planner (pos 0);
      job = standard (pos 0) (pos 7 ∷ pos 7 ∷ pos 6 ∷ pos 6 ∷ pos 0 ∷ pos 7 ∷ pos 7 ∷ neg 4 ∷ neg 4 ∷ pos 1 ∷ []) [];
      buffer = blank 16;
      reply = refused 30 1;
      table_left = pos 7 ∷ pos 7 ∷ pos 6 ∷ pos 6 ∷ pos 0 ∷ pos 7 ∷ pos 7 ∷ neg 4 ∷ neg 4 ∷ pos 1 ∷ [];
      buffer_left = blank 16;
      printed = [];
    }

-- Q 11 in cage 1: 3, naming the cage.
abbrev pub second_cage : Case
second_cage =
    record {
      call = planner (pos 0);
      job = job (pos 100) (pos 0 ∷ pos 10 ∷ pos 0 ∷ pos 1 ∷ pos 0 ∷ pos 10 ∷ pos 11 ∷ pos 1 ∷ []) (pos 7 ∷ pos 7 ∷ pos 6 ∷ pos 6 ∷ pos 0 ∷ pos 7 ∷ pos 7 ∷ neg 4 ∷ neg 4 ∷ pos 0 ∷ []) [] [];
      buffer = blank 16;
      reply = refused 3 1;
      table_left = pos 7 ∷ pos 7 ∷ pos 6 ∷ pos 6 ∷ pos 0 ∷ pos 7 ∷ pos 7 ∷ neg 4 ∷ neg 4 ∷ pos 0 ∷ [];
      buffer_left = blank 16;
      printed = [];
    }

-- Q 11 in cage 0 and Lmax 1,000,001 in cage 1: 2, which is asked of all cages before 3.
abbrev pub cage_by_cage : Case
cage_by_cage =
    record {
      call = reader;
      job = job (pos 100) (pos 0 ∷ pos 10 ∷ pos 11 ∷ pos 1 ∷ pos 0 ∷ pos 1000001 ∷ pos 0 ∷ pos 1 ∷ []) [] [] [];
      buffer = blank 3;
      reply = refused 2 1;
      table_left = [];
      buffer_left = blank 3;
      printed = [];
    }

-- Event 0 in a cage that its job has not and event 1 with amounts −1..1: 6, which is asked of all events before 30.
abbrev pub cage_last : Case
cage_last =
    record {
      call = reader;
      job = standard (pos 0) (pos 0 ∷ pos 5 ∷ pos 6 ∷ pos 6 ∷ pos 1 ∷ pos 0 ∷ pos 5 ∷ neg 1 ∷ pos 1 ∷ pos 0 ∷ []) [];
      buffer = blank 3;
      reply = refused 6 1;
      table_left = pos 0 ∷ pos 5 ∷ pos 6 ∷ pos 6 ∷ pos 1 ∷ pos 0 ∷ pos 5 ∷ neg 1 ∷ pos 1 ∷ pos 0 ∷ [];
      buffer_left = blank 3;
      printed = [];
    }

-- A set of two with total 10..11: rule 17 narrows the first member by the most of the other.
abbrev pub set_least_total : Case
set_least_total =
    record {
      call = planner (pos 0);
      job = job (pos 100) (pos 0 ∷ pos 1000 ∷ pos 0 ∷ pos 1 ∷ []) (pos 0 ∷ pos 10 ∷ pos 1 ∷ pos 9 ∷ pos 0 ∷ pos 0 ∷ pos 10 ∷ pos 2 ∷ pos 3 ∷ pos 0 ∷ []) [] (pos 10 ∷ pos 11 ∷ pos 2 ∷ pos 0 ∷ pos 1 ∷ []);
      buffer = blank 14;
      reply = done settled 1 2 13;
      table_left = pos 0 ∷ pos 10 ∷ pos 7 ∷ pos 9 ∷ pos 0 ∷ pos 0 ∷ pos 10 ∷ pos 2 ∷ pos 3 ∷ pos 0 ∷ [];
      buffer_left = pos 17 ∷ pos 0 ∷ pos 0 ∷ pos 3 ∷ pos 7 ∷ pos 1 ∷ pos 1 ∷ pos 4 ∷ pos 3 ∷ pos 10 ∷ pos 1 ∷ pos 0 ∷ pos 4207 ∷ pos 77 ∷ [];
      printed = pos 17 ∷ pos 0 ∷ pos 0 ∷ pos 3 ∷ pos 7 ∷ pos 1 ∷ pos 1 ∷ pos 4 ∷ pos 3 ∷ pos 10 ∷ [];
    }

-- The same list read.
abbrev pub set_read : Case
set_read =
    record {
      call = reader;
      job = job (pos 100) (pos 0 ∷ pos 1000 ∷ pos 0 ∷ pos 1 ∷ []) (pos 0 ∷ pos 10 ∷ pos 1 ∷ pos 9 ∷ pos 0 ∷ pos 0 ∷ pos 10 ∷ pos 2 ∷ pos 3 ∷ pos 0 ∷ []) [] (pos 10 ∷ pos 11 ∷ pos 2 ∷ pos 0 ∷ pos 1 ∷ []);
      buffer = pos 17 ∷ pos 0 ∷ pos 0 ∷ pos 3 ∷ pos 7 ∷ pos 1 ∷ pos 1 ∷ pos 4 ∷ pos 3 ∷ pos 10 ∷ pos 1 ∷ pos 0 ∷ pos 4207 ∷ [];
      reply = done still_open 0 0 0;
      table_left = pos 0 ∷ pos 10 ∷ pos 7 ∷ pos 9 ∷ pos 0 ∷ pos 0 ∷ pos 10 ∷ pos 2 ∷ pos 3 ∷ pos 0 ∷ [];
      buffer_left = pos 17 ∷ pos 0 ∷ pos 0 ∷ pos 3 ∷ pos 7 ∷ pos 1 ∷ pos 1 ∷ pos 4 ∷ pos 3 ∷ pos 10 ∷ pos 1 ∷ pos 0 ∷ pos 4207 ∷ [];
      printed = pos 17 ∷ pos 0 ∷ pos 0 ∷ pos 3 ∷ pos 7 ∷ pos 1 ∷ pos 1 ∷ pos 4 ∷ pos 3 ∷ pos 10 ∷ [];
    }

-- Total at most 11: rule 18 narrows by the least of the other.
abbrev pub set_most_total : Case
set_most_total =
    record {
      call = planner (pos 0);
      job = job (pos 100) (pos 0 ∷ pos 1000 ∷ pos 0 ∷ pos 1 ∷ []) (pos 0 ∷ pos 10 ∷ pos 7 ∷ pos 9 ∷ pos 0 ∷ pos 0 ∷ pos 10 ∷ pos 2 ∷ pos 5 ∷ pos 0 ∷ []) [] (pos 0 ∷ pos 11 ∷ pos 2 ∷ pos 0 ∷ pos 1 ∷ []);
      buffer = blank 14;
      reply = done settled 1 2 13;
      table_left = pos 0 ∷ pos 10 ∷ pos 7 ∷ pos 9 ∷ pos 0 ∷ pos 0 ∷ pos 10 ∷ pos 2 ∷ pos 4 ∷ pos 0 ∷ [];
      buffer_left = pos 18 ∷ pos 0 ∷ pos 1 ∷ pos 4 ∷ pos 4 ∷ pos 1 ∷ pos 0 ∷ pos 3 ∷ pos 7 ∷ pos 10 ∷ pos 1 ∷ pos 0 ∷ pos 4207 ∷ pos 77 ∷ [];
      printed = pos 18 ∷ pos 0 ∷ pos 1 ∷ pos 4 ∷ pos 4 ∷ pos 1 ∷ pos 0 ∷ pos 3 ∷ pos 7 ∷ pos 10 ∷ [];
    }

-- A neutral member is a target, and its conflict quotes its own end.
abbrev pub set_neutral : Case
set_neutral =
    record {
      call = planner (pos 0);
      job = job (pos 100) (pos 0 ∷ pos 1000 ∷ pos 0 ∷ pos 1 ∷ []) (pos 0 ∷ pos 10 ∷ pos 0 ∷ pos 0 ∷ pos 0 ∷ pos 0 ∷ pos 10 ∷ pos 2 ∷ pos 3 ∷ pos 0 ∷ []) [] (pos 4 ∷ pos 9 ∷ pos 2 ∷ pos 0 ∷ pos 1 ∷ []);
      buffer = blank 17;
      reply = done conflict 1 1 16;
      table_left = pos 0 ∷ pos 10 ∷ pos 0 ∷ pos 0 ∷ pos 0 ∷ pos 0 ∷ pos 10 ∷ pos 2 ∷ pos 3 ∷ pos 0 ∷ [];
      buffer_left = pos 17 ∷ pos 0 ∷ pos 0 ∷ pos 0 ∷ pos 0 ∷ pos 2 ∷ pos 0 ∷ pos 4 ∷ pos 0 ∷ pos 1 ∷ pos 4 ∷ pos 3 ∷ pos 13 ∷ pos 1 ∷ pos 0 ∷ pos 4207 ∷ pos 77 ∷ [];
      printed = pos 17 ∷ pos 0 ∷ pos 0 ∷ pos 0 ∷ pos 0 ∷ pos 2 ∷ pos 0 ∷ pos 4 ∷ pos 0 ∷ pos 1 ∷ pos 4 ∷ pos 3 ∷ pos 13 ∷ [];
    }

-- K5 with a set of its one event, least −3: rule 17 comes first, and then rule 11 has nothing to narrow.
abbrev pub set_before_events : Case
set_before_events =
    record {
      call = planner (pos 0);
      job = job (pos 100) (pos 0 ∷ pos 10 ∷ pos 5 ∷ pos 1 ∷ []) (pos 0 ∷ pos 30 ∷ neg 9 ∷ neg 2 ∷ pos 0 ∷ []) [] (neg 3 ∷ pos 0 ∷ pos 1 ∷ pos 0 ∷ []);
      buffer = blank 20;
      reply = done settled 1 2 10;
      table_left = pos 0 ∷ pos 30 ∷ neg 3 ∷ neg 2 ∷ pos 0 ∷ [];
      buffer_left = pos 17 ∷ pos 0 ∷ pos 0 ∷ pos 3 ∷ neg 3 ∷ pos 0 ∷ pos 7 ∷ pos 1 ∷ pos 0 ∷ pos 4207 ∷ blank 10;
      printed = [];
    }

-- A neutral member is not quoted.
abbrev pub set_unquoted : Case
set_unquoted =
    record {
      call = planner (pos 0);
      job = job (pos 100) (pos 0 ∷ pos 1000 ∷ pos 0 ∷ pos 1 ∷ []) (pos 0 ∷ pos 10 ∷ pos 0 ∷ pos 0 ∷ pos 0 ∷ pos 0 ∷ pos 10 ∷ pos 2 ∷ pos 3 ∷ pos 0 ∷ []) [] (pos 3 ∷ pos 9 ∷ pos 2 ∷ pos 0 ∷ pos 1 ∷ []);
      buffer = blank 20;
      reply = done settled 1 2 10;
      table_left = pos 0 ∷ pos 10 ∷ pos 0 ∷ pos 0 ∷ pos 0 ∷ pos 0 ∷ pos 10 ∷ pos 3 ∷ pos 3 ∷ pos 0 ∷ [];
      buffer_left = pos 17 ∷ pos 0 ∷ pos 1 ∷ pos 3 ∷ pos 3 ∷ pos 0 ∷ pos 7 ∷ pos 1 ∷ pos 0 ∷ pos 4207 ∷ blank 10;
      printed = [];
    }

-- A target that is no member: 14.
abbrev pub set_no_member : Case
set_no_member =
    record {
      call = reader;
      job = job (pos 100) (pos 0 ∷ pos 1000 ∷ pos 0 ∷ pos 1 ∷ []) (pos 0 ∷ pos 10 ∷ pos 1 ∷ pos 9 ∷ pos 0 ∷ pos 0 ∷ pos 10 ∷ pos 2 ∷ pos 3 ∷ pos 0 ∷ []) [] (pos 10 ∷ pos 11 ∷ pos 1 ∷ pos 0 ∷ []);
      buffer = pos 17 ∷ pos 0 ∷ pos 1 ∷ pos 3 ∷ pos 3 ∷ pos 1 ∷ pos 0 ∷ pos 4 ∷ pos 9 ∷ pos 10 ∷ pos 1 ∷ pos 0 ∷ pos 4207 ∷ [];
      reply = refused 14 0;
      table_left = pos 0 ∷ pos 10 ∷ pos 1 ∷ pos 9 ∷ pos 0 ∷ pos 0 ∷ pos 10 ∷ pos 2 ∷ pos 3 ∷ pos 0 ∷ [];
      buffer_left = pos 17 ∷ pos 0 ∷ pos 1 ∷ pos 3 ∷ pos 3 ∷ pos 1 ∷ pos 0 ∷ pos 4 ∷ pos 9 ∷ pos 10 ∷ pos 1 ∷ pos 0 ∷ pos 4207 ∷ [];
      printed = [];
    }

-- A set cut short: 31, before any 32.
abbrev pub set_cut : Case
set_cut =
    record {
      call = planner (pos 0);
      job = job (pos 100) (pos 0 ∷ pos 1000 ∷ pos 0 ∷ pos 1 ∷ []) (pos 0 ∷ pos 10 ∷ pos 1 ∷ pos 9 ∷ pos 0 ∷ pos 0 ∷ pos 10 ∷ pos 2 ∷ pos 3 ∷ pos 0 ∷ []) [] (pos 0 ∷ pos 5 ∷ pos 0 ∷ pos 0 ∷ pos 5 ∷ []);
      buffer = blank 3;
      reply = refused 31 1;
      table_left = pos 0 ∷ pos 10 ∷ pos 1 ∷ pos 9 ∷ pos 0 ∷ pos 0 ∷ pos 10 ∷ pos 2 ∷ pos 3 ∷ pos 0 ∷ [];
      buffer_left = blank 3;
      printed = [];
    }

-- A seventeenth set: 31, place 16.
abbrev pub set_many : Case
set_many =
    record {
      call = planner (pos 0);
      job = job (pos 100) (pos 0 ∷ pos 1000 ∷ pos 0 ∷ pos 1 ∷ []) (pos 0 ∷ pos 10 ∷ pos 1 ∷ pos 9 ∷ pos 0 ∷ pos 0 ∷ pos 10 ∷ pos 2 ∷ pos 3 ∷ pos 0 ∷ []) [] (pos 0 ∷ pos 5 ∷ pos 1 ∷ pos 0 ∷ pos 0 ∷ pos 5 ∷ pos 1 ∷ pos 0 ∷ pos 0 ∷ pos 5 ∷ pos 1 ∷ pos 0 ∷ pos 0 ∷ pos 5 ∷ pos 1 ∷ pos 0 ∷ pos 0 ∷ pos 5 ∷ pos 1 ∷ pos 0 ∷ pos 0 ∷ pos 5 ∷ pos 1 ∷ pos 0 ∷ pos 0 ∷ pos 5 ∷ pos 1 ∷ pos 0 ∷ pos 0 ∷ pos 5 ∷ pos 1 ∷ pos 0 ∷ pos 0 ∷ pos 5 ∷ pos 1 ∷ pos 0 ∷ pos 0 ∷ pos 5 ∷ pos 1 ∷ pos 0 ∷ pos 0 ∷ pos 5 ∷ pos 1 ∷ pos 0 ∷ pos 0 ∷ pos 5 ∷ pos 1 ∷ pos 0 ∷ pos 0 ∷ pos 5 ∷ pos 1 ∷ pos 0 ∷ pos 0 ∷ pos 5 ∷ pos 1 ∷ pos 0 ∷ pos 0 ∷ pos 5 ∷ pos 1 ∷ pos 0 ∷ pos 0 ∷ pos 5 ∷ pos 1 ∷ pos 0 ∷ pos 0 ∷ []);
      buffer = blank 3;
      reply = refused 31 16;
      table_left = pos 0 ∷ pos 10 ∷ pos 1 ∷ pos 9 ∷ pos 0 ∷ pos 0 ∷ pos 10 ∷ pos 2 ∷ pos 3 ∷ pos 0 ∷ [];
      buffer_left = blank 3;
      printed = [];
    }

-- A member count under 1, walked as 0: 32.
abbrev pub set_empty : Case
set_empty =
    record {
      call = planner (pos 0);
      job = job (pos 100) (pos 0 ∷ pos 1000 ∷ pos 0 ∷ pos 1 ∷ []) (pos 0 ∷ pos 10 ∷ pos 1 ∷ pos 9 ∷ pos 0 ∷ pos 0 ∷ pos 10 ∷ pos 2 ∷ pos 3 ∷ pos 0 ∷ []) [] (pos 0 ∷ pos 5 ∷ pos 1 ∷ pos 0 ∷ pos 0 ∷ pos 5 ∷ neg 1 ∷ []);
      buffer = blank 3;
      reply = refused 32 1;
      table_left = pos 0 ∷ pos 10 ∷ pos 1 ∷ pos 9 ∷ pos 0 ∷ pos 0 ∷ pos 10 ∷ pos 2 ∷ pos 3 ∷ pos 0 ∷ [];
      buffer_left = blank 3;
      printed = [];
    }

-- A member twice: 32.
abbrev pub set_twice : Case
set_twice =
    record {
      call = planner (pos 0);
      job = job (pos 100) (pos 0 ∷ pos 1000 ∷ pos 0 ∷ pos 1 ∷ []) (pos 0 ∷ pos 10 ∷ pos 1 ∷ pos 9 ∷ pos 0 ∷ pos 0 ∷ pos 10 ∷ pos 2 ∷ pos 3 ∷ pos 0 ∷ []) [] (pos 0 ∷ pos 5 ∷ pos 2 ∷ pos 1 ∷ pos 1 ∷ []);
      buffer = blank 3;
      reply = refused 32 0;
      table_left = pos 0 ∷ pos 10 ∷ pos 1 ∷ pos 9 ∷ pos 0 ∷ pos 0 ∷ pos 10 ∷ pos 2 ∷ pos 3 ∷ pos 0 ∷ [];
      buffer_left = blank 3;
      printed = [];
    }

-- A member that is no event: 32.
abbrev pub set_stranger : Case
set_stranger =
    record {
      call = planner (pos 0);
      job = job (pos 100) (pos 0 ∷ pos 1000 ∷ pos 0 ∷ pos 1 ∷ []) (pos 0 ∷ pos 10 ∷ pos 1 ∷ pos 9 ∷ pos 0 ∷ pos 0 ∷ pos 10 ∷ pos 2 ∷ pos 3 ∷ pos 0 ∷ []) [] (pos 0 ∷ pos 5 ∷ pos 2 ∷ pos 1 ∷ pos 2 ∷ []);
      buffer = blank 3;
      reply = refused 32 0;
      table_left = pos 0 ∷ pos 10 ∷ pos 1 ∷ pos 9 ∷ pos 0 ∷ pos 0 ∷ pos 10 ∷ pos 2 ∷ pos 3 ∷ pos 0 ∷ [];
      buffer_left = blank 3;
      printed = [];
    }

-- Least over most: 33.
abbrev pub set_turned : Case
set_turned =
    record {
      call = planner (pos 0);
      job = job (pos 100) (pos 0 ∷ pos 1000 ∷ pos 0 ∷ pos 1 ∷ []) (pos 0 ∷ pos 10 ∷ pos 1 ∷ pos 9 ∷ pos 0 ∷ pos 0 ∷ pos 10 ∷ pos 2 ∷ pos 3 ∷ pos 0 ∷ []) [] (pos 0 ∷ pos 5 ∷ pos 1 ∷ pos 0 ∷ pos 5 ∷ pos 0 ∷ pos 1 ∷ pos 0 ∷ []);
      buffer = blank 3;
      reply = refused 33 1;
      table_left = pos 0 ∷ pos 10 ∷ pos 1 ∷ pos 9 ∷ pos 0 ∷ pos 0 ∷ pos 10 ∷ pos 2 ∷ pos 3 ∷ pos 0 ∷ [];
      buffer_left = blank 3;
      printed = [];
    }

-- Rule 15 is none: 13.
abbrev pub rule_15 : Case
rule_15 =
    record {
      call = reader;
      job = job (pos 100) (pos 0 ∷ pos 1000 ∷ pos 0 ∷ pos 1 ∷ []) (pos 0 ∷ pos 10 ∷ pos 1 ∷ pos 9 ∷ pos 0 ∷ pos 0 ∷ pos 10 ∷ pos 2 ∷ pos 3 ∷ pos 0 ∷ []) [] (pos 10 ∷ pos 11 ∷ pos 2 ∷ pos 0 ∷ pos 1 ∷ []);
      buffer = pos 15 ∷ pos 0 ∷ pos 0 ∷ pos 3 ∷ pos 7 ∷ pos 1 ∷ pos 1 ∷ pos 4 ∷ pos 3 ∷ pos 10 ∷ pos 1 ∷ pos 0 ∷ pos 4207 ∷ [];
      reply = refused 13 0;
      table_left = pos 0 ∷ pos 10 ∷ pos 1 ∷ pos 9 ∷ pos 0 ∷ pos 0 ∷ pos 10 ∷ pos 2 ∷ pos 3 ∷ pos 0 ∷ [];
      buffer_left = pos 15 ∷ pos 0 ∷ pos 0 ∷ pos 3 ∷ pos 7 ∷ pos 1 ∷ pos 1 ∷ pos 4 ∷ pos 3 ∷ pos 10 ∷ pos 1 ∷ pos 0 ∷ pos 4207 ∷ [];
      printed = [];
    }

-- Two lags at odds by one minute, no limit: a conflict, after creeping through the horizon.
abbrev pub crawl : Case
crawl =
    record {
      call = planner (pos 0);
      job = job (pos 6) (pos 0 ∷ pos 10 ∷ pos 0 ∷ pos 1 ∷ []) (pos 0 ∷ pos 6 ∷ pos 0 ∷ pos 0 ∷ pos 0 ∷ pos 0 ∷ pos 6 ∷ pos 0 ∷ pos 0 ∷ pos 0 ∷ []) (pos 0 ∷ pos 1 ∷ neg 1 ∷ pos 1 ∷ pos 0 ∷ pos 0 ∷ []) [];
      buffer = blank 138;
      reply = done conflict 13 4 136;
      table_left = pos 3 ∷ pos 3 ∷ pos 0 ∷ pos 0 ∷ pos 0 ∷ pos 3 ∷ pos 3 ∷ pos 0 ∷ pos 0 ∷ pos 0 ∷ [];
      buffer_left = pos 1 ∷ pos 0 ∷ pos 0 ∷ pos 2 ∷ pos 5 ∷ pos 1 ∷ pos 1 ∷ pos 2 ∷ pos 6 ∷ pos 10 ∷ pos 2 ∷ pos 0 ∷ pos 1 ∷ pos 1 ∷ pos 1 ∷ pos 1 ∷ pos 0 ∷ pos 1 ∷ pos 0 ∷ pos 10 ∷ pos 1 ∷ pos 1 ∷ pos 1 ∷ pos 2 ∷ pos 5 ∷ pos 1 ∷ pos 0 ∷ pos 2 ∷ pos 5 ∷ pos 10 ∷ pos 2 ∷ pos 1 ∷ pos 0 ∷ pos 1 ∷ pos 1 ∷ pos 1 ∷ pos 1 ∷ pos 1 ∷ pos 1 ∷ pos 10 ∷ pos 1 ∷ pos 0 ∷ pos 0 ∷ pos 2 ∷ pos 4 ∷ pos 1 ∷ pos 1 ∷ pos 2 ∷ pos 5 ∷ pos 10 ∷ pos 2 ∷ pos 0 ∷ pos 1 ∷ pos 1 ∷ pos 2 ∷ pos 1 ∷ pos 0 ∷ pos 1 ∷ pos 1 ∷ pos 10 ∷ pos 1 ∷ pos 1 ∷ pos 1 ∷ pos 2 ∷ pos 4 ∷ pos 1 ∷ pos 0 ∷ pos 2 ∷ pos 4 ∷ pos 10 ∷ pos 2 ∷ pos 1 ∷ pos 0 ∷ pos 1 ∷ pos 2 ∷ pos 1 ∷ pos 1 ∷ pos 1 ∷ pos 2 ∷ pos 10 ∷ pos 1 ∷ pos 0 ∷ pos 0 ∷ pos 2 ∷ pos 3 ∷ pos 1 ∷ pos 1 ∷ pos 2 ∷ pos 4 ∷ pos 10 ∷ pos 2 ∷ pos 0 ∷ pos 1 ∷ pos 1 ∷ pos 3 ∷ pos 1 ∷ pos 0 ∷ pos 1 ∷ pos 2 ∷ pos 10 ∷ pos 1 ∷ pos 1 ∷ pos 1 ∷ pos 2 ∷ pos 3 ∷ pos 1 ∷ pos 0 ∷ pos 2 ∷ pos 3 ∷ pos 10 ∷ pos 2 ∷ pos 1 ∷ pos 0 ∷ pos 1 ∷ pos 3 ∷ pos 1 ∷ pos 1 ∷ pos 1 ∷ pos 3 ∷ pos 10 ∷ pos 1 ∷ pos 0 ∷ pos 0 ∷ pos 0 ∷ pos 0 ∷ pos 2 ∷ pos 0 ∷ pos 1 ∷ pos 3 ∷ pos 1 ∷ pos 2 ∷ pos 3 ∷ pos 13 ∷ pos 13 ∷ pos 120 ∷ pos 4207 ∷ pos 77 ∷ pos 77 ∷ [];
      printed = [];
    }

-- The limit is the number of rounds that the rules take: the same.
abbrev pub crawl_last : Case
crawl_last =
    record {
      call = planner (pos 4);
      job = job (pos 6) (pos 0 ∷ pos 10 ∷ pos 0 ∷ pos 1 ∷ []) (pos 0 ∷ pos 6 ∷ pos 0 ∷ pos 0 ∷ pos 0 ∷ pos 0 ∷ pos 6 ∷ pos 0 ∷ pos 0 ∷ pos 0 ∷ []) (pos 0 ∷ pos 1 ∷ neg 1 ∷ pos 1 ∷ pos 0 ∷ pos 0 ∷ []) [];
      buffer = blank 138;
      reply = done conflict 13 4 136;
      table_left = pos 3 ∷ pos 3 ∷ pos 0 ∷ pos 0 ∷ pos 0 ∷ pos 3 ∷ pos 3 ∷ pos 0 ∷ pos 0 ∷ pos 0 ∷ [];
      buffer_left = pos 1 ∷ pos 0 ∷ pos 0 ∷ pos 2 ∷ pos 5 ∷ pos 1 ∷ pos 1 ∷ pos 2 ∷ pos 6 ∷ pos 10 ∷ pos 2 ∷ pos 0 ∷ pos 1 ∷ pos 1 ∷ pos 1 ∷ pos 1 ∷ pos 0 ∷ pos 1 ∷ pos 0 ∷ pos 10 ∷ pos 1 ∷ pos 1 ∷ pos 1 ∷ pos 2 ∷ pos 5 ∷ pos 1 ∷ pos 0 ∷ pos 2 ∷ pos 5 ∷ pos 10 ∷ pos 2 ∷ pos 1 ∷ pos 0 ∷ pos 1 ∷ pos 1 ∷ pos 1 ∷ pos 1 ∷ pos 1 ∷ pos 1 ∷ pos 10 ∷ pos 1 ∷ pos 0 ∷ pos 0 ∷ pos 2 ∷ pos 4 ∷ pos 1 ∷ pos 1 ∷ pos 2 ∷ pos 5 ∷ pos 10 ∷ pos 2 ∷ pos 0 ∷ pos 1 ∷ pos 1 ∷ pos 2 ∷ pos 1 ∷ pos 0 ∷ pos 1 ∷ pos 1 ∷ pos 10 ∷ pos 1 ∷ pos 1 ∷ pos 1 ∷ pos 2 ∷ pos 4 ∷ pos 1 ∷ pos 0 ∷ pos 2 ∷ pos 4 ∷ pos 10 ∷ pos 2 ∷ pos 1 ∷ pos 0 ∷ pos 1 ∷ pos 2 ∷ pos 1 ∷ pos 1 ∷ pos 1 ∷ pos 2 ∷ pos 10 ∷ pos 1 ∷ pos 0 ∷ pos 0 ∷ pos 2 ∷ pos 3 ∷ pos 1 ∷ pos 1 ∷ pos 2 ∷ pos 4 ∷ pos 10 ∷ pos 2 ∷ pos 0 ∷ pos 1 ∷ pos 1 ∷ pos 3 ∷ pos 1 ∷ pos 0 ∷ pos 1 ∷ pos 2 ∷ pos 10 ∷ pos 1 ∷ pos 1 ∷ pos 1 ∷ pos 2 ∷ pos 3 ∷ pos 1 ∷ pos 0 ∷ pos 2 ∷ pos 3 ∷ pos 10 ∷ pos 2 ∷ pos 1 ∷ pos 0 ∷ pos 1 ∷ pos 3 ∷ pos 1 ∷ pos 1 ∷ pos 1 ∷ pos 3 ∷ pos 10 ∷ pos 1 ∷ pos 0 ∷ pos 0 ∷ pos 0 ∷ pos 0 ∷ pos 2 ∷ pos 0 ∷ pos 1 ∷ pos 3 ∷ pos 1 ∷ pos 2 ∷ pos 3 ∷ pos 13 ∷ pos 13 ∷ pos 120 ∷ pos 4207 ∷ pos 77 ∷ pos 77 ∷ [];
      printed = [];
    }

-- More than that: the same.
abbrev pub crawl_more : Case
crawl_more =
    record {
      call = planner (pos 5);
      job = job (pos 6) (pos 0 ∷ pos 10 ∷ pos 0 ∷ pos 1 ∷ []) (pos 0 ∷ pos 6 ∷ pos 0 ∷ pos 0 ∷ pos 0 ∷ pos 0 ∷ pos 6 ∷ pos 0 ∷ pos 0 ∷ pos 0 ∷ []) (pos 0 ∷ pos 1 ∷ neg 1 ∷ pos 1 ∷ pos 0 ∷ pos 0 ∷ []) [];
      buffer = blank 138;
      reply = done conflict 13 4 136;
      table_left = pos 3 ∷ pos 3 ∷ pos 0 ∷ pos 0 ∷ pos 0 ∷ pos 3 ∷ pos 3 ∷ pos 0 ∷ pos 0 ∷ pos 0 ∷ [];
      buffer_left = pos 1 ∷ pos 0 ∷ pos 0 ∷ pos 2 ∷ pos 5 ∷ pos 1 ∷ pos 1 ∷ pos 2 ∷ pos 6 ∷ pos 10 ∷ pos 2 ∷ pos 0 ∷ pos 1 ∷ pos 1 ∷ pos 1 ∷ pos 1 ∷ pos 0 ∷ pos 1 ∷ pos 0 ∷ pos 10 ∷ pos 1 ∷ pos 1 ∷ pos 1 ∷ pos 2 ∷ pos 5 ∷ pos 1 ∷ pos 0 ∷ pos 2 ∷ pos 5 ∷ pos 10 ∷ pos 2 ∷ pos 1 ∷ pos 0 ∷ pos 1 ∷ pos 1 ∷ pos 1 ∷ pos 1 ∷ pos 1 ∷ pos 1 ∷ pos 10 ∷ pos 1 ∷ pos 0 ∷ pos 0 ∷ pos 2 ∷ pos 4 ∷ pos 1 ∷ pos 1 ∷ pos 2 ∷ pos 5 ∷ pos 10 ∷ pos 2 ∷ pos 0 ∷ pos 1 ∷ pos 1 ∷ pos 2 ∷ pos 1 ∷ pos 0 ∷ pos 1 ∷ pos 1 ∷ pos 10 ∷ pos 1 ∷ pos 1 ∷ pos 1 ∷ pos 2 ∷ pos 4 ∷ pos 1 ∷ pos 0 ∷ pos 2 ∷ pos 4 ∷ pos 10 ∷ pos 2 ∷ pos 1 ∷ pos 0 ∷ pos 1 ∷ pos 2 ∷ pos 1 ∷ pos 1 ∷ pos 1 ∷ pos 2 ∷ pos 10 ∷ pos 1 ∷ pos 0 ∷ pos 0 ∷ pos 2 ∷ pos 3 ∷ pos 1 ∷ pos 1 ∷ pos 2 ∷ pos 4 ∷ pos 10 ∷ pos 2 ∷ pos 0 ∷ pos 1 ∷ pos 1 ∷ pos 3 ∷ pos 1 ∷ pos 0 ∷ pos 1 ∷ pos 2 ∷ pos 10 ∷ pos 1 ∷ pos 1 ∷ pos 1 ∷ pos 2 ∷ pos 3 ∷ pos 1 ∷ pos 0 ∷ pos 2 ∷ pos 3 ∷ pos 10 ∷ pos 2 ∷ pos 1 ∷ pos 0 ∷ pos 1 ∷ pos 3 ∷ pos 1 ∷ pos 1 ∷ pos 1 ∷ pos 3 ∷ pos 10 ∷ pos 1 ∷ pos 0 ∷ pos 0 ∷ pos 0 ∷ pos 0 ∷ pos 2 ∷ pos 0 ∷ pos 1 ∷ pos 3 ∷ pos 1 ∷ pos 2 ∷ pos 3 ∷ pos 13 ∷ pos 13 ∷ pos 120 ∷ pos 4207 ∷ pos 77 ∷ pos 77 ∷ [];
      printed = [];
    }

-- One less: stopped.
abbrev pub crawl_cut : Case
crawl_cut =
    record {
      call = planner (pos 3);
      job = job (pos 6) (pos 0 ∷ pos 10 ∷ pos 0 ∷ pos 1 ∷ []) (pos 0 ∷ pos 6 ∷ pos 0 ∷ pos 0 ∷ pos 0 ∷ pos 0 ∷ pos 6 ∷ pos 0 ∷ pos 0 ∷ pos 0 ∷ []) (pos 0 ∷ pos 1 ∷ neg 1 ∷ pos 1 ∷ pos 0 ∷ pos 0 ∷ []) [];
      buffer = blank 125;
      reply = done stopped 12 3 123;
      table_left = pos 3 ∷ pos 3 ∷ pos 0 ∷ pos 0 ∷ pos 0 ∷ pos 3 ∷ pos 3 ∷ pos 0 ∷ pos 0 ∷ pos 0 ∷ [];
      buffer_left = pos 1 ∷ pos 0 ∷ pos 0 ∷ pos 2 ∷ pos 5 ∷ pos 1 ∷ pos 1 ∷ pos 2 ∷ pos 6 ∷ pos 10 ∷ pos 2 ∷ pos 0 ∷ pos 1 ∷ pos 1 ∷ pos 1 ∷ pos 1 ∷ pos 0 ∷ pos 1 ∷ pos 0 ∷ pos 10 ∷ pos 1 ∷ pos 1 ∷ pos 1 ∷ pos 2 ∷ pos 5 ∷ pos 1 ∷ pos 0 ∷ pos 2 ∷ pos 5 ∷ pos 10 ∷ pos 2 ∷ pos 1 ∷ pos 0 ∷ pos 1 ∷ pos 1 ∷ pos 1 ∷ pos 1 ∷ pos 1 ∷ pos 1 ∷ pos 10 ∷ pos 1 ∷ pos 0 ∷ pos 0 ∷ pos 2 ∷ pos 4 ∷ pos 1 ∷ pos 1 ∷ pos 2 ∷ pos 5 ∷ pos 10 ∷ pos 2 ∷ pos 0 ∷ pos 1 ∷ pos 1 ∷ pos 2 ∷ pos 1 ∷ pos 0 ∷ pos 1 ∷ pos 1 ∷ pos 10 ∷ pos 1 ∷ pos 1 ∷ pos 1 ∷ pos 2 ∷ pos 4 ∷ pos 1 ∷ pos 0 ∷ pos 2 ∷ pos 4 ∷ pos 10 ∷ pos 2 ∷ pos 1 ∷ pos 0 ∷ pos 1 ∷ pos 2 ∷ pos 1 ∷ pos 1 ∷ pos 1 ∷ pos 2 ∷ pos 10 ∷ pos 1 ∷ pos 0 ∷ pos 0 ∷ pos 2 ∷ pos 3 ∷ pos 1 ∷ pos 1 ∷ pos 2 ∷ pos 4 ∷ pos 10 ∷ pos 2 ∷ pos 0 ∷ pos 1 ∷ pos 1 ∷ pos 3 ∷ pos 1 ∷ pos 0 ∷ pos 1 ∷ pos 2 ∷ pos 10 ∷ pos 1 ∷ pos 1 ∷ pos 1 ∷ pos 2 ∷ pos 3 ∷ pos 1 ∷ pos 0 ∷ pos 2 ∷ pos 3 ∷ pos 10 ∷ pos 2 ∷ pos 1 ∷ pos 0 ∷ pos 1 ∷ pos 3 ∷ pos 1 ∷ pos 1 ∷ pos 1 ∷ pos 3 ∷ pos 10 ∷ pos 12 ∷ pos 110 ∷ pos 4207 ∷ pos 77 ∷ pos 77 ∷ [];
      printed = [];
    }

-- Its list read back: open.
abbrev pub crawl_read : Case
crawl_read =
    record {
      call = reader;
      job = job (pos 6) (pos 0 ∷ pos 10 ∷ pos 0 ∷ pos 1 ∷ []) (pos 0 ∷ pos 6 ∷ pos 0 ∷ pos 0 ∷ pos 0 ∷ pos 0 ∷ pos 6 ∷ pos 0 ∷ pos 0 ∷ pos 0 ∷ []) (pos 0 ∷ pos 1 ∷ neg 1 ∷ pos 1 ∷ pos 0 ∷ pos 0 ∷ []) [];
      buffer = pos 1 ∷ pos 0 ∷ pos 0 ∷ pos 2 ∷ pos 5 ∷ pos 1 ∷ pos 1 ∷ pos 2 ∷ pos 6 ∷ pos 10 ∷ pos 2 ∷ pos 0 ∷ pos 1 ∷ pos 1 ∷ pos 1 ∷ pos 1 ∷ pos 0 ∷ pos 1 ∷ pos 0 ∷ pos 10 ∷ pos 1 ∷ pos 1 ∷ pos 1 ∷ pos 2 ∷ pos 5 ∷ pos 1 ∷ pos 0 ∷ pos 2 ∷ pos 5 ∷ pos 10 ∷ pos 2 ∷ pos 1 ∷ pos 0 ∷ pos 1 ∷ pos 1 ∷ pos 1 ∷ pos 1 ∷ pos 1 ∷ pos 1 ∷ pos 10 ∷ pos 1 ∷ pos 0 ∷ pos 0 ∷ pos 2 ∷ pos 4 ∷ pos 1 ∷ pos 1 ∷ pos 2 ∷ pos 5 ∷ pos 10 ∷ pos 2 ∷ pos 0 ∷ pos 1 ∷ pos 1 ∷ pos 2 ∷ pos 1 ∷ pos 0 ∷ pos 1 ∷ pos 1 ∷ pos 10 ∷ pos 1 ∷ pos 1 ∷ pos 1 ∷ pos 2 ∷ pos 4 ∷ pos 1 ∷ pos 0 ∷ pos 2 ∷ pos 4 ∷ pos 10 ∷ pos 2 ∷ pos 1 ∷ pos 0 ∷ pos 1 ∷ pos 2 ∷ pos 1 ∷ pos 1 ∷ pos 1 ∷ pos 2 ∷ pos 10 ∷ pos 1 ∷ pos 0 ∷ pos 0 ∷ pos 2 ∷ pos 3 ∷ pos 1 ∷ pos 1 ∷ pos 2 ∷ pos 4 ∷ pos 10 ∷ pos 2 ∷ pos 0 ∷ pos 1 ∷ pos 1 ∷ pos 3 ∷ pos 1 ∷ pos 0 ∷ pos 1 ∷ pos 2 ∷ pos 10 ∷ pos 1 ∷ pos 1 ∷ pos 1 ∷ pos 2 ∷ pos 3 ∷ pos 1 ∷ pos 0 ∷ pos 2 ∷ pos 3 ∷ pos 10 ∷ pos 2 ∷ pos 1 ∷ pos 0 ∷ pos 1 ∷ pos 3 ∷ pos 1 ∷ pos 1 ∷ pos 1 ∷ pos 3 ∷ pos 10 ∷ pos 12 ∷ pos 110 ∷ pos 4207 ∷ [];
      reply = done still_open 0 0 0;
      table_left = pos 3 ∷ pos 3 ∷ pos 0 ∷ pos 0 ∷ pos 0 ∷ pos 3 ∷ pos 3 ∷ pos 0 ∷ pos 0 ∷ pos 0 ∷ [];
      buffer_left = pos 1 ∷ pos 0 ∷ pos 0 ∷ pos 2 ∷ pos 5 ∷ pos 1 ∷ pos 1 ∷ pos 2 ∷ pos 6 ∷ pos 10 ∷ pos 2 ∷ pos 0 ∷ pos 1 ∷ pos 1 ∷ pos 1 ∷ pos 1 ∷ pos 0 ∷ pos 1 ∷ pos 0 ∷ pos 10 ∷ pos 1 ∷ pos 1 ∷ pos 1 ∷ pos 2 ∷ pos 5 ∷ pos 1 ∷ pos 0 ∷ pos 2 ∷ pos 5 ∷ pos 10 ∷ pos 2 ∷ pos 1 ∷ pos 0 ∷ pos 1 ∷ pos 1 ∷ pos 1 ∷ pos 1 ∷ pos 1 ∷ pos 1 ∷ pos 10 ∷ pos 1 ∷ pos 0 ∷ pos 0 ∷ pos 2 ∷ pos 4 ∷ pos 1 ∷ pos 1 ∷ pos 2 ∷ pos 5 ∷ pos 10 ∷ pos 2 ∷ pos 0 ∷ pos 1 ∷ pos 1 ∷ pos 2 ∷ pos 1 ∷ pos 0 ∷ pos 1 ∷ pos 1 ∷ pos 10 ∷ pos 1 ∷ pos 1 ∷ pos 1 ∷ pos 2 ∷ pos 4 ∷ pos 1 ∷ pos 0 ∷ pos 2 ∷ pos 4 ∷ pos 10 ∷ pos 2 ∷ pos 1 ∷ pos 0 ∷ pos 1 ∷ pos 2 ∷ pos 1 ∷ pos 1 ∷ pos 1 ∷ pos 2 ∷ pos 10 ∷ pos 1 ∷ pos 0 ∷ pos 0 ∷ pos 2 ∷ pos 3 ∷ pos 1 ∷ pos 1 ∷ pos 2 ∷ pos 4 ∷ pos 10 ∷ pos 2 ∷ pos 0 ∷ pos 1 ∷ pos 1 ∷ pos 3 ∷ pos 1 ∷ pos 0 ∷ pos 1 ∷ pos 2 ∷ pos 10 ∷ pos 1 ∷ pos 1 ∷ pos 1 ∷ pos 2 ∷ pos 3 ∷ pos 1 ∷ pos 0 ∷ pos 2 ∷ pos 3 ∷ pos 10 ∷ pos 2 ∷ pos 1 ∷ pos 0 ∷ pos 1 ∷ pos 3 ∷ pos 1 ∷ pos 1 ∷ pos 1 ∷ pos 3 ∷ pos 10 ∷ pos 12 ∷ pos 110 ∷ pos 4207 ∷ [];
      printed = [];
    }

-- One round.
abbrev pub crawl_one : Case
crawl_one =
    record {
      call = planner (pos 1);
      job = job (pos 6) (pos 0 ∷ pos 10 ∷ pos 0 ∷ pos 1 ∷ []) (pos 0 ∷ pos 6 ∷ pos 0 ∷ pos 0 ∷ pos 0 ∷ pos 0 ∷ pos 6 ∷ pos 0 ∷ pos 0 ∷ pos 0 ∷ []) (pos 0 ∷ pos 1 ∷ neg 1 ∷ pos 1 ∷ pos 0 ∷ pos 0 ∷ []) [];
      buffer = blank 45;
      reply = done stopped 4 1 43;
      table_left = pos 1 ∷ pos 5 ∷ pos 0 ∷ pos 0 ∷ pos 0 ∷ pos 1 ∷ pos 5 ∷ pos 0 ∷ pos 0 ∷ pos 0 ∷ [];
      buffer_left = pos 1 ∷ pos 0 ∷ pos 0 ∷ pos 2 ∷ pos 5 ∷ pos 1 ∷ pos 1 ∷ pos 2 ∷ pos 6 ∷ pos 10 ∷ pos 2 ∷ pos 0 ∷ pos 1 ∷ pos 1 ∷ pos 1 ∷ pos 1 ∷ pos 0 ∷ pos 1 ∷ pos 0 ∷ pos 10 ∷ pos 1 ∷ pos 1 ∷ pos 1 ∷ pos 2 ∷ pos 5 ∷ pos 1 ∷ pos 0 ∷ pos 2 ∷ pos 5 ∷ pos 10 ∷ pos 2 ∷ pos 1 ∷ pos 0 ∷ pos 1 ∷ pos 1 ∷ pos 1 ∷ pos 1 ∷ pos 1 ∷ pos 1 ∷ pos 10 ∷ pos 4 ∷ pos 30 ∷ pos 4207 ∷ pos 77 ∷ pos 77 ∷ [];
      printed = [];
    }

-- The room ends the run before the limit does.
abbrev pub crawl_room : Case
crawl_room =
    record {
      call = planner (pos 2);
      job = job (pos 6) (pos 0 ∷ pos 10 ∷ pos 0 ∷ pos 1 ∷ []) (pos 0 ∷ pos 6 ∷ pos 0 ∷ pos 0 ∷ pos 0 ∷ pos 0 ∷ pos 6 ∷ pos 0 ∷ pos 0 ∷ pos 0 ∷ []) (pos 0 ∷ pos 1 ∷ neg 1 ∷ pos 1 ∷ pos 0 ∷ pos 0 ∷ []) [];
      buffer = blank 25;
      reply = done stopped 2 1 23;
      table_left = pos 0 ∷ pos 5 ∷ pos 0 ∷ pos 0 ∷ pos 0 ∷ pos 1 ∷ pos 6 ∷ pos 0 ∷ pos 0 ∷ pos 0 ∷ [];
      buffer_left = pos 1 ∷ pos 0 ∷ pos 0 ∷ pos 2 ∷ pos 5 ∷ pos 1 ∷ pos 1 ∷ pos 2 ∷ pos 6 ∷ pos 10 ∷ pos 2 ∷ pos 0 ∷ pos 1 ∷ pos 1 ∷ pos 1 ∷ pos 1 ∷ pos 0 ∷ pos 1 ∷ pos 0 ∷ pos 10 ∷ pos 2 ∷ pos 10 ∷ pos 4207 ∷ pos 77 ∷ pos 77 ∷ [];
      printed = [];
    }

-- K1 with limit 1: its first round wrote a slip, so stopped.
abbrev pub k1_one : Case
k1_one =
    record {
      call = planner (pos 1);
      job = standard (pos 0) (pos 5 ∷ pos 40 ∷ pos 6 ∷ pos 6 ∷ pos 0 ∷ pos 0 ∷ pos 30 ∷ neg 4 ∷ neg 4 ∷ pos 0 ∷ []) [];
      buffer = blank 18;
      reply = done stopped 1 1 16;
      table_left = pos 5 ∷ pos 40 ∷ pos 6 ∷ pos 6 ∷ pos 0 ∷ pos 5 ∷ pos 30 ∷ neg 4 ∷ neg 4 ∷ pos 0 ∷ [];
      buffer_left = pos 10 ∷ pos 1 ∷ pos 1 ∷ pos 1 ∷ pos 5 ∷ pos 2 ∷ pos 0 ∷ pos 1 ∷ pos 5 ∷ pos 1 ∷ pos 4 ∷ neg 4 ∷ pos 13 ∷ pos 1 ∷ pos 0 ∷ pos 4207 ∷ pos 77 ∷ pos 77 ∷ [];
      printed = [];
    }

-- K1 with limit 2: its second round wrote none, so settled.
abbrev pub k1_two : Case
k1_two =
    record {
      call = planner (pos 2);
      job = standard (pos 0) (pos 5 ∷ pos 40 ∷ pos 6 ∷ pos 6 ∷ pos 0 ∷ pos 0 ∷ pos 30 ∷ neg 4 ∷ neg 4 ∷ pos 0 ∷ []) [];
      buffer = blank 18;
      reply = done settled 1 2 16;
      table_left = pos 5 ∷ pos 40 ∷ pos 6 ∷ pos 6 ∷ pos 0 ∷ pos 5 ∷ pos 30 ∷ neg 4 ∷ neg 4 ∷ pos 0 ∷ [];
      buffer_left = pos 10 ∷ pos 1 ∷ pos 1 ∷ pos 1 ∷ pos 5 ∷ pos 2 ∷ pos 0 ∷ pos 1 ∷ pos 5 ∷ pos 1 ∷ pos 4 ∷ neg 4 ∷ pos 13 ∷ pos 1 ∷ pos 0 ∷ pos 4207 ∷ pos 77 ∷ pos 77 ∷ [];
      printed = [];
    }

-- K1 with the largest limit.
abbrev pub k1_high : Case
k1_high =
    record {
      call = planner (pos 1000000);
      job = standard (pos 0) (pos 5 ∷ pos 40 ∷ pos 6 ∷ pos 6 ∷ pos 0 ∷ pos 0 ∷ pos 30 ∷ neg 4 ∷ neg 4 ∷ pos 0 ∷ []) [];
      buffer = blank 18;
      reply = done settled 1 2 16;
      table_left = pos 5 ∷ pos 40 ∷ pos 6 ∷ pos 6 ∷ pos 0 ∷ pos 5 ∷ pos 30 ∷ neg 4 ∷ neg 4 ∷ pos 0 ∷ [];
      buffer_left = pos 10 ∷ pos 1 ∷ pos 1 ∷ pos 1 ∷ pos 5 ∷ pos 2 ∷ pos 0 ∷ pos 1 ∷ pos 5 ∷ pos 1 ∷ pos 4 ∷ neg 4 ∷ pos 13 ∷ pos 1 ∷ pos 0 ∷ pos 4207 ∷ pos 77 ∷ pos 77 ∷ [];
      printed = [];
    }

-- A first round that writes nothing is settled.
abbrev pub still_one : Case
still_one =
    record {
      call = planner (pos 1);
      job = standard (pos 0) (pos 5 ∷ pos 40 ∷ pos 6 ∷ pos 6 ∷ pos 0 ∷ []) [];
      buffer = blank 5;
      reply = done settled 0 1 3;
      table_left = pos 5 ∷ pos 40 ∷ pos 6 ∷ pos 6 ∷ pos 0 ∷ [];
      buffer_left = pos 0 ∷ pos 0 ∷ pos 4207 ∷ pos 77 ∷ pos 77 ∷ [];
      printed = [];
    }

-- 28.
abbrev pub limit_negative : Case
limit_negative =
    record {
      call = planner (neg 1);
      job = standard (pos 0) (pos 5 ∷ pos 40 ∷ pos 6 ∷ pos 6 ∷ pos 0 ∷ pos 0 ∷ pos 30 ∷ neg 4 ∷ neg 4 ∷ pos 0 ∷ []) [];
      buffer = blank 5;
      reply = refused 28 0;
      table_left = pos 5 ∷ pos 40 ∷ pos 6 ∷ pos 6 ∷ pos 0 ∷ pos 0 ∷ pos 30 ∷ neg 4 ∷ neg 4 ∷ pos 0 ∷ [];
      buffer_left = blank 5;
      printed = [];
    }

-- 28.
abbrev pub limit_over : Case
limit_over =
    record {
      call = planner (pos 1000001);
      job = standard (pos 0) (pos 5 ∷ pos 40 ∷ pos 6 ∷ pos 6 ∷ pos 0 ∷ pos 0 ∷ pos 30 ∷ neg 4 ∷ neg 4 ∷ pos 0 ∷ []) [];
      buffer = blank 5;
      reply = refused 28 0;
      table_left = pos 5 ∷ pos 40 ∷ pos 6 ∷ pos 6 ∷ pos 0 ∷ pos 0 ∷ pos 30 ∷ neg 4 ∷ neg 4 ∷ pos 0 ∷ [];
      buffer_left = blank 5;
      printed = [];
    }

-- 28 after 10.
abbrev pub limit_lag : Case
limit_lag =
    record {
      call = planner (neg 1);
      job = job (pos 6) (pos 0 ∷ pos 10 ∷ pos 0 ∷ pos 1 ∷ []) (pos 0 ∷ pos 6 ∷ pos 0 ∷ pos 0 ∷ pos 0 ∷ pos 0 ∷ pos 6 ∷ pos 0 ∷ pos 0 ∷ pos 0 ∷ []) (pos 0 ∷ pos 1 ∷ pos 20001 ∷ []) [];
      buffer = blank 5;
      reply = refused 10 0;
      table_left = pos 0 ∷ pos 6 ∷ pos 0 ∷ pos 0 ∷ pos 0 ∷ pos 0 ∷ pos 6 ∷ pos 0 ∷ pos 0 ∷ pos 0 ∷ [];
      buffer_left = blank 5;
      printed = [];
    }

-- 28 before 31.
abbrev pub limit_set : Case
limit_set =
    record {
      call = planner (neg 1);
      job = job (pos 6) (pos 0 ∷ pos 10 ∷ pos 0 ∷ pos 1 ∷ []) (pos 0 ∷ pos 6 ∷ pos 0 ∷ pos 0 ∷ pos 0 ∷ pos 0 ∷ pos 6 ∷ pos 0 ∷ pos 0 ∷ pos 0 ∷ []) [] (pos 0 ∷ []);
      buffer = blank 5;
      reply = refused 28 0;
      table_left = pos 0 ∷ pos 6 ∷ pos 0 ∷ pos 0 ∷ pos 0 ∷ pos 0 ∷ pos 6 ∷ pos 0 ∷ pos 0 ∷ pos 0 ∷ [];
      buffer_left = blank 5;
      printed = [];
    }

-- 28 before 11.
abbrev pub limit_room : Case
limit_room =
    record {
      call = planner (neg 1);
      job = standard (pos 0) (pos 5 ∷ pos 40 ∷ pos 6 ∷ pos 6 ∷ pos 0 ∷ pos 0 ∷ pos 30 ∷ neg 4 ∷ neg 4 ∷ pos 0 ∷ []) [];
      buffer = pos 77 ∷ pos 77 ∷ [];
      reply = refused 28 0;
      table_left = pos 5 ∷ pos 40 ∷ pos 6 ∷ pos 6 ∷ pos 0 ∷ pos 0 ∷ pos 30 ∷ neg 4 ∷ neg 4 ∷ pos 0 ∷ [];
      buffer_left = pos 77 ∷ pos 77 ∷ [];
      printed = [];
    }

-- The program is given this text, and prints that one.
abbrev pub Prints : String → String → Type 0
Prints given prints = program (bytes given) ≡ bytes prints

-- The listing, and the one statement about it: the definitions give each case's words, all of them, and the words that the papers print are among them.
abbrev pub Right : Case → Type 0
Right c =
    ◌≡◌ {A = Outcome × List ℤ} (outcome c, take (length c.printed) c.buffer_left) (expected c, c.printed)

pub record Cases : Type 0 where
  pub k1_right : Right k1
  pub k1_text : Prints "100 1 0 10 0 1 2 0\n5 40 6 6 0\n0 30 -4 -4 0\n0\n" "settled 1 2\n0 5 40 6 6\n1 5 30 -4 -4\n"
  pub k2_right : Right k2
  pub k3_right : Right k3
  pub k4_right : Right k4
  pub k4_settled_right : Right k4_settled
  pub k5_right : Right k5
  pub k6_right : Right k6
  pub k6_conflict_right : Right k6_conflict
  pub k7_right : Right k7
  pub k8_right : Right k8
  pub k1_read_right : Right k1_read
  pub k9_strict_right : Right k9_strict
  pub k9_weak_right : Right k9_weak
  pub k9_false_right : Right k9_false
  pub k10_horizon_right : Right k10_horizon
  pub k10_stock_right : Right k10_stock
  pub k10_order_right : Right k10_order
  pub k1_later_right : Right k1_later
  pub k1_later_text : Prints "100 1 0 10 0 0 2 0\n5 40 6 6 0\n0 30 -4 -4 0\n0\n" "settled 1 2\n0 5 40 6 6\n1 6 30 -4 -4\n"
  pub k7_later_right : Right k7_later
  pub cover_refused_right : Right cover_refused
  pub cover_last_right : Right cover_last
  pub cover_first_right : Right cover_first
  pub two_cages_right : Right two_cages
  pub no_cage_right : Right no_cage
  pub cage_unknown_right : Right cage_unknown
  pub second_cage_right : Right second_cage
  pub cage_by_cage_right : Right cage_by_cage
  pub cage_last_right : Right cage_last
  pub set_least_total_right : Right set_least_total
  pub set_read_right : Right set_read
  pub set_most_total_right : Right set_most_total
  pub set_neutral_right : Right set_neutral
  pub set_before_events_right : Right set_before_events
  pub set_unquoted_right : Right set_unquoted
  pub set_no_member_right : Right set_no_member
  pub set_cut_right : Right set_cut
  pub set_many_right : Right set_many
  pub set_empty_right : Right set_empty
  pub set_twice_right : Right set_twice
  pub set_stranger_right : Right set_stranger
  pub set_turned_right : Right set_turned
  pub rule_15_right : Right rule_15
  pub crawl_right : Right crawl
  pub crawl_last_right : Right crawl_last
  pub crawl_more_right : Right crawl_more
  pub crawl_cut_right : Right crawl_cut
  pub crawl_read_right : Right crawl_read
  pub crawl_one_right : Right crawl_one
  pub crawl_room_right : Right crawl_room
  pub k1_one_right : Right k1_one
  pub k1_two_right : Right k1_two
  pub k1_high_right : Right k1_high
  pub still_one_right : Right still_one
  pub limit_negative_right : Right limit_negative
  pub limit_over_right : Right limit_over
  pub limit_lag_right : Right limit_lag
  pub limit_set_right : Right limit_set
  pub limit_room_right : Right limit_room

pub all_right : Cases
unfolding plan check plan_questions questions own_questions each run made agenda each_of attempt acted premise_list slip_words premise_words quotes quoted any every begun set_begin others finding earliest sure_part most_in sum windows premises_at whole slip_at reading premises_fit names all_true narrowed gives slip_questions read_from read_all job_text numbers_behind digits_value job_of next_sets slip_room event_lines line_of integer numeral last_digits
all_right =
    record {
      k1_right = refl;
      k1_text = refl;
      k2_right = refl;
      k3_right = refl;
      k4_right = refl;
      k4_settled_right = refl;
      k5_right = refl;
      k6_right = refl;
      k6_conflict_right = refl;
      k7_right = refl;
      k8_right = refl;
      k1_read_right = refl;
      k9_strict_right = refl;
      k9_weak_right = refl;
      k9_false_right = refl;
      k10_horizon_right = refl;
      k10_stock_right = refl;
      k10_order_right = refl;
      k1_later_right = refl;
      k1_later_text = refl;
      k7_later_right = refl;
      cover_refused_right = refl;
      cover_last_right = refl;
      cover_first_right = refl;
      two_cages_right = refl;
      no_cage_right = refl;
      cage_unknown_right = refl;
      second_cage_right = refl;
      cage_by_cage_right = refl;
      cage_last_right = refl;
      set_least_total_right = refl;
      set_read_right = refl;
      set_most_total_right = refl;
      set_neutral_right = refl;
      set_before_events_right = refl;
      set_unquoted_right = refl;
      set_no_member_right = refl;
      set_cut_right = refl;
      set_many_right = refl;
      set_empty_right = refl;
      set_twice_right = refl;
      set_stranger_right = refl;
      set_turned_right = refl;
      rule_15_right = refl;
      crawl_right = refl;
      crawl_last_right = refl;
      crawl_more_right = refl;
      crawl_cut_right = refl;
      crawl_read_right = refl;
      crawl_one_right = refl;
      crawl_room_right = refl;
      k1_one_right = refl;
      k1_two_right = refl;
      k1_high_right = refl;
      still_one_right = refl;
      limit_negative_right = refl;
      limit_over_right = refl;
      limit_lag_right = refl;
      limit_set_right = refl;
      limit_room_right = refl;
    }
