-- What a slip names: its subject, target and kind.
-- Assumes nothing.
use mathlib.Core.Path.{◌≡◌}
use mathlib.Core.Bool.{Bool, true, false, ◌&&◌}
use mathlib.Core.List.{List}
use Prim.Native.Nat.{ℕ, ◌<◌}
use native.Mathlib.Omega.{arith}
use lib.Dec.{T, ltb→lt}
use lib.IntN.{ℤ, pos, negsuc, nat_abs}
use lib.Signed.{le_z, lt_z}
use Rattle.integers.proofs.Tests.{and_out}
use Rattle.model.specs.Job.{events}
use Rattle.model.specs.Rules.{subjects, target_fits}
use Rattle.model.specs.Questions.{pass, ask, is_event}
use Rattle.model.specs.Reader.{kind_fits, premises_fit, names}
use Rattle.tables.specs.declared.Job.{Job}
use Rattle.rules.specs.Values.{rule_of}
use Rattle.rules.proofs.Numbering.{rule_number}
use Rattle.slips.specs.Slip.{explanation_of}
use Rattle.slips.specs.declared.Slip.{Slip}
use Rattle.judging.specs.Ready.{call_of, job_of, Seated}
use Rattle.judging.specs.declared.Call.{Call}

pub events_are : (k : Job) (cs table ws gs : List ℤ) → Seated k cs table ws gs → events (call_of k cs table ws gs) ≡ k.events
events_are k cs table ws gs seated = omega (arith, seated.long)

-- ---- question 14

-- A word that is the number of an event.
pub event_is : (n : ℕ) (w : ℤ) → T (is_event n w) → (nat_abs w < n) × T (le_z (pos 0) w)
event_is n (pos w) t =
    let o = and_out (le_z (pos 0) (pos w)) (lt_z (pos w) (pos n)) t in
    (ltb→lt w n o.1, o.0)
event_is n (negsuc w) t = absurd t

-- The five tests, of the code's job.
pub names_is : (c : Call) → events (job_of c) ≡ c.job.events → (s : Slip) →
    names (job_of c) (explanation_of s)
    ≡ (is_event (subjects (rule_of s.rule) (job_of c)) s.subject.0 && is_event c.job.events s.target.0 && premises_fit c.job.events (explanation_of s).premises && target_fits (rule_of s.rule) (job_of c) (nat_abs s.subject.0) (nat_abs s.target.0) && kind_fits (rule_of s.rule) s.kind.0 s.value.0)
unfolding names
names_is c counted s = rw (rule_number (rule_of s.rule), counted)

-- A question that passes is answered with yes.
pub said_yes : (q : ℕ) (t : Bool) → pass ≡ ask q t → T t
said_yes q true e = tt
said_yes q false e = cc
