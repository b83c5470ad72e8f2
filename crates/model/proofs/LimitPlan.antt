-- The round limit's claims of the planner's whole outcome, as Limit states them.
-- Assumes nothing.
use mathlib.Core.Path.{◌≡◌, refl, sym, ap, ◌∙◌}
use mathlib.Core.List.{List, ◌++◌, append-nil}
use Prim.Native.Nat.{ℕ, ◌+◌, ◌-◌}
use native.Mathlib.Omega.{arith}
use lib.Dec.{T}
use lib.IntN.{ℤ, pos, nat_abs}
use lib.ListN.{length, take, drop}
use lib.Seq.{take-append-add}
use Rattle.model.specs.Job.{Job}
use Rattle.model.specs.Slips.{trailer}
use Rattle.model.specs.Rounds.{Verdict, State}
use Rattle.model.specs.Questions.{pass, limit_right, plan_questions, questions}
use Rattle.model.specs.Planner.{done, Outcome, planned, plan, written, limited}
use Rattle.model.specs.Limit.{unlimited, CutsOff, LimitedPlan}
use Rattle.model.proofs.Questions.{limit_asked, limit_asks}
use Rattle.model.proofs.LimitProof.{cuts_off_call}
use Rattle.model.proofs.Refusals.{plan_passed, plan_planned}

-- The words of the slips, in what is written.
slips_there : (s : State) (buffer : List ℤ) (m : ℕ) → m ≡ length s.log + 3 → take (m - 3) (written s buffer) ≡ s.log
slips_there s buffer m e =
    let z : m - 3 ≡ length s.log + 0 = omega arith in
    rw z (take-append-add s.log (trailer s.slips s.last ++ drop (length s.log + 3) buffer) 0 ∙ append-nil s.log)

module _ (j : Job) (limit : ℤ) (buffer : List ℤ) (right : T (limit_right limit)) (v : Verdict) (slips rounds len : ℕ) (answer : (plan j (pos 0) buffer).reply ≡ done v slips rounds len) where
  passed : plan_questions j (pos 0) (length buffer) ≡ pass
  passed = plan_passed j (pos 0) buffer v slips rounds len answer

  asks : questions j (length buffer) ≡ pass
  asks = (limit_asked j (pos 0) (length buffer) passed).0

  cuts : CutsOff (length buffer) j
  cuts = cuts_off_call j (length buffer) asks

  freely : plan j (pos 0) buffer ≡ planned (unlimited (length buffer) j) buffer
  freely = plan_planned j (pos 0) buffer passed

  within : plan j limit buffer ≡ planned (limited (nat_abs limit) (length buffer) j) buffer
  within = plan_planned j limit buffer (limit_asks j limit (length buffer) asks right)

  reply_is : done (unlimited (length buffer) j).verdict (unlimited (length buffer) j).state.slips (unlimited (length buffer) j).rounds (length (unlimited (length buffer) j).state.log + 3) ≡ done v slips rounds len
  reply_is = sym (ap (λ (o : Outcome). o.reply) freely) ∙ answer

  -- What is done within the limit is the same; else it is cut off.
  pub limited_plan : LimitedPlan j limit buffer v slips rounds len
  limited_plan =
      let full = unlimited (length buffer) j in
      let part = limited (nat_abs limit) (length buffer) j in
      let r : full.rounds ≡ rounds = cc reply_is in
      let n : full.state.slips ≡ slips = cc reply_is in
      let m : length full.state.log + 3 ≡ len = cc reply_is in
      record {
        same_plan = λ l. within ∙ cuts.same_words (nat_abs limit) buffer (omega arith) ∙ sym freely;
        cut_plan = λ some l.
            let s = cuts.stops (nat_abs limit) some (omega arith) in
            let b = cuts.beginning (nat_abs limit) in (
              part.state.slips,
              length part.state.log + 3,
              b.0,
              rw (within, s.0, s.1),
              omega (arith, (cuts.fewer (nat_abs limit)).0),
              ap (λ (o : Outcome). take (len - 3) o.buffer) freely
                  ∙ slips_there full.state buffer len (sym m)
                  ∙ b.1
                  ∙ ap (λ (l : List ℤ). l ++ b.0) (sym (ap (λ (o : Outcome). take (length part.state.log + 3 - 3) o.buffer) within ∙ slips_there part.state buffer (length part.state.log + 3) refl)),
            );
      }
