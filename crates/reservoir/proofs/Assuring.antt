-- Demands 1 to 3 of the call that plans and then reads, from the two contracts and the theory's theorem alone.
-- Assumes nothing.
use mathlib.Core.Path.{◌≡◌, refl, sym, ap, ◌∙◌}
use mathlib.Core.List.{List}
use Prim.Native.Nat.{ℕ, ◌≤◌}
use native.Mathlib.Omega.{arith}
use lib.IntN.{ℤ}
use lib.ListN.{length, take}
use Rattle.std.specs.Prelude.{Result, Ok, Err}
use Rattle.model.specs.Job.{Job}
use Rattle.model.specs.Rounds.{Verdict}
use Rattle.model.specs.Planner.{refused, done, plan}
use Rattle.model.specs.Reader.{check}
use Rattle.model.proofs.Questions.{asked, limit_asked}
use Rattle.model.proofs.Refusals.{plan_passed, plan_lengths}
use Rattle.model.specs.Demand.{echoed, Demand3}
use Rattle.model.proofs.DemandProof.{demand3, planner_keeps, planner_clash}
use Rattle.questions.specs.Numbers.{number_of}
use Rattle.questions.specs.declared.Refusal.{Refusal}
use Rattle.propagator.specs.Plans.{reply_of as answer_of}
use Rattle.propagator.specs.Runs.{verdict_of}
use Rattle.propagator.specs.declared.Answer.{Answer}
use Rattle.checker.specs.Judgement.{reply_of as judgement_of}
use Rattle.checker.specs.declared.Judgement.{Judgement}
use Rattle.reservoir.specs.Assured.{judged, Taken, Assured}
use Rattle.reservoir.specs.declared.Checked.{Checked}

not_both : {A : Type 0} (v : Verdict) (a b c n p : ℕ) → done v a b c ≡ refused n p → A
not_both v a b c n p e = cc

module _ (j : Job) (limit : ℤ) (buffer : List ℤ) where
  abbrev theorem : Demand3 j
  theorem = demand3 j

  pub assured_unread : {table' buffer' : List ℤ} (r : Refusal) → answer_of (Err r) ≡ (plan j limit buffer).reply → table' ≡ (plan j limit buffer).table → buffer' ≡ (plan j limit buffer).buffer → Assured j limit buffer table' buffer' (Err r)
  assured_unread r ea et eb =
      let u = theorem.planner_refuses limit buffer (number_of r.question) r.place (sym ea) in
      record {
        answer = ea;
        windows_left = et;
        slips_left = eb;
        untouched = λ n p k. (et ∙ u.same_table, eb ∙ u.same_buffer, k);
        taken = λ v s m len k. not_both v s m len (number_of r.question) r.place (sym k);
      }

  module _ (x : Answer) (ea : answer_of (Ok x) ≡ (plan j limit buffer).reply) where
    pub few : length j.window_table ≤ 320
    few =
        let k = asked j (length buffer) (limit_asked j limit (length buffer) (plan_passed j limit buffer (verdict_of x.verdict) x.slips x.rounds x.length (sym ea))).0 in
        let m = k.sane.few_events in
        let n = k.whole_events in
        omega arith

    module _ {buffer' : List ℤ} (eb : buffer' ≡ (plan j limit buffer).buffer) where
      pub fits : x.length ≤ length buffer'
      fits =
          let k = (theorem.complete limit buffer (verdict_of x.verdict) x.slips x.rounds x.length (sym ea)).fits in
          let m = (plan_lengths j limit buffer).1 in
          let n = ap length eb in
          omega arith

      module _ {table' : List ℤ} (et : table' ≡ (plan j limit buffer).table) where
        read : (v : Verdict) (s m n : ℕ) → done (verdict_of x.verdict) x.slips x.rounds x.length ≡ done v s m n → (r : Result Checked Refusal) → judgement_of (judged r) ≡ (check j (take x.length buffer')).reply → Taken j table' buffer' v n r
        read v s m n k r g =
            let y : x.length ≡ n = cc in
            let d : (plan j limit buffer).reply ≡ done v s m n = sym ea ∙ k in
            let o = theorem.complete limit buffer v s m n d in
            let i : take x.length buffer' ≡ take n (plan j limit buffer).buffer = rw (eb, y) in
            record {
              read = g ∙ rw i o.reply;
              left = rw (eb, et) o.same_table;
              means = rw eb (theorem.sound (take n (plan j limit buffer).buffer) (echoed v) 0 0 0 o.reply);
              keeps = rw et (planner_keeps j limit buffer v s m n d);
              none = planner_clash j limit buffer v s m n d;
            }

        pub assured_read : (v' : Judgement) → judgement_of (Ok v') ≡ (check j (take x.length buffer')).reply → Assured j limit buffer table' buffer' (Ok (record { answer = x; judgement = v' }))
        assured_read v' g =
            record {
              answer = ea;
              windows_left = et;
              slips_left = eb;
              untouched = λ n p k. not_both (verdict_of x.verdict) x.slips x.rounds x.length n p k;
              taken = λ v s m n k. read v s m n k (Ok (record { answer = x; judgement = v' })) g;
            }

        -- The reader refuses no list that the planner wrote.
        pub accepted : {A : Type 0} (r : Refusal) → judgement_of (Err r) ≡ (check j (take x.length buffer')).reply → A
        accepted r g =
            let t = read (verdict_of x.verdict) x.slips x.rounds x.length refl (Err r) g in
            not_both (echoed (verdict_of x.verdict)) 0 0 0 (number_of r.question) r.place (sym t.read)
