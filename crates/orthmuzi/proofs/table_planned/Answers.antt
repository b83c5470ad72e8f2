-- What is printed of the planner's reply and its windows is the answer of the job planned.
use lib.Seq.{take-take}
use Rattle.std.proofs.Common.{◌≡◌, refl, ap, ◌∙◌, ℕ, ◌+◌, ◌-◌, ◌*◌, ◌≤◌, ℤ, List, length, take, drop, rules, arith}
use Rattle.model.specs.Planner.{Reply, plan}
use Rattle.model.specs.Text.{parsed}
use Rattle.model.specs.Print.{printed}
use Rattle.model.specs.Program.{slip_room, answered}
use Rattle.tables.specs.Job.{call}
use Rattle.scanner.specs.Layout.{at, windows_at, lags_at, sets_at, job_in, Room}
use Rattle.scanner.specs.declared.layout.Sizes.{Sizes}
use Rattle.printer.specs.Buffer.{Printed}
use Rattle.orthmuzi.proofs.table_planned.Goals as goal

module _ (s : Sizes) (t : List ℤ) (r : Room s t) where
  -- The first j words from place i on, as the code cuts them.
  part : (i j : ℕ) {l : List ℤ} → i + j ≤ length t → l ≡ take j (take (length t - i) (drop i t)) → l ≡ take j (drop i t)
  part i j h e = e ∙ take-take j (length t - i) (drop i t) (omega arith)

  planned_text : (cs w ls gs : List ℤ) {h b : ℤ} {reply : Reply} {u : List ℤ} {buffer : List ℕ} {n : ℕ} → reply ≡ (plan (call h cs w ls gs) b slip_room).reply → u ≡ (plan (call h cs w ls gs) b slip_room).table → Printed buffer n (printed reply u) → h ≡ at t 0 → b ≡ s.limit → cs ≡ take (4 * s.cages) (take (length t - 2) (drop 2 t)) → w ≡ take (windows_at s + 5 * s.events - windows_at s) (drop (windows_at s) t) → ls ≡ take (3 * s.lags) (take (length t - lags_at s) (drop (lags_at s) t)) → gs ≡ take s.words (take (length t - sets_at s) (drop (sets_at s) t)) → Printed buffer n (answered (parsed (job_in t s, s.limit)))
  planned_text cs w ls gs e f p h b c q l g =
      let q' : w ≡ take (5 * s.events) (drop (windows_at s) t) = q ∙ ap (λ n. take n (drop (windows_at s) t)) (omega arith) in
      rw (← part 2 (4 * s.cages) (omega (arith, r.inside)) c, ← q', ← part (lags_at s) (3 * s.lags) (omega (arith, r.inside)) l, ← part (sets_at s) s.words (omega (arith, r.inside)) g, ← h, ← b, ← e, ← f) p

pub returns : goal.returns
unfolding slip_room
returns c =
    planned_text c.args.s c.args.table.now c.requires.0 _ _ _ _ c.plan-reply.ensures.answer c.plan-reply.ensures.windows c.report.ensures (search rules) (search rules) refl c.copy_from_slice.ensures.after refl refl
