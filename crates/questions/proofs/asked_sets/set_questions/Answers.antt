use Rattle.std.proofs.Common.{rules, ◌<◌, T, ℕ, sym}
use Rattle.model.specs.Questions.{set_whole}
use Rattle.model.proofs.Questions.{all_out}
use Rattle.questions.proofs.asked_sets.set_questions.Goals as goal

pub each_set-requires-2 : goal.each_set-requires-2
each_set-requires-2 c =
    let m = c.sets-m.result in
    let whole = set_whole c.args.ws.now in
    let h : (i : ℕ) → i < m → T (whole i) = all_out 31 whole m (sym (c.in_ok-each_set.ensures whole (λ g s l at r p. search rules))) in
    search rules
