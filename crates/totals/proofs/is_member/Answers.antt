-- `totals::is_member` looks for y among the members. Assumes nothing.
use Rattle.std.proofs.Common.{ℕ, Bool, refl, ap, ◌∙◌, eqb, rules, tests, arith}
use Rattle.std.proofs.lemmas.Iterator.{YieldsList-from_range}
use Rattle.std.proofs.lemmas.Iterator.Search.{any_from_yields_List}
use Rattle.model.specs.Job.{any}
use Rattle.totals.specs.Totals.{event_at}
use Rattle.totals.proofs.Summing.{any_listed}
use Rattle.totals.proofs.is_member.Goals as goal

pub returns : goal.returns
returns c =
    let a = c.args in
    let n = c.count.result in
    let is_y : ℕ → Bool = λ k. eqb (event_at a.set.table.now a.set.at k) a.y in
    any_from_yields_List is_y _ _ c.any.result c.any.ensures.ran (YieldsList-from_range 0 n n refl (omega arith)) (λ x b q k. search (rules, tests))
    ∙ any_listed is_y n
    ∙ ap (λ n. any n is_y) c.count.ensures.0
