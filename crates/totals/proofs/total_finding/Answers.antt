-- `totals::total_finding` is the bound by the set's slack. Assumes nothing.
use mathlib.Core.Path.{sym, ap, ◌∙◌}
use Rattle.model.specs.Rules.{bound}
use Rattle.totals.proofs.total_finding.Goals as goal

pub returns : goal.returns
returns c = λ j g o l t. ap bound (c.into.ensures ∙ c.total_bound.ensures) ∙ sym ((c.slack-s.ensures.0 j g o).gives _ l t)
