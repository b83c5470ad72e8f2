-- `rules::Attempt::effect` is the effect of the rule's finding. Assumes nothing.
use mathlib.Core.Path.{sym, ap, ◌∙◌}
use Rattle.model.specs.Rules.{own_end, effect}
use Rattle.rules.specs.Values.{rule_of, finding_of}
use Rattle.rules.specs.Attempts.{on}
use Rattle.rules.proofs.Doing.{new_narrower, new_range}
use Rattle.rules.proofs.Attempt.effect.Goals as goal

pub returns : goal.returns
returns c =
    let a = c.args.self in
    let k = own_end (rule_of a.rule) in
    let d = c.finding_effect.ensures in
    let f = finding_of c.finding.result in
    record {
      is = λ j h. d ∙ ap (effect k (on a) a.target) (c.finding.ensures j h);
      narrower = λ v e. new_narrower (on a) k a.target f v (sym d ∙ e);
      range = λ v e. new_range k a.target f v a.tried.windows a.tried.target (sym d ∙ e);
    }
