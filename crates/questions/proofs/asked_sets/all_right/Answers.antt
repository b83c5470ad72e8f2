use Rattle.std.proofs.Common.{rules}
use Rattle.questions.proofs.Ranges.{all_below}
use Rattle.questions.proofs.asked_sets.all_right.Goals as goal

pub returns : goal.returns
returns c = all_below _ _ _ _ c.all.result c.all.ensures.ran (λ x b q k. search rules)
