-- `judging::giving::does_right` asks 17 or 18. Assumes nothing.
use Rattle.std.proofs.Common.{rules}
use Rattle.rules.specs.Values.{rule_of}
use Rattle.rules.proofs.Numbering.{rule_number}
use Rattle.judging.proofs.giving.does_right.Goals as goal

pub returns : goal.returns
returns c = λ fs. rw (rule_number (rule_of c.args.s.now.slip.rule)) (search rules)
