use Rattle.std.proofs.Common.{◌∙◌, ap, not, arith}
use Rattle.questions.proofs.Members.{new_among}
use Rattle.questions.proofs.asked_sets.is_new.Goals as goal

pub returns : goal.returns
returns c = ap not c.contains.ensures.value ∙ new_among c.args.members.now c.args.i _ (omega arith)
