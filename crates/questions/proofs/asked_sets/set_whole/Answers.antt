use Rattle.std.proofs.Common.{rules, ◌≡◌, ◌+◌, add-one}
use Rattle.model.specs.Job.{set_begin}
use Rattle.sets.proofs.Walking.{begin_next}
use Rattle.questions.proofs.asked_sets.set_whole.Goals as goal

pub returns-then-g-lt16 : goal.returns-then-g-lt16
returns-then-g-lt16 c =
    let e = begin_next c.args.set.table.now c.args.g c.requires.at_is c.next.ensures.1 in
    search rules
