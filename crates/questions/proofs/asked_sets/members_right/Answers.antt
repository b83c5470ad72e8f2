use Rattle.std.proofs.Common.{rules}
use Rattle.questions.proofs.Members.{whole_ends, members_are}
use Rattle.questions.proofs.asked_sets.members_right.Goals as goal

pub members-members-requires : goal.members-members-requires
members-members-requires c =
    let r = c.requires in
    whole_ends c.args.set.table.now c.args.g r.2 r.1.at_is

pub returns-then-not-is_empty : goal.returns-then-not-is_empty
returns-then-not-is_empty c =
    let r = c.requires in
    let h = members_are c.args.n c.args.set.table.now c.args.g r.2 r.1.at_is c.members-members.ensures in
    search rules

pub returns-else-not-is_empty : goal.returns-else-not-is_empty
returns-else-not-is_empty c =
    let r = c.requires in
    let h = members_are c.args.n c.args.set.table.now c.args.g r.2 r.1.at_is c.members-members.ensures in
    search rules
