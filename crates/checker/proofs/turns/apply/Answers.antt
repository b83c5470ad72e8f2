-- `checker::turns::apply` stores the slip's bound, if it has one, at its rule's own end. Assumes nothing.
use Rattle.checker.proofs.Turning.{none_made, one_made}
use Rattle.checker.proofs.turns.apply.Goals as goal

pub returns-in-Some : goal.returns-in-Some
returns-in-Some c =
    let a = c.args in
    λ n h sent. one_made n sent a.s.now a.b.now.words a.b.now.whole c.in-Some.is h (rw c.own_end.ensures at c.set_end.ensures)

pub returns-in_default : goal.returns-in_default
returns-in_default c =
    let a = c.args in
    λ n h sent. none_made n sent a.s.now a.b.now.words c.in_default.is
