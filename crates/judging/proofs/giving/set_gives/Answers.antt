-- `judging::giving::set_gives` is question 16 for a set's rules. Assumes nothing.
use mathlib.Core.Path.{sym, ap, ◌∙◌}
use Rattle.model.specs.Rules.{finding}
use Rattle.tables.specs.Board.{board}
use Rattle.totals.specs.Totals.{SetOf}
use Rattle.judging.proofs.Passing.{gives_by}
use Rattle.judging.proofs.giving.set_gives.Goals as goal

pub returns : goal.returns
returns c =
    let a = c.args in
    let s = a.s.now in
    let p = c.requires in
    let W = board a.b.now.words in
    λ j h fs.
    let here = c.of_table-set.ensures in
    let set : SetOf c.of_table-set.result.table.now c.of_table-set.result.at j s.subject = rw here.0 (record { sets_are = h.sets_are; begins = here.1; sane = h.sane }) in
    gives_by j W s fs (c.total_finding.ensures j s.subject set h.event h.member ∙ ap (λ ρ. finding ρ j W s.subject s.target) (sym p.rule_is)) c.concludes.ensures
