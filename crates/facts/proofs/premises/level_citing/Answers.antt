-- `facts::premises::level_citing` holds what a reservoir rule's slip quotes. Assumes nothing.
use mathlib.Core.Path.{◌∙◌, ap}
use native.Mathlib.Omega.{arith}
use Rattle.tables.specs.Board.{board}
use Rattle.model.specs.Job.{t_max}
use Rattle.model.specs.Facts.{latest, first_late}
use Rattle.rules.specs.Values.{family_of, effect_of}
use Rattle.levels.proofs.Adding.{wider, side_ranged}
use Rattle.facts.proofs.Quoting.{latest_within, level_cites}
use Rattle.facts.proofs.premises.level_citing.Goals as goal

pub first_late-requires : goal.first_late-requires
first_late-requires c =
    let a = c.args in
    let p = a.s.sighted in
    wider c.latest-to.ensures
    (latest_within (family_of a.f) c.e_max.result.0 (effect_of a.x)
    (wider c.e_max.ensures ((side_ranged a.s.view.stance.mirror p.ranged).range a.s.view.subject p.subject t_max) (omega arith)) c.requires)
    (omega arith)

pub returns : goal.returns
returns c =
    let a = c.args in
    let f = family_of a.f in
    let x = effect_of a.x in
    let to = c.latest-to in
    let o = c.others-o in
    let top = c.quotes_top-top in
    let late = c.late_before in
    let next = c.first_late in
    let last = c.last_early in
    rw c.then_some.ensures
    (level_cites a.s.view f (board a.s.board.now.words) a.y x c.e_min-from.result to.result next.result last.result o.result.early top.result o.result.late
    c.spares.result c.e_min-from.ensures (to.ensures ∙ ap (λ t. latest f t x) c.e_max.ensures)
    (next.ensures ∙ ap (λ b. first_late b to.result.0) late.ensures) last.ensures o.ensures top.ensures c.spares.ensures)
