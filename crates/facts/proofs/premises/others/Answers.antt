use mathlib.Core.Path.{refl}
use Rattle.tables.specs.Board.{board}
use Rattle.model.specs.Facts.{early, late}
use Rattle.levels.specs.Values.{as_view, seen_by}
use Rattle.facts.proofs.Quoting.{any_none, any_more}
use Rattle.facts.proofs.premises.others.Goals as goal

pub loop-y-init : goal.loop-y-init
loop-y-init c =
    let a = c.args in
    let E = as_view a.view (board a.b.now.words) in
    let W = seen_by a.view (board a.b.now.words) in
    record { early = any_none (early E W a.u.0 a.v.0); late = any_none (late E W a.u.0 a.v.0) }

pub loop-y-preserved : goal.loop-y-preserved
loop-y-preserved c =
    let a = c.args in
    let l = c.loop-y in
    let E = as_view a.view (board a.b.now.words) in
    let W = seen_by a.view (board a.b.now.words) in
    let o = c.other-one.ensures in
    record {
      early = any_more (early E W a.u.0 a.v.0) l.y l.invariant.early o.early refl;
      late = any_more (late E W a.u.0 a.v.0) l.y l.invariant.late o.late refl;
    }
