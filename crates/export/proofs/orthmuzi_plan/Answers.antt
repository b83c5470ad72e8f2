-- `export::orthmuzi_plan` meets its contract: the planner's own, its reply told in numbers that fit a word.
-- Assumes nothing.
use mir.Facts.{to_z-of_z}
use Rattle.tables.specs.Job.{call}
use Rattle.export.proofs.Fitting.{plan_small}
use Rattle.export.proofs.orthmuzi_plan.Goals as goal

pub tell-requires : goal.tell-requires
tell-requires c =
    let a = c.plan-reply.ensures.answer in
    let same = to_z-of_z c.ranges.h in
    let bound = to_z-of_z c.ranges.limit in
    rw (c.planned.ensures, a, same, bound)
    (plan_small (call c.args.h c.args.cages.now c.args.table.now c.args.lags.now c.args.sets.now) c.args.limit c.args.buffer.now)
