-- `export::orthmuzi_read` meets its contract: the reader's own, its reply told in numbers that fit a word.
-- Assumes nothing.
use mir.Facts.{to_z-of_z}
use Rattle.tables.specs.Job.{call}
use Rattle.export.proofs.Fitting.{check_small}
use Rattle.export.proofs.orthmuzi_read.Goals as goal

pub tell-requires : goal.tell-requires
tell-requires c =
    let a = c.check-reply.ensures.answer in
    let same = to_z-of_z c.ranges.h in
    rw (c.judged.ensures, a, same)
    (check_small (call c.args.h c.args.cages.now c.args.table.now c.args.lags.now c.args.sets.now) c.args.list.now)
