-- `checker::judge` loads the windows, judges the list and stores the windows that it leaves. Assumes nothing.
use mathlib.Core.Path.{refl}
use native.Mathlib.Omega.{arith}
use Rattle.checker.proofs.Judging.{some_cage, few, window_table, trailer_right, called}
use Rattle.checker.proofs.judge.Goals as goal

pub of_cage-job-requires : goal.of_cage-job-requires
of_cage-job-requires c = omega (arith, some_cage c.requires)

pub load-requires : goal.load-requires
load-requires c = window_table c.requires

pub widen-requires : goal.widen-requires
widen-requires c = rw c.of_cage-job.ensures.events_are (few c.requires)

pub judge_slips-requires : goal.judge_slips-requires
judge_slips-requires c =
    (called c.requires refl refl refl refl c.of_cage-job.ensures c.load.ensures c.widen.ensures, trailer_right c.requires)

pub unload-requires : goal.unload-requires
unload-requires c = window_table c.requires
