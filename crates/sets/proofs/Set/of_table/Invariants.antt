-- `sets::Set::of_table` walks the sets before: set k of the table. Assumes nothing.
use Rattle.std.proofs.Common.{◌≡◌, ◌*◌, ◌≤◌}
use Rattle.model.specs.Job.{set_begin}
use Rattle.sets.proofs.Set.of_table.Given as goal

abbrev pub invariant-loop-k : goal.invariant-loop-k
invariant-loop-k l =
    (l.set.table.now ≡ l.table) × (l.set.at ≡ set_begin l.table l._k) × (l.set.at ≤ 2147483651 * l._k)
