-- `sets::sets` counts the sets that begin in the table: at set k, all k sets before it begin there. Assumes nothing.
use Rattle.std.proofs.Common.{◌≡◌, ◌*◌, ◌≤◌}
use Rattle.model.specs.Job.{set_begin, begun}
use Rattle.sets.proofs.sets.Given as goal

abbrev pub invariant-loop-k : goal.invariant-loop-k
invariant-loop-k l =
    (begun l.ws l.k ≡ l.k) × (l.set.table.now ≡ l.ws) × (l.set.at ≡ set_begin l.ws l.k) × (l.set.at ≤ 2147483651 * l.k)
