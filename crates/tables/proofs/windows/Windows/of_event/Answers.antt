-- `Windows::of_event` reads one event's four words. Assumes nothing.
use Prim.Native.Nat.{ℕ, ◌+◌, ◌*◌}
use native.Mathlib.Nat.{add-zero}
use lib.IntN.{ℤ, pos}
use lib.ListN.{get_or}
use mathlib.Core.Path.{◌∙◌, sym, ap}
use Rattle.integers.proofs.Linear.{back32}
use Rattle.model.specs.Job.{t_min, t_max, h_min, h_max, windows}
use Rattle.tables.proofs.windows.Windows.of_event.Goals as goal

pub returns : goal.returns
unfolding windows
returns c =
    let a = c.args in
    let at : ℕ → ℤ = λ i. get_or a.table.now i (pos 0) in
    elim [
      | t_min ↦ back32 (at (5 * a.y)) (search) ∙ ap at (sym (add-zero _))
      | t_max ↦ back32 (at (5 * a.y + 1)) (search)
      | h_min ↦ back32 (at (5 * a.y + 2)) (search)
      | h_max ↦ back32 (at (5 * a.y + 3)) (search)
    ]
