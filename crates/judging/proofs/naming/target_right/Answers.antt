-- `judging::naming::target_right` goes by the rule. Assumes nothing.
use mathlib.Core.Path.{refl}
use native.Mathlib.Omega.{arith}
use Rattle.totals.proofs.Summing.{reads}
use Rattle.judging.proofs.naming.target_right.Goals as goal

pub in_set-requires : goal.in_set-requires
in_set-requires c =
    let a = c.args in
    let p = c.requires in
    let l = rw c.in-Total.is at p.1 in
    let few = p.0.grouped.few in
    (omega arith, reads refl (p.0.grouped.sane a.e l))
