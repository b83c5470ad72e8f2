-- Rules 17 and 18 by a set's slack.
-- Assumes nothing.
use mathlib.Core.Path.{◌≡◌, refl, sym, ap, subst, ◌∙◌}
use mathlib.Core.Bool.{Bool, true, false, cond, ◌&&◌}
use mathlib.Core.List.{List}
use Prim.Native.Nat.{ℕ, ◌<◌}
use lib.Dec.{T}
use lib.IntN.{ℤ, pos, neg_ℤ, ◌+ℤ◌, ◌-ℤ◌}
use lib.Signed.{le_z, ◌≤ℤ◌}
use Rattle.integers.proofs.Linear.{ints, add_law, sub_law, neg_law}
use Rattle.integers.proofs.Tests.{is_true, true_is, and_out}
use Rattle.model.specs.Job.{h_min, h_max, Windows, events, in_set, set_begin, Job as Call}
use Rattle.model.specs.Standing.{SaneSet}
use Rattle.model.specs.View.{side, side_value, look}
use Rattle.model.specs.Rules.{bound, total, total_limit, others, finding, idle}
use Rattle.model.proofs.Totals.{members_sum, others_and_own}
use Rattle.totals.specs.Totals.{limit_at, total_at, slack_at, SetOf, bound_by, does_by, Slack}

-- ---- what a slack gives

-- limit − others is own − (total − limit), where the others and one's own come to the total.
regrouped : (limit rest own whole : ℤ) → rest +ℤ own ≡ whole → (limit -ℤ rest) ≡ own -ℤ (whole -ℤ limit)
regrouped limit rest own whole e = omega (ints, add_law rest own, sub_law limit rest, sub_law whole limit, sub_law own (whole -ℤ limit))

same_limit : (m : Bool) (j : Call) (g : ℕ) → total_limit m j g ≡ limit_at m j.set_table (set_begin j.set_table g)
same_limit true j g = refl
same_limit false j g = refl

gives_at : (m : Bool) (j : Call) (g : ℕ) (W : Windows) → SaneSet (events j) j.set_table g → (y : ℕ) → y < events j → T (in_set j g y) →
    finding (total m) j W g y ≡ bound (bound_by m W y (slack_at m j.set_table (set_begin j.set_table g) W))
unfolding finding
gives_at m j g W s y l t =
    let ws = j.set_table in
    let at = set_begin ws g in
    let L = look (in_set j g) m W in
    let own : L y h_max ≡ side m W y h_max = ap (λ b. cond b (side m W y h_max) (pos 0)) (is_true (in_set j g y) t) in
    let a : others (events j) L y +ℤ side m W y h_max ≡ total_at m ws at W = ap (λ x. others (events j) L y +ℤ x) (sym own) ∙ others_and_own (events j) L y l ∙ sym (members_sum s (λ z. side m W z h_max)) in
    ap (λ v. bound (side_value m h_min v))
    (ap (λ v. v -ℤ others (events j) L y) (same_limit m j g) ∙ regrouped (limit_at m ws at) (others (events j) L y) (side m W y h_max) (total_at m ws at W) a)

-- As the code takes it.
pub slack_is : (m : Bool) (ws : List ℤ) (at : ℕ) (W : Windows) {t l r : ℤ} → t ≡ total_at m ws at W → l ≡ limit_at m ws at → r ≡ t -ℤ l → r ≡ slack_at m ws at W
slack_is m ws at W p q r = rw (← p, ← q) r

pub slackens : (m : Bool) {ws : List ℤ} {at : ℕ} (j : Call) (g : ℕ) (W : Windows) {s : ℤ} → s ≡ slack_at m ws at W → SetOf ws at j g → Slack j g m W s
slackens m {ws} {at} j g W {s} e o =
    let here : SaneSet (events j) j.set_table g = subst (λ ws. SaneSet (events j) ws g) (sym o.sets_are) o.sane in
    let same : slack_at m j.set_table (set_begin j.set_table g) W ≡ s = rw (o.sets_are, ← o.begins) (sym e) in
    record { gives = λ y l t. gives_at m j g W here y l t ∙ ap (λ s. bound (bound_by m W y s)) same }

-- ---- what it does

-- With a slack s that is not below 0 and a width d no more than that, the bound v keeps both ends of the window.
under : {low top s d v : ℤ} → d ≡ top -ℤ low → v ≡ top -ℤ s → pos 0 ≤ℤ s → d ≤ℤ s → (v ≤ℤ top) × (v ≤ℤ low)
under a b h k = (omega ints, omega ints)

-- The same in the mirror.
over : {low top s d u v : ℤ} → d ≡ top -ℤ low → u ≡ neg_ℤ low -ℤ s → v ≡ neg_ℤ u → pos 0 ≤ℤ s → d ≤ℤ s → (low ≤ℤ v) × (top ≤ℤ v)
over {low} {top} {s} {d} {u} a b c h k = (omega (ints, neg_law low, neg_law u), omega (ints, neg_law low, neg_law u))

-- Nothing, where the slack is not below 0 and y's window not wider than it.
pub spared : (m : Bool) (W : Windows) (y : ℕ) (s : ℤ) → (le_z (pos 0) s && le_z (W y h_max -ℤ W y h_min) s) ≡ true → does_by m W y s ≡ idle
spared m W y s t =
    let p = and_out (le_z (pos 0) s) (le_z (W y h_max -ℤ W y h_min) s) (true_is t) in
    go m (record { le = p.0 }) (record { le = p.1 })
  where
    go : (m : Bool) → pos 0 ≤ℤ s → (W y h_max -ℤ W y h_min) ≤ℤ s → does_by m W y s ≡ idle
    go false a b =
        let v = W y h_max -ℤ s in
        let p = under {v = v} refl refl a b in
        rw (is_true (le_z v (W y h_max)) p.0.le, is_true (le_z v (W y h_min)) p.1.le)
    go true a b =
        let v = neg_ℤ (neg_ℤ (W y h_min) -ℤ s) in
        let p = over {low = W y h_min} {top = W y h_max} {u = neg_ℤ (W y h_min) -ℤ s} {v = v} refl refl refl a b in
        rw (is_true (le_z (W y h_min) v) p.0.le, is_true (le_z (W y h_max) v) p.1.le)
