-- Where a rule does nothing, said of the level of its view, what it leaves over the limit, and the windows' widths; and that rules 5, 8, 11 and 14 leave the level as it is.
-- Assumes nothing.
use mathlib.Core.Path.{◌≡◌, refl, sym, ap, ap₂, ◌∙◌}
use mathlib.Core.Bool.{Bool, true, false}
use mathlib.Core.List.{List, [], ◌∷◌}
use Prim.Native.Nat.{ℕ, ◌+◌, ◌*◌, ◌≤◌, ◌<◌}
use native.Mathlib.Omega.{arith}
use lib.Dec.{eqb}
use lib.IntN.{ℤ, neg_ℤ, ◌+ℤ◌, ◌-ℤ◌}
use lib.ListN.{length, set}
use lib.Signed.{le_z, lt_z, ◌≤ℤ◌}
use Rattle.integers.proofs.Linear.{ints}
use Rattle.integers.proofs.Sums.{sum_ext}
use Rattle.integers.proofs.Tests.{is_true}
use Rattle.model.specs.Job.{End, t_min, t_max, h_min, h_max, slot, windows, Windows, ahead, Job, events}
use Rattle.model.specs.View.{shown, here, side_end, View, view, seen}
use Rattle.model.specs.Levels.{placed, e_min, e_max, stands, gain, gains, most_in, most}
use Rattle.model.specs.Rules.{Finding, nothing, clash, bound, given_if, level_rule, time_rule, targeted, height_rule, Family, level, time, height, Rule, reservoir, family_rule, family_end, rule, finding, own_end, idle, effect}
use Rattle.model.specs.Agenda.{Attempt, try, Each, each_of, target_attempts, three_attempts, event_attempts}
use Rattle.model.specs.Rounds.{State, Status, running, ended, acted, attempt, made}
use Rattle.model.proofs.Levels.{most_later}
use Rattle.model.proofs.Time.{Timed, timed, no_earlier}
use Rattle.model.proofs.Table.{store, slot_inside, windows_set}
use Rattle.model.proofs.Effects.{side_effect, effect_look, family_quiet}
use Rattle.model.proofs.Sweeps.{each_append, each_of_all, Step, same, stops, narrowed, failing, attempt_step}

-- ---- attempts that do nothing

abbrev pub Idle : Rule → Job → Windows → ℕ → ℕ → Type 0
Idle r j W e y = effect (own_end r) W y (finding r j W e y) ≡ idle

abbrev pub Still : Job → Windows → Attempt → Type 0
Still j W a = Idle (rule a.rule) j W a.subject a.target

pub attempt_idle : (room r : ℕ) (j : Job) (e y : ℕ) (s : State) → Idle (rule r) j (windows s.table) e y → attempt room r j e y s ≡ s
unfolding attempt acted
attempt_idle room r j e y s h = go s.status
  where
    go : (x : Status) → elim x [ running ↦ acted room r j e y (effect (own_end (rule r)) (windows s.table) y (finding (rule r) j (windows s.table) e y)) s | ended v ↦ s ] ≡ s
    go running = rw h
    go (ended v) = refl

-- Attempts of which each would do nothing leave the state as it is.
pub made_still : (room : ℕ) (j : Job) (s : State) (xs : List Attempt) → Each (Still j (windows s.table)) xs → made room j xs s ≡ s
unfolding made
made_still room j s [] h = refl
made_still room j s (a ∷ rest) h = rw (attempt_idle room a.rule j a.subject a.target s h.0) (made_still room j s rest h.1)

-- No target of rule r at e is moved.
pub targets_still : (r : ℕ) (j : Job) (W : Windows) (e : ℕ) → ((y : ℕ) → y < events j → Idle (rule r) j W e y) → Each (Still j W) (target_attempts j r e)
targets_still r j W e h = each_of_all (Still j W) (λ y. try r e y ∷ []) (events j) 0 (events j) (λ y l. (h y l, tt)) (omega arith)

-- Rules 3 to 14 do nothing at e.
pub record Quiet (j : Job) (W : Windows) (e : ℕ) : Type 0 where
  pub level_quiet : (m b : Bool) → Idle (reservoir m b level) j W e e
  pub time_quiet : (m b : Bool) → Idle (reservoir m b time) j W e e
  pub height_quiet : (m b : Bool) (y : ℕ) → y < events j → Idle (reservoir m b height) j W e y

module _ (j : Job) (W : Windows) (e : ℕ) (q : Quiet j W e) where
  three_still : (r : ℕ) (m b : Bool) → rule r ≡ reservoir m b level → rule (r + 1) ≡ reservoir m b time → rule (r + 2) ≡ reservoir m b height → Each (Still j W) (three_attempts j r e)
  three_still r m b f g h = (
    rw f (q.level_quiet m b),
    (rw g (q.time_quiet m b), targets_still (r + 2) j W e (λ y l. rw h (q.height_quiet m b y l))),
  )

  pub event_still : Each (Still j W) (event_attempts j e)
  event_still =
      each_append (Still j W) (three_attempts j 3 e) _ (three_still 3 false true refl refl refl)
      (each_append (Still j W) (three_attempts j 6 e) _ (three_still 6 true true refl refl refl)
      (each_append (Still j W) (three_attempts j 9 e) _ (three_still 9 false false refl refl refl)
      (three_still 12 true false refl refl refl)))

-- No rule does anything at k events in turn.
pub events_still : (j : Job) (W : Windows) (i k : ℕ) → i + k ≤ events j → ((e : ℕ) → e < events j → Quiet j W e) → Each (Still j W) (each_of (event_attempts j) i k)
events_still j W i k l q = each_of_all (Still j W) (event_attempts j) (events j) i k (λ e l. event_still j W e (q e l)) l

-- What a family does to the windows seen tells what the rule does.
pub seen_idle : (m b : Bool) (f : Family) (j : Job) (W : Windows) (e y : ℕ)
    → effect (family_end f) (seen j m e W) y (family_rule f (view j m b e) (seen j m e W) y) ≡ idle → Idle (reservoir m b f) j W e y
unfolding finding
seen_idle m b f j W e y h =
    effect_look (here j e) m (family_end f) W y (family_rule f (view j m b e) (seen j m e W) y) (family_quiet j m e (view j m b e) W y f)
    ∙ ap (side_effect m (family_end f)) h

-- ---- what a level tells of the rules

-- With k over the limit and y's width d no more than that, the bound v keeps both ends of y's window.
bound_under : {l m top low x v d k : ℤ} → x ≡ m -ℤ top → v ≡ l -ℤ x → d ≡ top -ℤ low → k ≡ m -ℤ l → l ≤ℤ m → d ≤ℤ k → (v ≤ℤ top) × (v ≤ℤ low)
bound_under a b c d f g = (omega ints, omega ints)

module _ (E : View) (W : Windows) where
  -- Rules 3 and 9: the level reaches the limit.
  pub level_idle : (y : ℕ) → E.limit ≤ℤ most E W → effect t_min W y (level_rule E W) ≡ idle
  level_idle y h = let q : lt_z (most E W) E.limit ≡ false = omega ints in rw q

  -- Rules 4 and 10: the level reaches the limit already with e at its earliest minute.
  pub time_idle : E.limit ≤ℤ most_in E W (e_min E W) (e_min E W) → effect t_min W E.subject (time_rule E W) ≡ idle
  time_idle h = go (time_rule E W) (timed E W)
    where
      go : (g : Finding) → Timed E W g → effect t_min W E.subject g ≡ idle
      go nothing w = refl
      go clash w = absurd w
      go (bound v) w =
          let a = no_earlier E W v (e_min E W) w.below h in
          rw (is_true (le_z v (e_max E W)) w.in_time.le, is_true (le_z v (e_min E W)) a.le)

  -- So does the level of e's whole window, where that is not empty.
  pub early_most : e_min E W ≤ℤ e_max E W → most_in E W (e_min E W) (e_min E W) ≤ℤ most E W
  early_most o = most_later E W (e_min E W) (e_min E W) (e_max E W) o

  -- Rules 5 and 11: y is no target.
  pub untargeted_idle : (y : ℕ) → targeted (stands E W y) (W y h_max) ≡ false → effect h_min W y (height_rule E W y) ≡ idle
  untargeted_idle y h = rw h

  -- Rules 5 and 11: what the level leaves over the limit is not negative and no less than the width of y's amounts.
  pub spared_idle : (y : ℕ) → E.limit ≤ℤ most E W → (W y h_max -ℤ W y h_min) ≤ℤ (most E W -ℤ E.limit) → effect h_min W y (height_rule E W y) ≡ idle
  spared_idle y a b =
      let p = bound_under refl refl refl refl a b in
      go (targeted (stands E W y) (W y h_max)) (E.limit -ℤ (most E W -ℤ W y h_max)) p.0 p.1
    where
      go : (t : Bool) (v : ℤ) → v ≤ℤ W y h_max → v ≤ℤ W y h_min → effect h_min W y (given_if t (bound v)) ≡ idle
      go true v p q = rw (is_true (le_z v (W y h_max)) p.le, is_true (le_z v (W y h_min)) q.le)
      go false v p q = refl

-- ---- the level stays

-- The ends that a level reads are the same.
abbrev pub Spares : ℕ → Windows → Windows → Type 0
Spares n W X = (y : ℕ) → y < n → (W y t_min ≡ X y t_min) × (W y t_max ≡ X y t_max) × (W y h_max ≡ X y h_max)

module _ (E : View) (W X : Windows) (a : Spares E.events W X) where
  most_in_spared : (u v : ℤ) → most_in E W u v ≡ most_in E X u v
  unfolding most_in
  most_in_spared u v = ap (λ x. E.opening +ℤ x) (sum_ext E.events (gains E W u v) (gains E X u v) term)
    where
      term : (y : ℕ) → y < E.events → gains E W u v y ≡ gains E X u v y
      term y l =
          ap₂ gain (ap₂ (λ p q. placed (eqb y E.subject) (E.before y) (ahead (E.before y) p u) (ahead (E.before y) q v)) (a y l).1 (a y l).0) (a y l).2

  pub most_spared : E.subject < E.events → most E W ≡ most E X
  most_spared r =
      most_in_spared (e_min E W) (e_max E W) ∙ ap₂ (λ u v. most_in E X u v) (a E.subject r).0 (a E.subject r).1

-- An attempt of rules 5, 8, 11 and 14 moves an end that the level of its view does not read.
module _ (room r : ℕ) (j : Job) (e y : ℕ) (s : State) (m : Bool) (own : own_end (rule r) ≡ side_end m h_min) (whole : length s.table ≡ 5 * events j) (event : y < events j) where
  stored_spares : (v : ℤ) → Spares (events j) (seen j m e (windows s.table)) (seen j m e (windows (set s.table (slot y (own_end (rule r))) v)))
  stored_spares v z l =
      let there : slot y (side_end m h_min) < length s.table = omega (arith, slot_inside (events j) y (side_end m h_min) event) in
      rw own (go m (windows_set s.table y (side_end m h_min) v there z))
    where
      go : (m : Bool) → ((k : End) → windows (set s.table (slot y (side_end m h_min)) v) z k ≡ store (windows s.table) y (side_end m h_min) v z k)
          → (seen j m e (windows s.table) z t_min ≡ seen j m e (windows (set s.table (slot y (side_end m h_min)) v)) z t_min)
          × (seen j m e (windows s.table) z t_max ≡ seen j m e (windows (set s.table (slot y (side_end m h_min)) v)) z t_max)
          × (seen j m e (windows s.table) z h_max ≡ seen j m e (windows (set s.table (slot y (side_end m h_min)) v)) z h_max)
      go true at = (sym (at t_min), sym (at t_max), ap (λ v. shown (here j e z) h_max (neg_ℤ v)) (sym (at h_min)))
      go false at = (sym (at t_min), sym (at t_max), ap (shown (here j e z) h_max) (sym (at h_max)))

  step_spares : (t : State) → Step room r j e y s t → Spares (events j) (seen j m e (windows s.table)) (seen j m e (windows t.table))
  step_spares t same = λ z l. (refl, refl, refl)
  step_spares t (stops on) = λ z l. (refl, refl, refl)
  step_spares t (narrowed v on q f) = stored_spares v
  step_spares t (failing on q f) = λ z l. (refl, refl, refl)

  pub attempt_spares : Spares (events j) (seen j m e (windows s.table)) (seen j m e (windows (attempt room r j e y s).table))
  attempt_spares = step_spares (attempt room r j e y s) (attempt_step room r j e y s)

  -- So the level is the same at each target.
  pub level_stays : (b : Bool) → e < events j → most (view j m b e) (seen j m e (windows (attempt room r j e y s).table)) ≡ most (view j m b e) (seen j m e (windows s.table))
  level_stays b l =
      sym (most_spared (view j m b e) (seen j m e (windows s.table)) (seen j m e (windows (attempt room r j e y s).table)) attempt_spares l)
