-- What is passed over would do nothing; and the level of rules 5, 8, 11 and 14 is the same at each target.
-- Assumes nothing.
use mathlib.Core.Path.{◌≡◌, refl, sym, ap, subst, ◌∙◌}
use mathlib.Core.Bool.{Bool, true, false}
use mathlib.Core.List.{List, [], ◌∷◌}
use Prim.Native.Nat.{ℕ, ◌+◌, ◌-◌, ◌*◌, ◌/◌, ◌≤◌, ◌<◌}
use native.Mathlib.Omega.{arith}
use lib.IntN.{ℤ, ◌-ℤ◌}
use lib.ListN.{length, take}
use Rattle.model.specs.Job.{h_min, windows, Windows, lags, events, Reservoir, Job as Call}
use Rattle.model.specs.View.{side_end, side_limit, View, view, here, seen}
use Rattle.model.specs.Levels.{most}
use Rattle.model.specs.Rules.{Rule, rule, subjects, Family, level, time, height, reservoir, own_end}
use Rattle.model.specs.Agenda.{Attempt, try, Each, lag_attempts, target_attempts, event_attempts}
use Rattle.model.specs.Rounds.{State, Status, attempt, made}
use Rattle.model.proofs.Agree.{most_agree, look_agree, outcome_agree}
use Rattle.model.proofs.Silence.{Idle, Still, Quiet, made_still, targets_still, event_still, events_still, level_stays}
use Rattle.tables.specs.Board.{board, table_of}
use Rattle.tables.specs.Job.{reservoir_of, board_call, Kinds, Serves}
use Rattle.tables.specs.declared.Job.{Job}
use Rattle.tables.proofs.Boarding.{length_table}
use Rattle.tables.proofs.Holding.{lags_of, board_serves, serves_alike}
use Rattle.levels.specs.Values.{as_view, seen_by, Views, Sighted}
use Rattle.levels.specs.declared.View.{View as Sight}
use Rattle.levels.proofs.Viewing.{events_are, subject_is, sighted, most_here}
use Rattle.rules.specs.Values.{IsLag}
use Rattle.rules.specs.declared.lags.Lag.{Lag}
use Rattle.silence.specs.Slack.{slack_of, moves, some_move}
use Rattle.silence.specs.Calm.{reaches_early, spread_of, calm, all_calm, lag_kept}
use Rattle.silence.proofs.Sparing.{still_idle, none_moves}
use Rattle.silence.proofs.Calming.{reached_apart, calm_quiet, all_calm_each, lag_idle}
use Rattle.rules.specs.Numbers.{number_of}
use Rattle.rounds.specs.State.{status_of, room, state_of, fixed, Of, Moves, Made}
use Rattle.rounds.specs.Sweeps.{first_of, first_in, Seen, Looks, Leaves, two_attempts, between_attempts}
use Rattle.rounds.specs.declared.Log.{Log}
use Rattle.rounds.specs.declared.CageJob.{CageJob}
use Rattle.rounds.proofs.Moves.{agree, leads_none, job_is, made_rest}

-- ---- the rules of a side at an event

-- Rule r is the one of a family in the view v, which is the job's at one of its events.
pub record Sees (k : CageJob) (r : ℕ) (f : Family) (v : Sight) : Type 0 where
  pub rule_is : rule r ≡ reservoir v.stance.mirror v.stance.strict f
  pub looks : Looks k v

level_first : (m s : Bool) → rule (first_of m s) ≡ reservoir m s level
level_first false true = refl
level_first true true = refl
level_first false false = refl
level_first true false = refl

time_next : (m s : Bool) → rule (first_of m s + 1) ≡ reservoir m s time
time_next false true = refl
time_next true true = refl
time_next false false = refl
time_next true false = refl

height_last : (m s : Bool) → rule (first_of m s + 2) ≡ reservoir m s height
height_last false true = refl
height_last true true = refl
height_last false false = refl
height_last true false = refl

-- Their numbers.
pub level_number : (m s : Bool) → number_of (reservoir m s level) ≡ first_of m s
level_number false true = refl
level_number true true = refl
level_number false false = refl
level_number true false = refl

pub time_number : (m s : Bool) → number_of (reservoir m s time) ≡ first_of m s + 1
time_number false true = refl
time_number true true = refl
time_number false false = refl
time_number true false = refl

pub height_number : (m s : Bool) → number_of (reservoir m s height) ≡ first_of m s + 2
height_number false true = refl
height_number true true = refl
height_number false false = refl
height_number true false = refl

-- A view says itself what it is of.
module _ {n : ℕ} {c : Reservoir} {m b : Bool} {e : ℕ} {v : Sight} (s : Views n c m b e v) where
  own_view : Views n c v.stance.mirror v.stance.strict v.subject v
  own_view = record { is = λ W. s.is W ∙ rw (s.side_is, s.strict_is, subject_is s); side_is = refl; strict_is = refl }

-- It is one of the job's.
pub looks : (k : CageJob) {m b : Bool} {e : ℕ} {v : Sight} → Seen k m b e v → e < k.job.events → Looks k v
looks k s l = record { views = own_view s; subject = rw (subject_is s) l }

-- What it looks at is in range.
pub sight_of : (k : CageJob) {v : Sight} → Looks k v → Sighted v (board k.board.now.words)
sight_of k s = sighted s.views k.fit.cage k.held.ranged s.subject

-- Its rules are the families'.
module _ (k : CageJob) {v : Sight} (s : Looks k v) where
  sees : (r : ℕ) {f : Family} → rule r ≡ reservoir v.stance.mirror v.stance.strict f → Sees k r f v
  sees r i = record { rule_is = i; looks = s }

  pub sees_level : Sees k (first_in v) level v
  sees_level = sees (first_in v) (level_first v.stance.mirror v.stance.strict)

  pub sees_time : Sees k (first_in v + 1) time v
  sees_time = sees (first_in v + 1) (time_next v.stance.mirror v.stance.strict)

  pub sees_height : Sees k (first_in v + 2) height v
  sees_height = sees (first_in v + 2) (height_last v.stance.mirror v.stance.strict)

-- After a move the view is the job's still.
module _ {f : Call → State → State} {k : CageJob} {l : Log} {k' : CageJob} {l' : Log} (m : Moves f k l k' l') where
  pub looks_next : {v : Sight} → Looks k v → Looks k' v
  looks_next s = record { views = rw (job_is m.stays) s.views; subject = rw (job_is m.stays) s.subject }

  pub there_next : {e : ℕ} → e < k.job.events → e < k'.job.events
  there_next l = rw (job_is m.stays) l

-- ---- what does nothing on the board does nothing to the table

module _ (k : CageJob) where
  -- The windows on the board, and in a call's table.
  abbrev W : Windows
  W = board k.board.now.words

  abbrev U : Call → Windows
  U j = windows (table_of k.job.events j.window_table k.board.now.words)

  table_idle : (j : Call) → Of k j → (x : Rule) (e y : ℕ) → e < subjects x j → y < k.job.events → Idle x j W e y → Idle x j (U j) e y
  table_idle j h x e y l m i = outcome_agree j (U j) W (rw h.holds.events_are (agree k.job.events j.window_table k.board.now.words)) (lags_of h.holds k.fit) x e y l (rw h.holds.events_are m) ∙ i

  module _ {r : ℕ} {f : Family} {v : Sight} (s : Sees k r f v) where
    -- What the rule of the family does not do on the board, rule r does not do to the table.
    seen_still : (j : Call) → Of k j → (y : ℕ) → y < k.job.events → Idle (reservoir v.stance.mirror v.stance.strict f) j W v.subject y → Idle (rule r) j (U j) v.subject y
    seen_still j h y m i = rw s.rule_is (table_idle j h (reservoir v.stance.mirror v.stance.strict f) v.subject y (rw h.holds.events_are s.looks.subject) m i)

  -- Where the level's slack does not move y.
  target_still : {r : ℕ} {v : Sight} {s : ℤ} → Sees k r height v → Leaves v k.board.now.words s → (j : Call) → Of k j → (y : ℕ) → y < k.job.events → moves (as_view v W) (seen_by v W) W s y ≡ false → Idle (rule r) j (U j) v.subject y
  target_still {v = v} {s} sees leaves j h y m e =
      let o = h.holds in
      seen_still sees j h y m (still_idle v.stance.mirror v.stance.strict W v.subject y h (rw o.events_are sees.looks.subject) (rw o.events_are m) {k = s}
      (subst (λ (E : View). s ≡ slack_of E (seen_by v W)) (sees.looks.views.is W) leaves)
      (subst (λ (E : View). moves E (seen_by v W) W s y ≡ false) (sees.looks.views.is W) e))

  -- What is quiet on the board is quiet in the table.
  table_quiet : (j : Call) → Of k j → (e : ℕ) → e < events j → Quiet j W e → Quiet j (U j) e
  table_quiet j h e l q =
      let l' = rw h.holds.events_are at l in
      record {
        level_quiet = λ m s. table_idle j h (reservoir m s level) e e l l' (q.level_quiet m s);
        time_quiet = λ m s. table_idle j h (reservoir m s time) e e l l' (q.time_quiet m s);
        height_quiet = λ m s y o. table_idle j h (reservoir m s height) e y l (rw h.holds.events_are at o) (q.height_quiet m s y o);
      }

  calm_still : {d : ℤ} → d ≡ spread_of k.job.events W → (e : ℕ) → calm k.job.events (reservoir_of k.job.reservoir) W e d ≡ true → (j : Call) → Of k j → e < events j → Quiet j (U j) e
  calm_still {d} spread e c j h l = table_quiet j h e l (calm_quiet W e {d = d} h l spread c)

  -- ---- what is passed over

  module _ (l : Log) {k' : CageJob} (stays : fixed k' ≡ fixed k) (same : k'.board.now.words ≡ k.board.now.words) where
    -- Attempts that would do nothing are as if made.
    passed : (todo : Call → List Attempt) → ((j : Call) → Of k j → Each (Still j (U j)) (todo j)) → Made todo k l k' l
    passed todo h = made_rest todo stays same (leads_none (λ j q. made_still (room l) j (state_of k.job.events j.window_table k.board.now.words l) (todo j) (h j q)))

    pub lag_passed : {g : ℕ} {lag : Lag} {t : Bool} → g < length k.lags.now / 3 → IsLag k.lags.now g lag → t ≡ lag_kept lag W → t ≡ true → Made (λ j. lag_attempts j g) k l k' l
    lag_passed {g} m is i e =
        passed (λ j. lag_attempts j g) (λ j h.
        let there : g < lags j = rw h.holds.lags_are m in
        let both = lag_idle j W g (rw h.holds.lags_are is) (sym i ∙ e) in
        let lag = lags_of h.holds k.fit g there in
        (table_idle j h (rule 1) g _ there (rw h.holds.events_are at lag.real_a) both.0, (table_idle j h (rule 2) g _ there (rw h.holds.events_are at lag.real_b) both.1, tt)))

    pub two_passed : {r : ℕ} {v : Sight} {t : Bool} → Sees k r level v → Sees k (r + 1) time v → t ≡ reaches_early (as_view v W) (seen_by v W) → t ≡ true → Made (λ j. two_attempts r v.subject) k l k' l
    two_passed {r} {v} first second m e =
        passed (λ j. two_attempts r v.subject) (λ j h.
        let there : v.subject < events j = rw h.holds.events_are first.looks.subject in
        let both = reached_apart v.stance.mirror v.stance.strict W v.subject h there (subst (λ (E : View). reaches_early E (seen_by v W) ≡ true) (first.looks.views.is W) (sym m ∙ e)) in
        (seen_still first j h v.subject first.looks.subject both.0, (seen_still second j h v.subject first.looks.subject both.1, tt)))

    module _ {r : ℕ} {v : Sight} {s : ℤ} (sees : Sees k r height v) (leaves : Leaves v k.board.now.words s) where
      pub target_passed : {y : ℕ} {t : Bool} → y < k.job.events → t ≡ moves (as_view v W) (seen_by v W) W s y → t ≡ false → Made (λ j. try r v.subject y ∷ []) k l k' l
      target_passed {y} m i f = passed (λ j. try r v.subject y ∷ []) (λ j h. (target_still sees leaves j h y m (sym i ∙ f), tt))

      pub targets_passed : {t : Bool} → t ≡ some_move (as_view v W) (seen_by v W) W s → t ≡ false → Made (λ j. target_attempts j r v.subject) k l k' l
      targets_passed m f =
          passed (λ j. target_attempts j r v.subject) (λ j h.
          let count = events_are sees.looks.views in
          let none = none_moves (as_view v W) (seen_by v W) W s (rw count sees.looks.subject) (sym m ∙ f) in
          targets_still r j (U j) v.subject (λ y i. let i' = rw h.holds.events_are at i in target_still sees leaves j h y i' (none y (rw count i'))))

    module _ {d : ℤ} (spread : d ≡ spread_of k.job.events W) where
      pub event_passed : {e : ℕ} {t : Bool} → e < k.job.events → t ≡ calm k.job.events (reservoir_of k.job.reservoir) W e d → t ≡ true → Made (λ j. event_attempts j e) k l k' l
      event_passed {e} m i c = passed (λ j. event_attempts j e) (λ j h. event_still j (U j) e (calm_still spread e (sym i ∙ c) j h (rw h.holds.events_are m)))

      pub events_passed : {from to : ℕ} {t : Bool} → from ≤ to → to ≤ k.job.events → t ≡ all_calm k.job.events (reservoir_of k.job.reservoir) W d → t ≡ true → Made (between_attempts from to) k l k' l
      events_passed {from} {to} o p m i =
          passed (between_attempts from to) (λ j h. events_still j (U j) from (to - from) (rw h.holds.events_are (omega arith)) (λ e o.
          calm_still spread e (all_calm_each k.job.events (reservoir_of k.job.reservoir) W e d k.held.ranged (rw h.holds.events_are at o) (sym m ∙ i)) j h o))

-- ---- the level stays

-- An attempt of rules 5, 8, 11 and 14 leaves the level as it is, whatever list it is made with: on any two boards between which the window table goes as the attempt says.
pub leaves_on : (k : Job) (ws b b' : List ℤ) (r y : ℕ) {v : Sight} {s : ℤ}
    → rule r ≡ reservoir v.stance.mirror v.stance.strict height
    → Views k.events (reservoir_of k.reservoir) v.stance.mirror v.stance.strict v.subject v
    → v.subject < k.events
    → Leaves v b s
    → y < k.events
    → (words : ℕ) (log : List ℤ) (slips last : ℕ) (status : Status)
    → ((j : Call)
    → Serves k ws (board b) j
    → table_of k.events j.window_table b' ≡ (attempt words r j v.subject y (record { table = table_of k.events j.window_table b; log = log; slips = slips; last = last; status = status })).table)
    → Kinds k.events (board b') (board b)
    → Leaves v b' s
leaves_on k ws b b' r y {v} {s} rule_is views real leaves m words log slips last status moved kinds =
    let j = board_call k ws b in
    let served = board_serves k ws b in
    let next : Serves k ws (board b') j = serves_alike served kinds in
    let h = served.holds in
    let n = k.events in
    let e = v.subject in
    let sent = j.window_table in
    let st : State = record { table = table_of n sent b; log = log; slips = slips; last = last; status = status } in
    let E = view j v.stance.mirror v.stance.strict e in
    let level : Windows → ℤ = λ W. most E (seen j v.stance.mirror e W) in
    let own : own_end (rule r) ≡ side_end v.stance.mirror h_min = rw rule_is in
    let whole : length (table_of n sent b) ≡ 5 * events j = rw h.events_are (length_table n sent b) in
    let there : e < events j = rw h.events_are real in
    let same : (c : List ℤ) → level (windows (table_of n sent c)) ≡ level (board c) = λ c. most_agree E E.before (λ y l. refl) (seen j v.stance.mirror e (windows (table_of n sent c))) (seen j v.stance.mirror e (board c)) (look_agree (here j e) v.stance.mirror (events j) (windows (table_of n sent c)) (board c) (rw h.events_are (agree n sent c))) there in
    let stays = level_stays words r j e y st v.stance.mirror own whole (rw h.events_are m) v.stance.strict there in
    let table : windows (table_of n sent b') ≡ windows (attempt words r j e y st).table = ap windows (moved j served) in
    let is : level (board b) ≡ level (board b') = sym (same b) ∙ sym stays ∙ ap level (sym table) ∙ same b' in
    let limit = side_limit v.stance.mirror (reservoir_of k.reservoir) in
    let at : (c : List ℤ) → Serves k ws (board c) j → slack_of (as_view v (board c)) (seen_by v (board c)) ≡ level (board c) -ℤ limit = λ c s. ap (λ (E : View). slack_of E (seen_by v (board c))) (views.is (board c)) ∙ ap (λ x. x -ℤ limit) (sym (most_here v.stance.mirror v.stance.strict e (board c) s there)) in
    leaves ∙ at b served ∙ ap (λ x. x -ℤ limit) is ∙ sym (at b' next)

-- So does one that was made.
pub leaves_made : {k k' : CageJob} {l l' : Log} {r y : ℕ} {v : Sight} {s : ℤ} → Sees k r height v → Leaves v k.board.now.words s → y < k.job.events
    → Made (λ j. try r v.subject y ∷ []) k l k' l' → Leaves v k'.board.now.words s
unfolding made
leaves_made {k} {k'} {l} {r = r} {y} sees leaves m d =
    leaves_on k.job k.lags.now k.board.now.words k'.board.now.words r y sees.rule_is sees.looks.views sees.looks.subject leaves m
    (room l) (take l.used l.buffer.now) l.slips l.last (status_of l.status)
    (λ j h. ap (λ (x : State). x.table) (d.leads.is j h)) d.leads.kinds
