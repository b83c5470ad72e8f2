-- Rounds one after the other: the run that is left from here, with the fuel that is left, is the whole run.
-- Assumes nothing.
use mathlib.Core.Path.{◌≡◌, refl, sym, ap, ◌∙◌}
use mathlib.Core.Bool.{Bool, true, false}
use Prim.Native.Nat.{ℕ, suc, ◌+◌, ◌-◌, ◌≤◌, ◌<◌}
use native.Mathlib.Omega.{arith}
use lib.Dec.{eqb}
use Rattle.std.specs.Prelude.{Option, Some, None}
use Rattle.std.specs.Option.{option_map}
use Rattle.model.specs.Job.{Job as Call}
use Rattle.model.specs.Agenda.{agenda}
use Rattle.model.specs.Rounds as model
use Rattle.model.specs.Rounds.{State, Run, running, ended, settled, round, run}
use Rattle.rounds.specs.State.{room, status_of, Grown}
use Rattle.rounds.specs.declared.Log.{Log}
use Rattle.rounds.proofs.Moves.{grown_more}
use Rattle.turns.specs.Turns.{call_of, fixed, Done}
use Rattle.turns.specs.declared.Call.{Call as Hand}
use Rattle.turns.proofs.Turning.{call_is, events_are}
use Rattle.propagator.specs.Runs.{verdict_of, ending_of, now, Ran}
use Rattle.propagator.specs.declared.Verdict.{Verdict}
use Rattle.propagator.specs.declared.Verdict.TheVariants.{Stopped}

-- ---- one round of a run

-- What a round that leaves the state next makes of a run: its end, or the rest of the run.
abbrev after : Option model.Verdict → ℕ → State → Run → Run
after (Some v) rounds next rest = record { verdict = v; rounds = rounds; state = next }
after None rounds next rest = rest

module _ (size : ℕ) (j : Call) (fuel rounds : ℕ) (s : State) {next : State} (e : next ≡ round size j s) where
  run_after : run size j (suc fuel) rounds s ≡ after (ending_of next.status (eqb next.slips s.slips)) (rounds + 1) next (run size j fuel (rounds + 1) next)
  unfolding run
  run_after = rw e (go (round size j s).status (eqb (round size j s).slips s.slips))
    where
      go : (x : model.Status) (idle : Bool) →
          (elim x [
            | ended v ↦ record { verdict = v; rounds = rounds + 1; state = round size j s }
            | running ↦ elim idle [
              | true ↦ record { verdict = settled; rounds = rounds + 1; state = round size j s }
              | false ↦ run size j fuel (rounds + 1) (round size j s)
            ]
          ]) ≡ after (ending_of x idle) (rounds + 1) (round size j s) (run size j fuel (rounds + 1) (round size j s))
      go (ended v) idle = refl
      go running true = refl
      go running false = refl

-- ---- the code's

-- A round of a call at hand is one of its job.
turned : {c : Hand} {l : Log} {c' : Hand} {l' : Log} → Done agenda c l c' l' → now c' l' ≡ round (room l) (call_of c) (now c l)
turned {c} {c' = c'} d =
    let windows : c'.windows.now ≡ c.windows.now = ap (λ (j : Call). j.window_table) (call_is d.stays) in
    rw (events_are d.stays, windows) (d.leads.is (call_of c) refl)

-- Before a round: what is left of the run.
pub record Rolling (fuel : ℕ) (c₀ : Hand) (l₀ : Log) (c : Hand) (l : Log) (rounds : ℕ) : Type 0 where
  pub is : run (room l₀) (call_of c₀) (fuel - rounds) rounds (now c l) ≡ run (room l₀) (call_of c₀) fuel 0 (now c₀ l₀)
  pub stays : fixed c ≡ fixed c₀
  pub grown : Grown l₀ l
  pub begun : rounds ≤ fuel

-- The fuel is used up.
pub rolling_stops : {fuel : ℕ} {c₀ : Hand} {l₀ : Log} {c : Hand} {l : Log} {rounds : ℕ} → Rolling fuel c₀ l₀ c l rounds → fuel ≤ rounds → Ran fuel c₀ l₀ c l (record { verdict = Stopped; rounds = fuel })
unfolding run
rolling_stops {fuel} {rounds = rounds} r h =
    let all : rounds ≡ fuel = omega (arith, r.begun) in
    let none : fuel - fuel ≡ 0 = omega arith in
    record { is = rw (all, none) at r.is; stays = r.stays; grown = r.grown }

module _ {fuel : ℕ} {c₀ : Hand} {l₀ : Log} {c : Hand} {l : Log} {rounds : ℕ} {c' : Hand} {l' : Log} (r : Rolling fuel c₀ l₀ c l rounds) (some : rounds < fuel) (d : Done agenda c l c' l') where
  left : (end : Option Verdict) → option_map verdict_of end ≡ ending_of (status_of l'.status) (eqb l'.slips l.slips) →
      after (option_map verdict_of end) (rounds + 1) (now c' l') (run (room l₀) (call_of c₀) (fuel - (rounds + 1)) (rounds + 1) (now c' l')) ≡ run (room l₀) (call_of c₀) fuel 0 (now c₀ l₀)
  left end e =
      let next_is : now c' l' ≡ round (room l₀) (call_of c₀) (now c l) = turned d ∙ rw (r.grown.same, call_is r.stays) in
      let fuel_left : fuel - rounds ≡ suc (fuel - (rounds + 1)) = omega arith in
      rw e (sym (run_after (room l₀) (call_of c₀) (fuel - (rounds + 1)) rounds (now c l) next_is)) ∙ (rw fuel_left at r.is)

  -- The run ends with this round.
  pub rolling_ends : {v : Verdict} {k : ℕ} → option_map verdict_of (Some v) ≡ ending_of (status_of l'.status) (eqb l'.slips l.slips) → k ≡ rounds + 1 → Ran fuel c₀ l₀ c' l' (record { verdict = v; rounds = k })
  rolling_ends {v} e k_is = record { is = rw k_is (left (Some v) e); stays = d.stays ∙ r.stays; grown = grown_more r.grown d.leads.grown }

  -- It goes on.
  pub rolling_on : {k : ℕ} → option_map verdict_of None ≡ ending_of (status_of l'.status) (eqb l'.slips l.slips) → k ≡ rounds + 1 → Rolling fuel c₀ l₀ c' l' k
  rolling_on e k_is =
      record {
        is = rw k_is (left None e);
        stays = d.stays ∙ r.stays;
        grown = grown_more r.grown d.leads.grown;
        begun = omega (arith, some, k_is);
      }
