-- `turns::Call::stretch` does at neighbours of one cage what the job does: on the board of the events up to the cage's last, put back. Assumes nothing.
use mathlib.Core.Path.{◌≡◌, refl, ap, ◌∙◌}
use native.Mathlib.Omega.{arith}
use Rattle.std.proofs.Common.{rules}
use Rattle.tables.specs.declared.Job.{Job}
use Rattle.rounds.proofs.Moves.{lent_is, job_is, held_as, leads_to}
use Rattle.turns.proofs.Turning.{inside_first, stretch_fits, stretch_held, stretch_kept, stretch_works, stretch_leads}
use Rattle.turns.proofs.Call.stretch.Goals as goal

pub invariant_of-cage : goal.invariant_of-cage
invariant_of-cage c =
    let a = c.args.self.now in
    let k = c.job_of-job in
    let i = c.cage_of in
    record {
      fit = stretch_fits a c.cage_end-end.ensures c.stretch_end-to.ensures k.result i.result i.ensures k.ensures;
      held = stretch_held a c.cage_end-end.ensures c.stretch_end-to.ensures k.result i.result i.ensures k.ensures c.mask.ensures;
    }

pub events_between-requires : goal.events_between-requires
events_between-requires c =
    let t = c.stretch_end-to.ensures in
    let inside = inside_first c.args.self.now c.cage_end-end.ensures t in
    (omega (arith, t.some), omega (arith, inside, c.job_of-job.ensures.events_are))

pub invariant_of-self : goal.invariant_of-self
invariant_of-self c =
    let a = c.args.self.now in
    let k = c.job_of-job in
    let i = c.cage_of in
    let r = c.events_between in
    let lent : r.new.self.board.ghost_name ≡ _ = lent_is r.ensures.stays in
    let same : r.new.self.job.events ≡ c.cage_end-end.result = ap (λ (k : Job). k.events) (job_is r.ensures.stays) ∙ k.ensures.events_are in
    record {
      held = stretch_kept a c.cage_end-end.ensures c.stretch_end-to.ensures k.result i.result i.ensures k.ensures c.mask.ensures c.join.ensures (leads_to (search rules) r.ensures.leads) (held_as same (search rules) r.new.self.held);
      works = stretch_works a c.cage_end-end.ensures c.stretch_end-to.ensures k.result i.result i.ensures k.ensures c.mask.ensures c.join.ensures (leads_to (search rules) r.ensures.leads) (held_as same (search rules) r.new.self.held);
    }

pub returns : goal.returns
returns c =
    let a = c.args.self.now in
    let k = c.job_of-job in
    let i = c.cage_of in
    let r = c.events_between in
    let t = c.stretch_end-to.ensures in
    let lent : r.new.self.board.ghost_name ≡ _ = lent_is r.ensures.stays in
    let same : r.new.self.job.events ≡ c.cage_end-end.result = ap (λ (k : Job). k.events) (job_is r.ensures.stays) ∙ k.ensures.events_are in (
      t.some,
      t.inside,
      record {
        leads = stretch_leads a c.cage_end-end.ensures t k.result i.result i.ensures k.ensures c.mask.ensures c.join.ensures (leads_to (search rules) r.ensures.leads) (held_as same (search rules) r.new.self.held);
        stays = refl;
      },
    )
