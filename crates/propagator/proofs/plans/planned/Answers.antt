-- `propagator::plans::planned` loads the board, runs, appends the trailer and writes the windows back. Assumes nothing.
use mathlib.Core.Path.{◌≡◌, refl, ◌∙◌}
use Rattle.std.proofs.Common.{rules}
use Rattle.turns.proofs.Turning.{lent_is}
use Rattle.propagator.proofs.Planning.{limit_low, whole_table, few, works_start, held_start, room_fits, outcome}
use Rattle.integers.proofs.Linear.{back32}
use Rattle.propagator.proofs.plans.planned.Goals as goal

pub load-requires : goal.load-requires
load-requires c =
    record {
      few = few _ c.args.limit c.args.buffer.now c.requires;
      whole = whole_table _ c.args.limit c.args.buffer.now c.requires;
    }

pub fuel-most-requires : goal.fuel-most-requires
fuel-most-requires c = rw (back32 c.args.limit (search)) (limit_low _ c.args.limit c.args.buffer.now c.requires)

pub invariant_of-call : goal.invariant_of-call
invariant_of-call c =
    record {
      held = held_start _ c.args.limit c.args.buffer.now c.requires c.load.ensures;
      works = works_start _ c.args.limit c.args.buffer.now c.requires c.load.ensures;
    }

pub new-log-requires : goal.new-log-requires
new-log-requires c = room_fits _ c.args.limit c.args.buffer.now c.requires

pub returns : goal.returns
returns c =
    let r = c.run-ended in
    let lent : r.new.log.buffer.ghost_name ≡ _ = r.ensures.grown.lent ∙ c.new-log.ensures.same_buffer in
    let lent_board : r.new.call.board.ghost_name ≡ _ = lent_is r.ensures.stays in
    let h = outcome c.args.limit c.new-log.ensures.words c.new-log.ensures.begun c.requires c.load.ensures r.ensures (rw (back32 c.args.limit (search)) at c.fuel-most.ensures) (search rules) (search rules) c.append_trailer.ensures.words.appended c.unload.ensures refl in
    search (rules, h)
