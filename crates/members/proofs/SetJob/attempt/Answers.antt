-- `members::SetJob::attempt` makes one attempt of a set's rule: none once the call has ended, nothing where the effect is idle, else what the effect asks. Assumes nothing.
use mathlib.Core.Bool.{not}
use mathlib.Core.Path.{refl, sym, ap, ◌∙◌}
use mathlib.Core.List.{[], ◌∷◌}
use Rattle.model.specs.Agenda.{try}
use Rattle.rounds.proofs.Trying.{attempt_off, attempt_idle, attempt_acts}
use Rattle.members.specs.Members.{number}
use Rattle.members.proofs.Binding.{set_adds, does_of, does_there, swept_rest, moved_from}
use Rattle.members.proofs.SetJob.attempt.Goals as goal

pub returns-then-not-is_running : goal.returns-then-not-is_running
returns-then-not-is_running c =
    let a = c.args in
    let g = a.self.now.subject in
    swept_rest (λ j. try (number a.mirror) g a.y ∷ []) refl refl (attempt_off (number a.mirror) g a.y c.is_running.ensures (ap not c.if-not-is_running.true))

pub slack-s-requires : goal.slack-s-requires
slack-s-requires c = set_adds c.args.self.now

pub returns-then-is_idle : goal.returns-then-is_idle
returns-then-is_idle c =
    let a = c.args in
    let k = a.self.now in
    let does = does_of k c.total_effect-x.result c.requires.0 c.requires.1 c.slack-s.ensures.0 c.total_effect-x.ensures in
    swept_rest (λ j. try (number a.mirror) k.subject a.y ∷ []) refl refl
    (attempt_idle (number a.mirror) k.subject a.y c.is_running.ensures (ap not c.if-not-is_running.false) (λ j q. does_there k q does) c.is_idle.ensures c.if-is_idle.true)

pub act-requires : goal.act-requires
act-requires c =
    (does_of _ c.total_effect-x.result c.requires.0 c.requires.1 c.slack-s.ensures.0 c.total_effect-x.ensures, sym c.is_idle.ensures ∙ c.if-is_idle.false)

pub returns : goal.returns
returns c =
    let a = c.args in
    let k = a.self.now in
    let does = does_of k c.total_effect-x.result c.requires.0 c.requires.1 c.slack-s.ensures.0 c.total_effect-x.ensures in
    let m = moved_from {k = k} refl refl c.act.ensures in
    record {
      leads = attempt_acts (number a.mirror) k.subject a.y c.is_running.ensures (ap not c.if-not-is_running.false) (λ j q. does_there k q does) m.leads;
      stays = m.stays;
    }
