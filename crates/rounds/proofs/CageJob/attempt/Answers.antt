-- `rounds::CageJob::attempt` makes one attempt: none once the call has ended, nothing where the effect is idle, else what the effect asks. Assumes nothing.
use mathlib.Core.Bool.{not}
use mathlib.Core.Path.{◌≡◌, refl, sym, ap, ◌∙◌}
use mathlib.Core.List.{[], ◌∷◌}
use Rattle.model.specs.Rules.{rule}
use Rattle.model.specs.Agenda.{try}
use Rattle.rules.specs.Values.{rule_of}
use Rattle.rules.specs.Numbers.{number_of}
use Rattle.rules.proofs.Numbering.{rule_number}
use Rattle.rounds.proofs.Moves.{made_rest}
use Rattle.rounds.proofs.Trying.{attempt_off, few_rules, made_idle, made_acts}
use Rattle.rounds.proofs.CageJob.attempt.Goals as goal

pub returns-then-not-is_running : goal.returns-then-not-is_running
returns-then-not-is_running c =
    let a = c.args in
    let r = number_of (rule_of a.rule) in
    made_rest (λ j. try r a.subject a.target ∷ []) refl refl (attempt_off r a.subject a.target c.is_running.ensures (ap not c.if-not-is_running.true))

pub returns-then-is_idle : goal.returns-then-is_idle
returns-then-is_idle c =
    made_idle c.args.self.now (rule_of c.args.rule) c.requires c.effect-effect.ensures c.args.log.now c.is_running.ensures (ap not c.if-not-is_running.false) refl refl c.is_idle.ensures c.if-is_idle.true

pub act-requires : goal.act-requires
act-requires c =
    let q = rule_of c.args.rule in
    let named : rule c.number.result ≡ q = rw c.number.ensures (rule_number q) in
    (rw c.number.ensures (few_rules q), rw named c.own_end.ensures, rw named c.requires, rw named c.effect-effect.ensures, rw named c.citing-cited.ensures, sym c.is_idle.ensures ∙ c.if-is_idle.false)

pub returns : goal.returns
returns c =
    made_acts c.args.self.now (rule_of c.args.rule) c.requires c.effect-effect.ensures c.args.log.now c.is_running.ensures (ap not c.if-not-is_running.false) refl refl (rw c.number.ensures at c.act.ensures)
