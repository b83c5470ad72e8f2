-- `judging::giving::facts_give` asks question 16 on the board narrowed by the facts. Assumes nothing.
use mathlib.Core.Path.{◌≡◌, sym, ap, ◌∙◌}
use mathlib.Core.Logic.{⊎_elim}
use Rattle.tables.specs.Board.{board}
use Rattle.model.specs.Reader.{narrowed, gives}
use Rattle.model.proofs.Alone.{bare}
use Rattle.rules.specs.Values.{rule_of}
use Rattle.slips.specs.Slip.{explanation_of}
use Rattle.judging.specs.Ready.{job_of}
use Rattle.judging.proofs.Passing.{facts_fit, tries_upper, tries_lower, kinds, totalled, at_home, agreed}
use Rattle.judging.proofs.Seating.{fit, serves_bare, upper_gives_bare, lower_gives_bare}
use Rattle.judging.proofs.giving.facts_give.Goals as goal

pub narrow_by-requires : goal.narrow_by-requires
narrow_by-requires c = let p = c.requires in facts_fit c.args.c.now p.seated c.args.s.now p.named

pub rule_gives-requires : goal.rule_gives-requires
rule_gives-requires c =
    let a = c.args in
    let p = c.requires in
    let W = narrowed (board a.c.now.wide.now.words) (explanation_of a.s.now.slip).premises in
    let X = board c.narrow_by.new.b.words in
    ⊎_elim
    (λ e. tries_upper a.c.now W X a.s.now p c.narrow_by.ensures (fit a.c.now p.seated) (ap rule_of e))
    (λ e. tries_lower a.c.now W X a.s.now p c.narrow_by.ensures (fit a.c.now p.seated) (ap rule_of e)) c.in-LagUpper.is

pub returns-in-LagUpper : goal.returns-in-LagUpper
returns-in-LagUpper c =
    let a = c.args in
    let p = c.requires in
    let j = job_of a.c.now in
    let W = narrowed (board a.c.now.wide.now.words) (explanation_of a.s.now.slip).premises in
    let X = board c.narrow_by.new.b.words in
    let fs = (explanation_of a.s.now.slip).premises in
    let bared : gives j X (explanation_of a.s.now.slip) ≡ gives (bare j) X (explanation_of a.s.now.slip) =
    ⊎_elim (λ e. upper_gives_bare j X a.s.now.slip fs (ap rule_of e)) (λ e. lower_gives_bare j X a.s.now.slip fs (ap rule_of e)) c.in-LagUpper.is
    in
    c.rule_gives.ensures (bare j) (serves_bare a.c.now p.seated (kinds a.c.now W X a.s.now p c.narrow_by.ensures)) fs
    ∙ sym bared
    ∙ agreed a.c.now W X a.s.now p c.narrow_by.ensures

pub set_gives-requires : goal.set_gives-requires
set_gives-requires c =
    let a = c.args in
    let p = c.requires in
    let W = narrowed (board a.c.now.wide.now.words) (explanation_of a.s.now.slip).premises in
    (totalled a.c.now W (board c.narrow_by.new.b.words) a.s.now p c.narrow_by.ensures c.in-Total.mirror (ap rule_of c.in-Total.is)).0

pub returns-in-Total : goal.returns-in-Total
returns-in-Total c =
    let a = c.args in
    let p = c.requires in
    let W = narrowed (board a.c.now.wide.now.words) (explanation_of a.s.now.slip).premises in
    c.set_gives.ensures (job_of a.c.now) (totalled a.c.now W (board c.narrow_by.new.b.words) a.s.now p c.narrow_by.ensures c.in-Total.mirror (ap rule_of c.in-Total.is)).1 (explanation_of a.s.now.slip).premises
    ∙ agreed a.c.now W (board c.narrow_by.new.b.words) a.s.now p c.narrow_by.ensures

pub home_gives-requires : goal.home_gives-requires
home_gives-requires c =
    let a = c.args in
    let p = c.requires in
    let W = narrowed (board a.c.now.wide.now.words) (explanation_of a.s.now.slip).premises in
    at_home a.c.now W (board c.narrow_by.new.b.words) a.s.now p c.narrow_by.ensures c.in-Reservoir.field-0 (ap rule_of c.in-Reservoir.is)

pub returns-in-Reservoir : goal.returns-in-Reservoir
returns-in-Reservoir c =
    let a = c.args in
    let p = c.requires in
    let W = narrowed (board a.c.now.wide.now.words) (explanation_of a.s.now.slip).premises in
    c.home_gives.ensures (explanation_of a.s.now.slip).premises ∙ agreed a.c.now W (board c.narrow_by.new.b.words) a.s.now p c.narrow_by.ensures
