-- `judging::giving::slip_questions` asks 14 to 18 in order. Assumes nothing.
use mathlib.Core.Path.{◌≡◌, sym, ◌∙◌}
use native.Mathlib.Omega.{arith}
use Rattle.std.specs.Prelude.{Some, None}
use Rattle.std.proofs.lemmas.Result.{err_from_is_err_and}
use Rattle.integers.proofs.Tests.{true_is}
use Rattle.model.specs.Reader.{slip_questions}
use Rattle.model.proofs.Sound.{named}
use Rattle.slips.specs.Slip.{explanation_of}
use Rattle.judging.specs.Ready.{job_of}
use Rattle.judging.proofs.Asking.{said_yes}
use Rattle.questions.specs.declared.Question.TheVariants.{Names}
use Rattle.judging.proofs.Passing.{narrowed_range, narrowed_kinds, facts_fit}
use Rattle.judging.proofs.Seating.{nameable}
use Rattle.judging.proofs.giving.slip_questions.Goals as goal

pub named-requires : goal.named-requires
named-requires c = nameable c.args.c.now c.requires.seated

pub returns-in_err-s-clause-asked : goal.returns-in_err-s-clause-asked
unfolding slip_questions
returns-in_err-s-clause-asked c =
    let p = err_from_is_err_and c.from_residual.result c.from_residual.ensures.1 in
    let none : c.named.result ≡ None = grind arith in
    let is : c.in_err-s.field-0.0 ≡ Names = grind arith in
    let no = rw none at c.named.ensures in
    rw (p.1, p.2, is, no)

pub facts_true-requires : goal.facts_true-requires
facts_true-requires c =
    let m = c.in_ok-s.s in
    let some : c.named.result ≡ Some m = grind arith in
    let yes = rw some at c.named.ensures in
    facts_fit c.args.c.now c.requires.seated m (true_is yes.0)

pub returns-in_err-ask-clause-asked : goal.returns-in_err-ask-clause-asked
unfolding slip_questions
returns-in_err-ask-clause-asked c =
    let p = err_from_is_err_and c.from_residual-in_err-ask.result c.from_residual-in_err-ask.ensures.1 in
    let m = c.in_ok-s.s in
    let some : c.named.result ≡ Some m = grind arith in
    let yes = rw some at c.named.ensures in
    rw (p.1, p.2, ← yes.1, yes.0, ← rw c.facts_true.ensures at c.in_err-ask.ensures)

pub facts_give-requires : goal.facts_give-requires
facts_give-requires c =
    let p = c.requires in
    let m = c.in_ok-s.s in
    let some : c.named.result ≡ Some m = grind arith in
    let yes = rw some at c.named.ensures in
    let f = said_yes 15 _ (rw c.facts_true.ensures at c.in_ok-ask.ensures) in
    let fs = (explanation_of m.slip).premises in
    let kinds = narrowed_kinds fs p.inside (λ y l. p.wide_kinds y l ∙ sym (p.kinds y l)) f in
    record {
      seated = p.seated;
      range = narrowed_range fs p.wide_range p.range p.inside f;
      kinds = λ y l. kinds y l ∙ p.kinds y l;
      named = true_is yes.0;
    }

pub returns-in_err-ask-2-clause-asked : goal.returns-in_err-ask-2-clause-asked
unfolding slip_questions
returns-in_err-ask-2-clause-asked c =
    let p = err_from_is_err_and c.from_residual-in_err-ask-2.result c.from_residual-in_err-ask-2.ensures.1 in
    let m = c.in_ok-s.s in
    let some : c.named.result ≡ Some m = grind arith in
    let yes = rw some at c.named.ensures in
    rw (p.1, p.2, ← yes.1, yes.0, ← rw c.facts_true.ensures at c.in_ok-ask.ensures, ← rw c.facts_give.ensures at c.in_err-ask-2.ensures)

pub does_right-requires : goal.does_right-requires
does_right-requires c =
    let p = c.requires in
    let m = c.in_ok-s.s in
    let some : c.named.result ≡ Some m = grind arith in
    let yes = rw some at c.named.ensures in
    let o = named (job_of c.args.c.now) (explanation_of m.slip) (true_is yes.0) in
    let l = rw (← m.target_is) at o.target_real in
    let few = p.seated.sane.few_events in
    omega arith

pub returns-in_err-does_right-clause-asked : goal.returns-in_err-does_right-clause-asked
unfolding slip_questions
returns-in_err-does_right-clause-asked c =
    let p = err_from_is_err_and c.from_residual-in_err-does_right.result c.from_residual-in_err-does_right.ensures.1 in
    let m = c.in_ok-s.s in
    let some : c.named.result ≡ Some m = grind arith in
    let yes = rw some at c.named.ensures in
    rw (p.1, p.2, ← yes.1, yes.0, ← rw c.facts_true.ensures at c.in_ok-ask.ensures, ← rw c.facts_give.ensures at c.in_ok-ask-2.ensures)
    (c.in_err-does_right.ensures (explanation_of m.slip).premises)

pub returns-clause-asked : goal.returns-clause-asked
unfolding slip_questions
returns-clause-asked c =
    let m = c.in_ok-s.s in
    let some : c.named.result ≡ Some m = grind arith in
    let yes = rw some at c.named.ensures in
    rw (← yes.1, yes.0, ← rw c.facts_true.ensures at c.in_ok-ask.ensures, ← rw c.facts_give.ensures at c.in_ok-ask-2.ensures)
    (c.in_ok-does_right.ensures (explanation_of m.slip).premises)
