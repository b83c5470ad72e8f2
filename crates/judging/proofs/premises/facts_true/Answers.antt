-- `judging::premises::facts_true` asks fact by fact. Assumes nothing.
use mathlib.Core.Path.{◌∙◌}
use borrow.Author.Tests.{tests}
use Rattle.std.proofs.Common.{rules}
use Rattle.std.proofs.lemmas.Iterator.Adapters.{serves_from_places}
use Rattle.std.proofs.lemmas.Iterator.Search.{all_from_yields_List}
use Rattle.tables.specs.Board.{board}
use Rattle.slips.specs.Slip.{premise_of, premises_in}
use Rattle.judging.specs.Ready.{true_of}
use Rattle.judging.proofs.Facts.{yields, all_are_true, named_at}
use Rattle.judging.proofs.premises.facts_true.Goals as goal

pub all-requires-clause-callable : goal.all-requires-clause-callable
all-requires-clause-callable c =
    let a = c.args in
    serves_from_places (yields a.facts) (λ x q r. search (rules, tests)) (λ x k l e. let h = named_at (premises_in a.facts.words.now) c.requires k (premise_of x) l e in search (rules, h))

pub returns : goal.returns
returns c =
    let a = c.args in
    all_from_yields_List (true_of (board a.b.now.words)) c.all.new.self _ _ c.all.ensures.ran (yields a.facts) (λ x b q k. search (rules, tests)) ∙ all_are_true (board a.b.now.words) (premises_in a.facts.words.now)
