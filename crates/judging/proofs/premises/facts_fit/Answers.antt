-- `judging::premises::facts_fit` asks fact by fact. Assumes nothing.
use mathlib.Core.Path.{◌∙◌}
use borrow.Author.Tests.{tests}
use Rattle.std.proofs.Common.{rules}
use Rattle.std.proofs.lemmas.Iterator.Search.{all_from_yields_List}
use Rattle.slips.specs.Slip.{premises_in}
use Rattle.judging.specs.Ready.{fits_one}
use Rattle.judging.proofs.Facts.{yields, all_fit}
use Rattle.judging.proofs.premises.facts_fit.Goals as goal

pub returns : goal.returns
returns c =
    let a = c.args in
    all_from_yields_List (fits_one a.n) c.all.new.self _ _ c.all.ensures.ran (yields a.facts) (λ x b q k. search (rules, tests)) ∙ all_fit a.n (premises_in a.facts.words.now)
