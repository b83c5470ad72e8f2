-- `rules::bounds::search_event` keeps the earlier of the best time and y's, and the latest time that falls short. Assumes nothing.
use mathlib.Core.Path.{sym, ◌∙◌}
use Rattle.model.specs.Rules.{reached_at}
use Rattle.levels.specs.Sights.{sees, shows}
use Rattle.rules.proofs.Bounding.{best_alone, short_unreached}
use Rattle.rules.proofs.bounds.search_event.Goals as goal

pub returns-then-falls_short : goal.returns-then-falls_short
returns-then-falls_short c =
    let a = c.args in
    let none = short_unreached (sees a.s) (shows a.s) a.y a.found.short c.requires.1 c.starts-t.ensures (sym c.falls_short.ensures ∙ c.if-falls_short.true) in
    (best_alone a.found.best (reached_at (sees a.s) (shows a.s) a.y) _ none, c.requires.1)
