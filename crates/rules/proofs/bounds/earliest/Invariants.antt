-- `rules::bounds::earliest` searches all events. The loop's invariant: the best is the first y events' earliest, and the other time falls short. Assumes nothing.
use mathlib.Core.Path.{◌≡◌}
use Rattle.model.specs.Rules.{earliest}
use Rattle.levels.specs.Sights.{sees, shows}
use Rattle.rules.specs.Values.{time_found, Short}
use Rattle.rules.proofs.bounds.earliest.Given as goal

abbrev pub invariant-loop-y : goal.invariant-loop-y
invariant-loop-y l = (time_found l.found.best ≡ earliest (sees l.s) (shows l.s) l.y) × Short (sees l.s) (shows l.s) l.found.short
