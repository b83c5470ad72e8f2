-- `facts::premises::total_citing` keeps what decides the facts of a set's slip. Assumes nothing.
use Rattle.rules.specs.Values.{effect_of}
use Rattle.facts.proofs.Quoting.{cites_by_set}
use Rattle.facts.proofs.premises.total_citing.Goals as goal

pub returns : goal.returns
returns c = let a = c.args in cites_by_set a.mirror a.y (effect_of a.x) c.has_failed.ensures
