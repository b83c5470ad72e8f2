-- The number of a rule is one that gives it.
-- Assumes nothing.
use mathlib.Core.Path.{◌≡◌, refl}
use mathlib.Core.Bool.{true, false}
use Rattle.model.specs.Rules.{Rule, lag_upper, lag_lower, reservoir, total, level, time, height, rule}
use Rattle.rules.specs.Numbers.{number_of}

pub rule_number : (q : Rule) → rule (number_of q) ≡ q
rule_number lag_upper = refl
rule_number lag_lower = refl
rule_number (reservoir false true level) = refl
rule_number (reservoir false true time) = refl
rule_number (reservoir false true height) = refl
rule_number (reservoir true true level) = refl
rule_number (reservoir true true time) = refl
rule_number (reservoir true true height) = refl
rule_number (reservoir false false level) = refl
rule_number (reservoir false false time) = refl
rule_number (reservoir false false height) = refl
rule_number (reservoir true false level) = refl
rule_number (reservoir true false time) = refl
rule_number (reservoir true false height) = refl
rule_number (total false) = refl
rule_number (total true) = refl
