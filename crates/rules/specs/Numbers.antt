-- The numbers of the rules.
use Rattle.std.specs.Prelude.{◌≡◌, true, false, cond, ℕ, ◌+◌, ℤ, pos, Result, MatchResult}
use Rattle.model.specs.Rules.{Family, level, time, height, Rule, lag_upper, lag_lower, reservoir, total, known_rule}
use Rattle.rules.specs.Values.{rule_of}
use Rattle.rules.specs.declared.Rule.{Rule as Named}
use Rattle.rules.specs.declared.numbers.NoRule.{NoRule}

-- The place of a family among the three rules of a side, before or by.
abbrev pub place_of : Family → ℕ
place_of level = 0
place_of time = 1
place_of height = 2

-- The number of a rule: of those that `rule` gives, the first that is it.
abbrev pub number_of : Rule → ℕ
number_of lag_upper = 1
number_of lag_lower = 2
number_of (reservoir m b f) = cond m (cond b 3 9 + 3) (cond b 3 9) + place_of f
number_of (total m) = cond m 18 17

-- A word is the number of a rule, or of none.
abbrev pub Numbered : ℤ → Result Named NoRule → Type 0
Numbered w r =
    MatchResult r (λ q. (known_rule w ≡ true) × (w ≡ pos (number_of (rule_of q)))) (λ e. known_rule w ≡ false)
