-- The code's ends as the definitions'.
use Rattle.std.specs.Prelude.{◌≡◌, false, ℤ, pos, Result, MatchResult}
use Rattle.model.specs.Job as model
use Rattle.model.specs.Job.{t_min, t_max, h_min, h_max}
use Rattle.model.specs.Slips.{number}
use Rattle.model.specs.Questions.{in_range}
use Rattle.tables.specs.declared.ends.End.{End}
use Rattle.tables.specs.declared.ends.End.TheVariants.{TMin, TMax, HMin, HMax}
use Rattle.tables.specs.declared.ends.NoEnd.{NoEnd}

abbrev pub end_of : End → model.End
end_of TMin = t_min
end_of TMax = t_max
end_of HMin = h_min
end_of HMax = h_max

-- A word is the kind of an end, 1..4, or of none.
abbrev pub Named : ℤ → Result End NoEnd → Type 0
Named w r = MatchResult r (λ k. w ≡ pos (number (end_of k))) (λ e. in_range (pos 1) (pos 4) w ≡ false)
