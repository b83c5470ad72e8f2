-- What an attempt gives and does.
use Rattle.std.specs.Prelude.{◌≡◌}
use Rattle.model.specs.Job.{Windows, Job as Call}
use Rattle.model.specs.Rules.{finding}
use Rattle.tables.specs.Board.{board}
use Rattle.tables.specs.Job.{Serves}
use Rattle.rules.specs.Values.{rule_of, finding_of, Does}
use Rattle.rules.specs.declared.Finding.{Finding as Found}
use Rattle.rules.specs.declared.Effect.{Effect as Done}
use Rattle.rules.specs.declared.Attempt.{Attempt}

-- The windows that it is made on.
abbrev pub on : Attempt → Windows
on a = board a.board.now.words

-- f is what its rule gives, in every call that it may be part of.
abbrev pub Gives : Attempt → Found → Type 0
Gives a f =
    (j : Call) → Serves a.job a.lags.now (on a) j → finding_of f ≡ finding (rule_of a.rule) j (on a) a.subject a.target

-- x is what it does to its target's window.
abbrev pub Acts : Attempt → Done → Type 0
Acts a x = Does a.job a.lags.now (on a) (rule_of a.rule) a.subject a.target x
