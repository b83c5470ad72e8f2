-- The questions' numbers in the papers.
use Rattle.std.specs.Prelude.{ℕ}
use Rattle.questions.specs.declared.Question.{Question}
use Rattle.questions.specs.declared.Question.TheVariants.{Horizon, Limits, Stock, Windows, Times, Amounts, Lags, LagEvents, LagPair, LagMinutes, Room, Trailer, Slip, Names, Facts, Rule, Narrows, Conflict, Ending, Text, Cover, Rounds, Cages, Cage, Set, Members, Totals}

abbrev pub number_of : Question → ℕ
number_of Horizon = 1
number_of Limits = 2
number_of Stock = 3
number_of Windows = 4
number_of Times = 5
number_of Amounts = 6
number_of Lags = 7
number_of LagEvents = 8
number_of LagPair = 9
number_of LagMinutes = 10
number_of Room = 11
number_of Trailer = 12
number_of Slip = 13
number_of Names = 14
number_of Facts = 15
number_of Rule = 16
number_of Narrows = 17
number_of Conflict = 18
number_of Ending = 19
number_of Text = 20
number_of Cover = 22
number_of Rounds = 28
number_of Cages = 29
number_of Cage = 30
number_of Set = 31
number_of Members = 32
number_of Totals = 33
