-- The numbers and the words of reasons.
use Rattle.std.specs.Prelude.{ℕ, List, codes}
use Rattle.answers.specs.declared.reason.Reason.{Reason}
use Rattle.answers.specs.declared.reason.Reason.TheVariants.{OutOfRange, NotThere, InUse, NoCell, NotBuilding, NotSealed, NotVacant}
use Rattle.answers.specs.declared.reason.Reason.TheVariants.{PlaceInUse, NotStopped, UnderWay, NotUnderWay, Stopped, NotNow}

-- a reason's number in the list of refusals
abbrev pub number_of : Reason → ℕ
number_of OutOfRange = 2
number_of NotThere = 3
number_of InUse = 4
number_of NoCell = 5
number_of NotBuilding = 6
number_of NotSealed = 7
number_of NotVacant = 8
number_of PlaceInUse = 9
number_of NotStopped = 10
number_of UnderWay = 11
number_of NotUnderWay = 12
number_of Stopped = 13
number_of NotNow = 14

-- and what it says
abbrev pub words_of : Reason → List ℕ
words_of OutOfRange = codes "out of range, or a call that the monitor can't do"
words_of NotThere = codes "a page that is not there"
words_of InUse = codes "a page in use, or a cell that has pages"
words_of NoCell = codes "not a cell"
words_of NotBuilding = codes "a cell sealed, or stopped, already"
words_of NotSealed = codes "a thread of a cell that is not sealed"
words_of NotVacant = codes "a place without a table, with something there, or beyond the top table"
words_of PlaceInUse = codes "a place at the top in use"
words_of NotStopped = codes "a page of a cell that is not stopped"
words_of UnderWay = codes "under way, to be entered"
words_of NotUnderWay = codes "not under way, to be resumed"
words_of Stopped = codes "a cell that is stopped"
words_of NotNow = codes "a call of the other side"
