-- Document 01's table of refusals, with those of document 02: the number of each.
use Rattle.std.specs.Prelude.{ℕ}
use Rattle.frame.specs.declared.refusal.Refusal.{Refusal}
use Rattle.frame.specs.declared.refusal.Refusal.TheVariants.{ShortMemory, NotOneFrame, NotForThisMeter, SilentByRule, NotAllowed, NotAnAnswer, Malformed, BadArgument, BadRecord, CutOff, OutOfRange}

abbrev pub number_of : Refusal → ℕ
number_of ShortMemory = 1
number_of NotOneFrame = 2
number_of NotForThisMeter = 3
number_of SilentByRule = 4
number_of NotAllowed = 5
number_of NotAnAnswer = 6
number_of Malformed = 7
number_of BadArgument = 8
number_of BadRecord = 9
number_of CutOff = 10
number_of OutOfRange = 16
