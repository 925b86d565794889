-- The invariant, `Unpacking`: the number is that of the bytes that the loop has passed, which are the last ones.
use Rattle.std.proofs.Common.{length}
use Rattle.item_decimal.proofs.PackLaws.{Unpacking}
use Rattle.item_decimal.proofs.number_of.Given as goal

abbrev pub invariant-loop-b : goal.invariant-loop-b
invariant-loop-b l = Unpacking l.bytes l.number (length l.yielded)
