-- The invariant, `Packing`: the bytes passed are the lowest digits, and `rest` is the number without them.
use Rattle.item_decimal.proofs.PackLaws.{Packing}
use Rattle.item_decimal.proofs.pack.Given as goal

abbrev pub invariant-loop-byte : goal.invariant-loop-byte
invariant-loop-byte l = Packing l.number l.initial.out l.rest l.byte-index l.out
