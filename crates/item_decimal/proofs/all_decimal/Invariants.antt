-- The invariant: the flag tells whether the bytes passed are decimal.
use Rattle.laws.specs.Pass.{Passing}
use Rattle.item_decimal.specs.Decimal.{is_decimal}
use Rattle.item_decimal.proofs.all_decimal.Given as goal

abbrev pub invariant-loop-b : goal.invariant-loop-b
invariant-loop-b l = Passing is_decimal l.bytes l.b-index l.all
