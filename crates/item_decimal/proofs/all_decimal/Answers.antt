-- The laws of `Passing` say what a turn of the loop and its end make of the flag.
use Rattle.std.proofs.Common.{◌∙◌}
use Rattle.laws.specs.Pass.{passing_start, passing_next, passing_end}
use Rattle.item_decimal.proofs.DecimalLaws.{every_decimal}
use Rattle.item_decimal.proofs.all_decimal.Goals as goal

pub loop-b-init : goal.loop-b-init
loop-b-init c = passing_start

pub loop-b-preserved : goal.loop-b-preserved
loop-b-preserved c = rw c.is_decimal-all.ensures (passing_next 0 c.loop-b.invariant c.loop-b-test.true)

pub returns : goal.returns
returns c = passing_end c.loop-b.invariant c.loop-b-test.false ∙ every_decimal _
