-- The laws of `Unpacking` say what a turn of the loop and its end make of the number; nine decimal bytes hold one that fits.
use Rattle.std.proofs.Common.{◌+◌, ◌*◌, length, arith}
use Rattle.std.proofs.lemmas.List.{length_push}
use Rattle.std.proofs.lemmas.Iterator.Adapters.{YieldsList-from_rev_slice}
use Rattle.std.proofs.lemmas.Iterator.Consumers.{YieldsList-turn}
use Rattle.item_decimal.specs.Decimal.{digits}
use Rattle.item_decimal.proofs.DecimalLaws.{all-decimal}
use Rattle.item_decimal.proofs.PackLaws.{Unpacking, unpacking-start, unpacking-next, unpacking-below}
use Rattle.item_decimal.proofs.number_of.Goals as goal
use Rattle.item_decimal.proofs.number_of.Goals.{In-Some}

pub loop-b-init : goal.loop-b-init
loop-b-init c = unpacking-start c.requires.bytes_len_bound (all-decimal _ c.requires.bytes_value)

-- one byte more is unpacked
turn : (c : In-Some) → Unpacking c.args.bytes.now (100 * c.loop-b.number + digits c.in-Some.b.now) (length c.loop-b.yielded + 1)
turn c =
    unpacking-next c.loop-b.invariant
    (YieldsList-turn (YieldsList-from_rev_slice c.args.bytes.now cc) c.loop-b.yielded _ c.loop-b.yielded_by _ _ c.in-Some.b c.in-Some.is c.next.ensures.steps)

pub overflow_mul-number : goal.overflow_mul-number
overflow_mul-number c = omega (arith, unpacking-below (turn c))

pub overflow_add-number : goal.overflow_add-number
overflow_add-number c = omega (arith, unpacking-below (turn (goal.at.overflow_add-number c).In-Some))

pub loop-b-preserved : goal.loop-b-preserved
loop-b-preserved c = rw (c.from.ensures, c.digits_of.ensures, length_push) (turn (goal.at.loop-b-preserved c).In-Some)
