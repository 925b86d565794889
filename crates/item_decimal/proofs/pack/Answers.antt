-- The laws of `Packing` say what a turn of the loop and its end make of the bytes and of what is left of the number.
use native.Mathlib.Omega.{arith}
use mathlib.Core.Path.{ap, sym, ◌∙◌}
use Rattle.std.specs.Prelude.{Ok}
use Rattle.laws.specs.Memory.{outcome}
use Rattle.item_decimal.specs.Decimal.{packing}
use Rattle.item_decimal.proofs.PackLaws.{pair-digits, packing-next, packing-end}
use Rattle.item_decimal.proofs.pack.Goals as goal

pub returns-then-not-fits : goal.returns-then-not-fits
unfolding packing
returns-then-not-fits c = rw (sym c.fits.ensures ∙ c.if-not-fits.true)

pub loop-byte-preserved : goal.loop-byte-preserved
loop-byte-preserved c = packing-next c.loop-byte.invariant (omega (arith, c.loop-byte.invariant.kept)) (pair-digits _)

pub returns : goal.returns
unfolding packing
returns c =
    rw (sym c.fits.ensures ∙ c.if-not-fits.false)
    (ap (outcome (Ok tt)) (packing-end c.loop-byte.invariant (omega (arith, c.loop-byte.invariant.kept))))
