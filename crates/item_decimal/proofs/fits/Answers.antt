-- One pair more is taken off.
use Rattle.item_decimal.proofs.PackLaws.{fitting_next}
use Rattle.item_decimal.proofs.fits.Goals as goal

pub loop-preserved : goal.loop-preserved
loop-preserved c = fitting_next c.loop.invariant c.loop-test.true
