-- The invariant, `Fitting`: what is left of the number is to fit in the pairs that are left.
use Rattle.item_decimal.proofs.PackLaws.{Fitting}
use Rattle.item_decimal.proofs.fits.Given as goal

abbrev pub invariant-loop : goal.invariant-loop
invariant-loop l = Fitting l.number l.pairs l.rest l.counter
