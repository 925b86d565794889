-- A listed item's bytes fit at its location, and the value is as long as the item.
use Rattle.std.proofs.Common.{sym, arith}
use Rattle.meter_holding.specs.Holding.{FitsAt}
use Rattle.meter_holding.proofs.HoldingLaws.{listed_fits_at}
use Rattle.meter_holding.specs.declared.location.Location.TheVariants.{Register}
use Rattle.meter_holding.proofs.with_value.Goals as goal

pub put-requires : goal.put-requires
put-requires c =
    let fits : FitsAt c.in-Some.item.length (Register c.in-Register.at) = rw (sym c.in-Register.ensures) at (listed_fits_at _ c.in-Some.item (sym c.in-Some.ensures)) in
    omega (arith, fits)
