-- A listed item's bytes fit at its location.
use Rattle.std.proofs.Common.{sym}
use Rattle.meter_holding.proofs.HoldingLaws.{listed_fits_at}
use Rattle.meter_holding.proofs.write_value.Goals as goal

pub write_held-requires-clause-fits_at : goal.write_held-requires-clause-fits_at
write_held-requires-clause-fits_at c = listed_fits_at _ c.in-Some.item (sym c.in-Some.ensures)
