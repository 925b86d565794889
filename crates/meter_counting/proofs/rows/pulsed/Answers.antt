-- A rate is a column.
use Rattle.std.proofs.Common.{sym}
use Rattle.meter_counting.proofs.RowsLaws.{rate-column}
use Rattle.meter_counting.proofs.rows.pulsed.Goals as goal

pub bounds-rows-column : goal.bounds-rows-column
bounds-rows-column c = rate-column _ (sym c.if-not-is_rate.ensures)

pub bounds-next-column : goal.bounds-next-column
bounds-next-column c = rate-column _ (sym c.if-not-is_rate.ensures)
