-- The first twelve rows come back behind row 0.
use Rattle.std.proofs.Common.{rules}
use Rattle.meter_counting.proofs.RowsLaws.{settled_behind}
use Rattle.meter_counting.proofs.rows.settled.Goals as goal

pub returns : goal.returns
returns c = settled_behind c.args.rows c.copy_from_slice.new.self (search rules) c.copy_from_slice.ensures.after
