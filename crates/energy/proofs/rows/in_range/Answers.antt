-- The laws of `Passing` say what a turn of the loop and its end make of the flag; the readings of all rows are passed end to end.
use Rattle.std.proofs.Common.{◌∙◌, ap}
use Rattle.laws.specs.All.{all_of}
use Rattle.laws.specs.Pass.{passing_start, passing_next, passing_end}
use Rattle.energy.specs.Reading.{no_reading, reading_in_range}
use Rattle.energy.proofs.RangeLaws.{all_flat}
use Rattle.energy.proofs.rows.in_range.Goals as goal

pub loop-reading-init : goal.loop-reading-init
loop-reading-init c = passing_start

pub loop-reading-preserved : goal.loop-reading-preserved
loop-reading-preserved c = rw c.is_in_range-all.ensures (passing_next no_reading c.loop-reading.invariant c.loop-reading-test.true)

pub returns : goal.returns
returns c =
    passing_end c.loop-reading.invariant c.loop-reading-test.false
    ∙ ap (all_of reading_in_range) c.as_flattened-reading-items.ensures.value
    ∙ all_flat c.args.rows.now
