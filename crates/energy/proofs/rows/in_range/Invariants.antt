-- The invariant: the flag tells whether the readings passed are in range.
use Rattle.laws.specs.Pass.{Passing}
use Rattle.energy.specs.Reading.{reading_in_range}
use Rattle.energy.proofs.rows.in_range.Given as goal

abbrev pub invariant-loop-reading : goal.invariant-loop-reading
invariant-loop-reading l = Passing reading_in_range l.reading-items l.reading-index l.all
