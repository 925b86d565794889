-- The lines of the frames passed are written. The measure is what is left of the frames.
use Rattle.std.proofs.Common.{◌-◌, length}
use Rattle.listing.proofs.LinesLaws.{Lining}
use Rattle.listing.proofs.step.write_lines.Given as goal

abbrev pub invariant-loop-at : goal.invariant-loop-at
invariant-loop-at l = Lining l.frames l.initial.out l.out l.at l.used

abbrev pub decreases-loop-at : goal.decreases-loop-at
decreases-loop-at l = length l.frames - l.at
