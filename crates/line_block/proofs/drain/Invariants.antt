-- The invariant is the law of draining.
use Rattle.std.proofs.Common.{◌-◌, length}
use Rattle.line_block.proofs.DrainLaws.{Draining}
use Rattle.line_block.proofs.drain.Given as goal

abbrev pub invariant-loop-at : goal.invariant-loop-at
invariant-loop-at l = Draining l.block l.ended l.initial.out l.out l.at l.written l.frames

abbrev pub decreases-loop-at : goal.decreases-loop-at
decreases-loop-at l = length l.block - l.at
