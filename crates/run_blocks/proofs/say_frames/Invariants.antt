-- A frame ends behind the place where it begins, so that the rest falls.
use Rattle.std.proofs.Common.{◌-◌, length}
use Rattle.run_blocks.proofs.say_frames.Given as goal

abbrev pub decreases-loop-at : goal.decreases-loop-at
decreases-loop-at l = length l.frames - l.at
