-- The invariant: how far the records are played. The measure is what is left of the block.
use Rattle.std.proofs.Common.{◌-◌, length}
use Rattle.replay_block.specs.Run.{run_at, Goes}
use Rattle.replay_block.proofs.run.run_on.Given as goal

abbrev pub invariant-loop-run : goal.invariant-loop-run
invariant-loop-run l = Goes l.block (run_at l.fn.session) l.run l.initial.out l.out

abbrev pub decreases-loop-run : goal.decreases-loop-run
decreases-loop-run l = length l.block - l.run.at
