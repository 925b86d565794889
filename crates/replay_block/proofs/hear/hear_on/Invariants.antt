-- The invariant: what has been heard so far, and that it delivered nothing. The measure is what is left of the block.
use Rattle.std.proofs.Common.{◌≡◌, ◌-◌, true, length}
use Rattle.replay_block.specs.Hear.{is_quiet, HeardOn}
use Rattle.replay_block.proofs.hear.hear_on.Given as goal

abbrev pub invariant-loop-ends : goal.invariant-loop-ends
invariant-loop-ends l =
    (length l.frames ≡ length l.initial.frames)
    × HeardOn l.block l.start l.fn.receiver l.frames l.heard
    × (is_quiet l.heard.received.answer ≡ true)

abbrev pub decreases-loop-ends : goal.decreases-loop-ends
decreases-loop-ends l = length l.block - l.heard.at
