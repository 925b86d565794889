-- The invariant: what has been heard so far, and that the loop goes on as long as nothing is delivered. The measure is what is left of the block.
use Rattle.std.proofs.Common.{◌≡◌, ◌-◌, ◌/◌, length}
use Rattle.replay_block.specs.Hear.{is_quiet, HeardOn}
use Rattle.replay_block.proofs.HearLaws.{heard_so}
use Rattle.replay_block.proofs.hear.hear_bytes.Given as goal

abbrev pub invariant-loop-going : goal.invariant-loop-going
invariant-loop-going l =
    (length l.frames ≡ length l.initial.frames)
    × HeardOn l.block l.start l.fn.receiver l.frames (heard_so l.received l.at ((l.at - l.start) / 2))
    × (l.going ≡ is_quiet l.received.answer)

abbrev pub decreases-loop-going : goal.decreases-loop-going
decreases-loop-going l = length l.block - l.at
