-- The loop's invariant is `Progress`, and the measure is what is left of the frames.
use Rattle.std.proofs.Common.{◌-◌, length}
use Rattle.replay_frames.proofs.TurnLaws.{Progress}
use Rattle.replay_frames.proofs.put_frames.Given as goal

abbrev pub invariant-loop-at : goal.invariant-loop-at
invariant-loop-at l = Progress l.frames l.initial.present l.energies.forward l.energies.reverse l.initial.out l.out l.present l.at l.used l.lines

abbrev pub decreases-loop-at : goal.decreases-loop-at
decreases-loop-at l = length l.frames - l.at
