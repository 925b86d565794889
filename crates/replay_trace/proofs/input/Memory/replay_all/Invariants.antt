-- The invariant: at most 6 bytes are kept.
use Rattle.std.proofs.Common.{◌≤◌}
use Rattle.replay_trace.proofs.input.Memory.replay_all.Given as goal

abbrev pub invariant-loop-turn : goal.invariant-loop-turn
invariant-loop-turn g l = l.kept ≤ 6
