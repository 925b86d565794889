-- The invariant: there is always room behind the bytes kept.
use Rattle.std.proofs.Common.{◌≤◌}
use Rattle.line_verdict.specs.Verdict.{most_kept}
use Rattle.list_frames.proofs.input.Memory.list_all.Given as goal

abbrev pub invariant-loop-turn : goal.invariant-loop-turn
invariant-loop-turn g l = l.kept ≤ most_kept
