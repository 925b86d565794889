-- It is the reading of a block with a silence behind, for which there is memory enough.
use Rattle.std.proofs.Common.{arith}
use Rattle.line_block.proofs.BlockLaws.{read-declines}
use Rattle.line.proofs.RescanLaws.{silence_rescans}
use Rattle.line.proofs.drain.drain_at_silence.Goals as goal

pub unreachable-requires : goal.unreachable-requires
unreachable-requires c =
    let d = read-declines c.args.kept.now _ _ _ _ c.in-Err.ensures in omega (arith, d.short)

pub returns : goal.returns
returns c = silence_rescans _ _ _ _ _ _ c.in-Ok.read.rest c.in-Ok.ensures
