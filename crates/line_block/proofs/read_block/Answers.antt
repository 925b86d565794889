-- Too little memory is refused; else draining the block is all.
use Rattle.line_block.proofs.BlockLaws.{read-refused}
use Rattle.line_block.proofs.read_block.Goals as goal

pub returns-then-out-block : goal.returns-then-out-block
returns-then-out-block c = read-refused _ _ _ c.if-out-block.true
