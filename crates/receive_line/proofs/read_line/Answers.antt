-- Either answer to the block, as one number, is what the whole line comes to.
use Rattle.receive_line.proofs.WholeLineLaws.{line_read}
use Rattle.receive_line.proofs.read_line.Goals as goal

pub returns-in-Err : goal.returns-in-Err
returns-in-Err c = line_read c.args.input.now c.args.out.now _ _ c.in-Err.ensures

pub returns-in-Ok : goal.returns-in-Ok
returns-in-Ok c = line_read c.args.input.now c.args.out.now _ _ c.in-Ok.ensures
