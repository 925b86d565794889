-- The invariant is the law of a list that is written over the front; no byte is read after it was written over.
use Rattle.std.proofs.Common.{◌≡◌, ◌≤◌, ℕ, List, length, arith}
use Rattle.recording.proofs.MoveLaws.{Moving, moving_start, moving_next, moving_end}
use Rattle.recording.proofs.move_to_front.Goals as goal

-- No byte is moved before the first.
from_first : {rest end : ℕ} {buffer : List ℕ} (i : ℕ) → i ≡ 0 → rest ≤ end → end ≤ length buffer → Moving rest end buffer i buffer
from_first i first h within = rw first (moving_start h within)

pub loop-i-init : goal.loop-i-init
loop-i-init c = from_first _ (omega arith) c.requires.0 c.requires.1

pub loop-i-preserved : goal.loop-i-preserved
loop-i-preserved c = moving_next c.requires.0 c.requires.1 c.loop-i.invariant (omega arith)

pub returns : goal.returns
returns c = moving_end c.requires.0 c.requires.1 c.loop-i.invariant (omega arith)
