-- Near the end nothing is passed over; else each step passes over a part that holds no 68, and the parts join.
use Rattle.line_block.proofs.SkipLaws.{passes_none, passes_join, find_passes}
use Rattle.std.proofs.Common.{arith}
use Rattle.line_block.proofs.start.next_start.Goals as goal

pub returns-then-n-from-lt16 : goal.returns-then-n-from-lt16
returns-then-n-from-lt16 c = passes_none _ _ (omega arith)

pub returns-then-at-near : goal.returns-then-at-near
returns-then-at-near c = find_passes _ _ _ _ (omega arith) c.find-at.ensures.value c.find-at.ensures.bound

pub returns : goal.returns
returns c =
    passes_join (find_passes _ _ _ _ (omega arith) c.find-at.ensures.value c.find-at.ensures.bound)
    (passes_join c.pass_clear-wide.ensures
    (passes_join c.pass_clear-narrow.ensures (find_passes _ _ _ _ (omega arith) c.find.ensures.value c.find.ensures.bound)))
