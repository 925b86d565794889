-- The start, a turn and the way out are the laws of `Fours`; a turn adds its four bytes as they stand, or each read by its place.
use Rattle.std.proofs.Common.{◌∙◌, arith}
use Rattle.frame.proofs.ChecksumLaws.{four_read, fours_start, fours_next, fours_end}
use Rattle.frame.proofs.checksum.Goals as goal

pub loop-four-init : goal.loop-four-init
loop-four-init c =
    let items = c.chunks_exact-four-items.ensures in
    rw (c.into_iter-four-iterator.ensures.into_iter_gives, items.size, items.rest) (fours_start _)

pub loop-four-preserved : goal.loop-four-preserved
loop-four-preserved c =
    let step = c.in-Some.ensures.steps in
    let read = four_read c.in-Some.four.now (step.1.1 ∙ c.loop-four.invariant.four) in
    fours_next c.in-Some.four.now c.loop-four.invariant step.0 step.1.0 step.1.1 c.gone_on-sum.ensures cc

pub returns : goal.returns
returns c =
    fours_end c.args.bytes.now _ _ _ c.loop-four.invariant c.in-None.ensures.steps.1.0 c.with_odd.ensures (omega arith) (omega arith) (omega arith)
