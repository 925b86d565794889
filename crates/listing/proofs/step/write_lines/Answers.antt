-- The start, a turn and the way out are the laws of `Lining`.
use Rattle.std.proofs.Common.{sym, subst, arith}
use Rattle.frame.proofs.EndToEndLaws.{NextFrame, next-frame}
use Rattle.listing.proofs.LinesLaws.{lining_start, lining_fits, lining_asked, lining_next, lining_end}
use Rattle.listing.proofs.step.write_lines.Goals as goal
use Rattle.listing.proofs.step.write_lines.Goals.{After-next_end-next}

-- the frame at the place, and where it ends
front : (c : After-next_end-next) → NextFrame c.args.frames.now c.loop-at.at c.next_end-next.result
front c =
    subst (NextFrame c.args.frames.now c.loop-at.at) (sym c.next_end-next.ensures)
    (next-frame _ _ c.loop-at.invariant.left c.loop-at-test.true)

pub loop-at-init : goal.loop-at-init
loop-at-init c = lining_start _ _ c.requires.0

pub slice_bounds-write_line-count : goal.slice_bounds-write_line-count
slice_bounds-write_line-count c = omega (arith, front (goal.at.slice_bounds-write_line-count c).After-next_end-next)

pub slice_bounds-write_line-start : goal.slice_bounds-write_line-start
slice_bounds-write_line-start c = omega (arith, front (goal.at.slice_bounds-write_line-start c).After-next_end-next)

pub slice_bounds-write_line-end : goal.slice_bounds-write_line-end
slice_bounds-write_line-end c = (front (goal.at.slice_bounds-write_line-end c).After-next_end-next).within

pub write_line-used-requires : goal.write_line-used-requires
write_line-used-requires c =
    lining_asked c.loop-at.invariant (front (goal.at.write_line-used-requires c).After-next_end-next) c.requires.1

pub overflow_add-used : goal.overflow_add-used
overflow_add-used c =
    let next = front (goal.at.overflow_add-used c).After-next_end-next in
    omega (arith, c.write_line-used.ensures.0, lining_fits c.loop-at.invariant next c.requires.1)

pub loop-at-smaller : goal.loop-at-smaller
loop-at-smaller c = omega (arith, front (goal.at.loop-at-smaller c).After-next_end-next)

pub loop-at-preserved : goal.loop-at-preserved
loop-at-preserved c =
    lining_next c.loop-at.invariant (front (goal.at.loop-at-preserved c).After-next_end-next) c.requires.1 c.write_line-used.ensures.1 c.write_line-used.ensures.0

pub returns : goal.returns
returns c = lining_end c.loop-at.invariant c.loop-at-test.false
