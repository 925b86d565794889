-- A frame ends behind the place where it begins, so that the rest falls.
use Rattle.std.proofs.Common.{◌≤◌, ◌<◌, sym, subst, arith, length}
use Rattle.frame.proofs.EndToEndLaws.{next-end-within}
use Rattle.run_blocks.proofs.say_frames.Goals as goal
use Rattle.run_blocks.proofs.say_frames.Goals.{After-next_end-next}

-- where the frame at the place ends
ends : (c : After-next_end-next) → (c.loop-at.at < c.next_end-next.result) × (c.next_end-next.result ≤ length c.args.frames.now)
ends c =
    subst (λ n. (c.loop-at.at < n) × (n ≤ length c.args.frames.now)) (sym c.next_end-next.ensures)
    (next-end-within _ _ c.loop-at-test.true)

pub slice_bounds-write_frame-count : goal.slice_bounds-write_frame-count
slice_bounds-write_frame-count c = omega (arith, (ends c).0)

pub slice_bounds-write_frame-start : goal.slice_bounds-write_frame-start
slice_bounds-write_frame-start c = omega (arith, (ends c).0)

pub slice_bounds-write_frame-end : goal.slice_bounds-write_frame-end
slice_bounds-write_frame-end c = (ends c).1

pub loop-at-smaller : goal.loop-at-smaller
loop-at-smaller c = omega (arith, ends (goal.at.loop-at-smaller c).After-next_end-next)
