-- The tests say which refusal it is. A turn of the loop and the way out are the laws of its invariant.
use Rattle.std.proofs.Common.{◌*◌, ◌≤◌, ◌<◌, sym, ◌∙◌, length, le-leb, arith, rules}
use Rattle.std.proofs.lemmas.Bool.{lt-leb}
use Rattle.meter.specs.Meter.{MeterSized}
use Rattle.replay_frames.specs.Putting.{frames_put}
use Rattle.replay_frames.proofs.TurnLaws.{Turn, progress_start, turn-later, turn-within, turn-asked, turn-fits, turn-few, turn-next, progress_end}
use Rattle.replay_frames.proofs.put_frames.Goals as goal
use Rattle.replay_frames.proofs.put_frames.Goals.{Start, After-next_end-next}

-- the array fields' lengths
sized : (s : Start) → MeterSized s.args.meter
sized s = search rules

-- a turn, up to the end of the frame at the place
turn : (c : After-next_end-next) → let l = c.loop-at in
    Turn c.args.frames.now c.args.meter c.args.energies.forward c.args.energies.reverse c.args.out.now l.out l.present l.at l.used l.lines
    c.next_end-next.result
turn c = record { so_far = c.loop-at.invariant; more = c.loop-at-test.true; ends = c.next_end-next.ensures; enough = omega arith }

pub returns-then-not-is_within_ranges : goal.returns-then-not-is_within_ranges
unfolding frames_put
returns-then-not-is_within_ranges c =
    rw (sym c.is_within_ranges.ensures ∙ c.if-not-is_within_ranges.true, c.refused.ensures)

pub returns-then-out-frames : goal.returns-then-out-frames
unfolding frames_put
returns-then-out-frames c =
    let short : length c.args.out.now < 35 * length c.args.frames.now = omega arith in
    rw (sym c.is_within_ranges.ensures ∙ c.if-not-is_within_ranges.false, lt-leb _ _ short, c.refused-then-out-frames.ensures)

pub loop-at-init : goal.loop-at-init
loop-at-init c = progress_start _ _ _ _ _ (sized (goal.at.loop-at-init c).Start)

pub put_frame-put-requires : goal.put_frame-put-requires
put_frame-put-requires c = turn-asked (turn (goal.at.put_frame-put-requires c).After-next_end-next)

pub overflow_add-used : goal.overflow_add-used
overflow_add-used c =
    let t = turn (goal.at.overflow_add-used c).After-next_end-next in omega (arith, turn-fits t c.put_frame-put.ensures)

pub overflow_add-lines : goal.overflow_add-lines
overflow_add-lines c =
    let t = turn (goal.at.overflow_add-lines c).After-next_end-next in omega (arith, turn-few t c.put_frame-put.ensures)

pub loop-at-smaller : goal.loop-at-smaller
loop-at-smaller c = let t = turn (goal.at.loop-at-smaller c).After-next_end-next in omega (arith, turn-later t, turn-within t)

pub loop-at-preserved : goal.loop-at-preserved
loop-at-preserved c = turn-next (turn (goal.at.loop-at-preserved c).After-next_end-next) c.put_frame-put.ensures

pub returns : goal.returns
unfolding frames_put
returns c =
    let enough : 35 * length c.args.frames.now ≤ length c.args.out.now = omega arith in
    rw (sym c.is_within_ranges.ensures ∙ c.if-not-is_within_ranges.false, le-leb _ _ enough)
    (progress_end c.loop-at.invariant c.loop-at-test.false)

pub slice_bounds-put_frame-count : goal.slice_bounds-put_frame-count
slice_bounds-put_frame-count c = omega (arith, turn-later (turn (goal.at.slice_bounds-put_frame-count c).After-next_end-next))

pub slice_bounds-put_frame-start : goal.slice_bounds-put_frame-start
slice_bounds-put_frame-start c = omega (arith, turn-later (turn (goal.at.slice_bounds-put_frame-start c).After-next_end-next))

pub slice_bounds-put_frame-end : goal.slice_bounds-put_frame-end
slice_bounds-put_frame-end c = turn-within (turn (goal.at.slice_bounds-put_frame-end c).After-next_end-next)
