-- A byte that is not 68 is passed over with the stretch behind it; any other place goes by what the bytes from there on begin with.
use Rattle.std.proofs.Common.{rules, ◌≤◌, ◌+◌, ◌-◌, ◌≡◌, ap, sym, ◌∙◌, arith, length, drop}
use borrow.Author.Rules.{part_to_end}
use Rattle.frame.specs.Recognition.{recognised}
use Rattle.frame.specs.declared.Recognised.TheVariants.{Whole, Neither}
use Rattle.line_terms.specs.Scan.{before_silence}
use Rattle.line_block.proofs.DrainLaws.{draining_start, draining_next, draining_whole, draining_closed, whole-fits, whole-least}
use Rattle.line_block.proofs.SkipLaws.{passes-one, passes_join, draining_passes}
use Rattle.line_block.proofs.BlockLaws.{end_read, open_read}
use Rattle.line_block.proofs.drain.Goals as goal
use Rattle.line_block.proofs.drain.Goals.{After-recognise, In-Whole, in-Open+else-not-ended, in-Neither-1}

-- what the bytes from the place on begin with
seen : (c : After-recognise) → c.recognise.result ≡ recognised (drop c.loop-at.at c.args.block.now)
seen c = c.recognise.ensures ∙ ap recognised (part_to_end c.args.block.now c.loop-at.at)

-- the frame that stands there
whole : (c : In-Whole) → recognised (drop c.loop-at.at c.args.block.now) ≡ Whole c.in-Whole.k
whole c = sym (seen (goal.at.In-Whole c).After-recognise) ∙ c.in-Whole.is

fits : (c : In-Whole) → c.loop-at.at + c.in-Whole.k ≤ length c.args.block.now
fits c = whole-fits _ _ _ _ _ _ _ c.loop-at.invariant c.in-Whole.k (whole c)

least : (c : In-Whole) → 12 ≤ c.in-Whole.k
least c = whole-least _ _ _ _ _ _ _ c.loop-at.invariant c.in-Whole.k (whole c)

pub loop-at-preserved-then-block-at-ne104 : goal.loop-at-preserved-then-block-at-ne104
loop-at-preserved-then-block-at-ne104 c =
    let other = passes-one c.args.block.now c.loop-at.at (omega arith) c.if-block-at-ne104.true in
    draining_passes c.loop-at.invariant (passes_join other c.next_start-at.ensures)

pub overflow_add-written : goal.overflow_add-written
overflow_add-written c = omega (arith, fits (goal.at.overflow_add-written c).In-Whole, c.loop-at.invariant.room)

pub slice_bounds-copy_from_slice-end : goal.slice_bounds-copy_from_slice-end
slice_bounds-copy_from_slice-end c = omega (arith, fits c, c.loop-at.invariant.room, c.loop-at.auto.out, c.requires)

pub slice_bounds-copy_from_slice-end-in-Whole : goal.slice_bounds-copy_from_slice-end-in-Whole
slice_bounds-copy_from_slice-end-in-Whole c = fits (goal.at.slice_bounds-copy_from_slice-end-in-Whole c).In-Whole

pub loop-at-smaller-in-Whole-1 : goal.loop-at-smaller-in-Whole-1
loop-at-smaller-in-Whole-1 c =
    let k = (goal.at.loop-at-smaller-in-Whole-1 c).In-Whole in
    omega (arith, fits k, least k)

pub loop-at-preserved-in-Whole-1 : goal.loop-at-preserved-in-Whole-1
loop-at-preserved-in-Whole-1 c =
    let k = (goal.at.loop-at-preserved-in-Whole-1 c).In-Whole in
    let from : c.loop-at.at + c.in-Whole.k - c.loop-at.at ≡ c.in-Whole.k = omega arith in
    let to : c.loop-at.written + c.in-Whole.k - c.loop-at.written ≡ c.in-Whole.k = omega arith in
    draining_whole _ _ _ _ _ _ _ c.loop-at.invariant c.in-Whole.k (whole k) _ _ (rw from at c.copy_from_slice.ensures.after) to c.requires

pub loop-at-preserved : goal.loop-at-preserved
unfolding before_silence
loop-at-preserved c =
    let r = seen (goal.at.loop-at-preserved c).After-recognise in
    elim c.in-Open-2-1.branch [
      | in-Open+else-not-ended w ↦ draining_closed _ _ _ _ _ _ _ c.loop-at.invariant (omega arith) w.if-not-ended.false (sym r ∙ w.in-Open.is)
      | in-Neither-1 w ↦ let e : c.recognise.result ≡ Neither = search rules in draining_next _ _ _ _ _ _ _ c.loop-at.invariant (omega arith) (ap (before_silence _) (sym r ∙ e))
    ]

pub loop-at-init : goal.loop-at-init
loop-at-init c = draining_start _ _ _

pub returns-after-loop-at : goal.returns-after-loop-at
returns-after-loop-at c = end_read _ _ _ _ _ _ _ c.loop-at.invariant (omega arith) c.loop-at-test.false

pub returns-in-Open : goal.returns-in-Open
returns-in-Open c =
    open_read _ _ _ _ _ _ _ c.loop-at.invariant c.requires c.if-not-ended.true (sym (seen (goal.at.returns-in-Open c).After-recognise) ∙ c.in-Open.is)
