-- Each way out is one law: too little memory for the text, a reading that is refused, and else the frames delivered are listed, which
-- stand end to end.
use Rattle.std.proofs.Common.{◌≤◌, ◌≡◌, ap, sym, ◌∙◌, inl, length, arith, length-take-le}
use Rattle.std.specs.Prelude.{Ok, Result}
use Rattle.std.proofs.lemmas.Result.{err_from_is_err_and}
use Rattle.frame.specs.declared.refusal.Refusal.{Refusal}
use Rattle.recording.specs.Step.{step_outcome, step_read}
use Rattle.recording.specs.declared.StepRead.{StepRead}
use Rattle.listing.specs.Step.{is_end}
use Rattle.listing.proofs.StepLaws.{list_short, list_refused, list_within, list_asked, list_delivers}
use Rattle.listing.proofs.step.list_step.Goals as goal
use Rattle.listing.proofs.step.list_step.Goals.{In_ok-step}

pub returns-then-half-kept : goal.returns-then-half-kept
returns-then-half-kept c = list_short _ _ _ _ _ (inl (omega arith))

pub returns-then-half-kept-2 : goal.returns-then-half-kept-2
returns-then-half-kept-2 c = list_short _ _ _ _ _ (inl (omega arith))

pub returns-in_err-step : goal.returns-in_err-step
unfolding is_end
returns-in_err-step c =
    let p = err_from_is_err_and c.from_residual.result c.from_residual.ensures.1 in
    rw (p.1, p.2)
    (list_refused _ _ _ _ _ (omega arith)
    (ap (λ (r : Result StepRead Refusal). step_outcome r c.read_step.new.buffer c.read_step.new.out) (sym c.in_err-step.was) ∙ c.read_step.ensures))

-- what the reading delivered
reading : (c : In_ok-step) → step_outcome (Ok c.in_ok-step.step) c.read_step.new.buffer c.read_step.new.out ≡ step_read c.args.kept c.args.read (is_end c.args.read) c.args.buffer.now c.args.frames.now
unfolding is_end
reading c = ap (λ (r : Result StepRead Refusal). step_outcome r c.read_step.new.buffer c.read_step.new.out) (sym c.in_ok-step.was) ∙ c.read_step.ensures

-- it is within the memory for the frames
frames-within : (c : In_ok-step) → c.in_ok-step.step.bytes ≤ length c.read_step.new.out
frames-within c = list_within _ _ _ _ c.args.text.now (omega arith) (reading c)

pub slice_bounds-write_lines-end : goal.slice_bounds-write_lines-end
slice_bounds-write_lines-end c = frames-within (goal.at.slice_bounds-write_lines-end c).In_ok-step

pub write_lines-used-requires : goal.write_lines-used-requires
write_lines-used-requires c = list_asked _ _ _ _ c.args.text.now (omega arith) (reading (goal.at.write_lines-used-requires c).In_ok-step)

pub returns : goal.returns
returns c = list_delivers _ _ _ _ _ (omega arith) (reading (goal.at.returns c).In_ok-step) c.write_lines-used.ensures

pub slice_bounds-write_lines-end-2 : goal.slice_bounds-write_lines-end-2
slice_bounds-write_lines-end-2 c = sym (length-take-le _ _ (frames-within (goal.at.slice_bounds-write_lines-end-2 c).In_ok-step))
