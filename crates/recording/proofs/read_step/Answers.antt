-- Each way out is one law: a buffer that is too short, a reading that is refused, and else the rest of the reading is moved to the front.
use Rattle.std.proofs.Common.{◌+◌, ◌≤◌, ◌≡◌, ap, sym, ◌∙◌, arith, take, length-take-le}
use Rattle.std.specs.Prelude.{Ok, Result}
use Rattle.std.proofs.lemmas.Result.{err_from_is_err_and}
use Rattle.frame.specs.declared.refusal.Refusal.{Refusal}
use Rattle.line_block.specs.declared.BlockRead.{BlockRead}
use Rattle.laws.specs.Memory.{outcome}
use Rattle.line_block.specs.Block.{block_read}
use Rattle.recording.proofs.StepLaws.{step-beyond, step-refused, step-rest, step-delivers}
use Rattle.recording.proofs.read_step.Goals as goal
use Rattle.recording.proofs.read_step.Goals.{In_ok-block}

-- what the reading answered
reading : (c : In_ok-block) → outcome (Ok c.in_ok-block.block) c.read_block.new.out ≡ block_read (take (c.args.kept + c.args.read) c.args.buffer.now) c.args.ended c.args.out.now
reading c = ap (λ (r : Result BlockRead Refusal). outcome r c.read_block.new.out) (sym c.in_ok-block.was) ∙ c.read_block.ensures

rest-within : (c : In_ok-block) → c.in_ok-block.block.rest ≤ c.args.kept + c.args.read
rest-within c = step-rest _ _ _ _ _ (omega arith) (reading c)

pub returns-then-buffer-kept : goal.returns-then-buffer-kept
returns-then-buffer-kept c = step-beyond _ _ _ _ _ (omega arith)

pub slice_bounds-read_block-end-2 : goal.slice_bounds-read_block-end-2
slice_bounds-read_block-end-2 c = sym (length-take-le _ _ (omega arith))

pub returns-in_err-block : goal.returns-in_err-block
returns-in_err-block c =
    let p = err_from_is_err_and c.from_residual.result c.from_residual.ensures.1 in
    rw (p.1, p.2)
    (step-refused _ _ _ _ _ (omega arith)
    (ap (λ (r : Result BlockRead Refusal). outcome r c.read_block.new.out) (sym c.in_err-block.was) ∙ c.read_block.ensures))

pub move_to_front-requires : goal.move_to_front-requires
move_to_front-requires c = (rest-within (goal.at.move_to_front-requires c).In_ok-block, omega arith)

pub overflow_sub-result : goal.overflow_sub-result
overflow_sub-result c = rest-within (goal.at.overflow_sub-result c).In_ok-block

pub returns : goal.returns
returns c = step-delivers _ _ _ _ _ (omega arith) (reading (goal.at.returns c).In_ok-block) c.move_to_front.ensures
