-- What the answer says of its numbers: the text is within its memory, and at most 6 bytes are kept.
use Rattle.std.proofs.Common.{◌≤◌, length, sym, subst, length-take-le, arith}
use Rattle.replay_block.proofs.BlockWords.{AnswerWithin, answer-within}
use Rattle.replay_block.specs.declared.BlockAnswer.{BlockAnswer}
use Rattle.replay_trace.proofs.input.play_read.Goals as goal
use Rattle.replay_trace.proofs.input.play_read.Goals.{Joined-answer, in-Refused, in-Played, in-Stopped}

within : (c : Joined-answer) → (c.match-answer.used.0 ≤ length c.play_block-answer.new.text) × (c.match-answer.used.1 ≤ 6)
within c =
    let known = answer-within _ _ _ _ _ c.play_block-answer.ensures in
    elim c.match-answer.branch [
      | in-Refused w ↦ rw w.used-is (omega arith, omega arith)
      | in-Played w ↦ rw w.used-is (subst (λ (a : BlockAnswer). AnswerWithin a c.play_block-answer.new.text) w.in-Played.is known)
      | in-Stopped w ↦ rw w.used-is (subst (λ (a : BlockAnswer). AnswerWithin a c.play_block-answer.new.text) w.in-Stopped.is known, omega arith)
    ]

pub slice_bounds-write_all-end : goal.slice_bounds-write_all-end
slice_bounds-write_all-end c = (within (goal.at.slice_bounds-write_all-end c).Joined-answer).0

pub slice_bounds-write_all-end-2 : goal.slice_bounds-write_all-end-2
slice_bounds-write_all-end-2 c = sym (length-take-le _ _ (within (goal.at.slice_bounds-write_all-end-2 c).Joined-answer).0)

pub returns : goal.returns
returns c = (within (goal.at.returns c).Joined-answer).1
