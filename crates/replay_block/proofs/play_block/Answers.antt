-- Each refusal is the definition's, by its test. The beginning of the block has room enough, and what the run says of all its records is what the block comes
-- to: it stops where the front of the rest is a stop, and else keeps that rest, which is at most 6 bytes.
use Rattle.std.proofs.Common.{◌≡◌, ℕ, ◌+◌, ◌*◌, ◌<◌, ◌≤◌, true, length, take, sym, ap, ◌∙◌, arith, length-take-le, rules}
use Rattle.laws.specs.Memory.{Outcome}
use Rattle.meter.specs.Meter.{MeterSized}
use Rattle.replay.specs.Replay.{is_within}
use Rattle.replay_block.specs.Block.{block_outcome}
use Rattle.replay_block.proofs.BlockLaws.{ready_begin, plays-block, declines-outside, declines-buffer, declines-text, block-stops, block-keeps}
use Rattle.replay_block.specs.Run.{NumbersFit}
use Rattle.replay_block.specs.declared.BlockAnswer.TheVariants.{Played}
use Rattle.replay_block.proofs.play_block.Goals as goal
use Rattle.replay_block.proofs.play_block.Goals.{Else-buffer-kept-2, Else-not-is_within, Else-text-end, Start, then-buffer-kept-via-then-buffer-kept, then-buffer-kept-via-else-buffer-kept+then-buffer-kept-2, then-text-lt-STEP_MEMORY-via-then-text-lt-STEP_MEMORY, then-text-lt-STEP_MEMORY-via-else-text-lt-STEP_MEMORY+then-text-end}

-- what the types say
sized : (s : Start) → MeterSized s.args.session.state.meter
sized s = search rules

array : (s : Start) → length s.args.session.state.receiver.kept ≡ 211
array s = search rules

numbers : (s : Start) → NumbersFit s.args.session
numbers s = search rules

-- the tests
within : (c : Else-not-is_within) → is_within c.args.session.state ≡ true
within c = sym c.is_within.ensures ∙ c.if-not-is_within.false

there : (c : Else-buffer-kept-2) → c.args.kept + c.args.read ≤ length c.args.buffer.now
there c = omega (arith, c.if-buffer-kept-2.false, c.if-buffer-kept.false)

room : (c : Else-text-end) → 8192 + 18 * (c.args.kept + c.args.read) ≤ length c.args.text.now
room c = omega (arith, c.if-text-end.false, c.if-text-lt-STEP_MEMORY.false)

-- how many bytes the block has
size : (c : Else-text-end) → length (take (c.args.kept + c.args.read) c.args.buffer.now) ≡ c.args.kept + c.args.read
size c = length-take-le _ _ (there (goal.at.Else-text-end c).Else-buffer-kept-2)

pub returns-then-not-is_within : goal.returns-then-not-is_within
returns-then-not-is_within c = rw c.refused.ensures (declines-outside _ _ _ _ _ (sym c.is_within.ensures ∙ c.if-not-is_within.true))

pub returns-then-buffer-kept : goal.returns-then-buffer-kept
returns-then-buffer-kept c =
    let short : length c.args.buffer.now < c.args.kept + c.args.read =
    elim c.then-buffer-kept.branch [
      | then-buffer-kept-via-then-buffer-kept w ↦ omega (arith, w.if-buffer-kept.true)
      | then-buffer-kept-via-else-buffer-kept+then-buffer-kept-2 w ↦ omega (arith, w.if-buffer-kept.false, w.if-buffer-kept-2.true)
    ] in
    rw c.refused-then-buffer-kept.ensures (declines-buffer _ _ _ _ _ (within (goal.at.returns-then-buffer-kept c).Else-not-is_within) short)

pub returns-then-text-lt-STEP_MEMORY : goal.returns-then-text-lt-STEP_MEMORY
returns-then-text-lt-STEP_MEMORY c =
    let at = goal.at.returns-then-text-lt-STEP_MEMORY c in
    let short : length c.args.text.now < 8192 + 18 * (c.args.kept + c.args.read) =
    elim c.then-text-lt-STEP_MEMORY.branch [
      | then-text-lt-STEP_MEMORY-via-then-text-lt-STEP_MEMORY w ↦ omega (arith, w.if-text-lt-STEP_MEMORY.true)
      | then-text-lt-STEP_MEMORY-via-else-text-lt-STEP_MEMORY+then-text-end w ↦ omega (arith, w.if-text-lt-STEP_MEMORY.false, w.if-text-end.true)
    ] in
    rw c.refused-then-text-lt-STEP_MEMORY.ensures
    (declines-text _ _ _ _ _ (within at.Else-not-is_within) (there at.Else-buffer-kept-2) short)

pub run_on-at-requires : goal.run_on-at-requires
run_on-at-requires c =
    let at = goal.at.run_on-at-requires c in
    let e = at.Else-text-end in
    ready_begin (within at.Else-not-is_within) (sized at.Start) (array at.Start) (numbers at.Start) (omega (arith, room e, size e))

pub returns-in-Some : goal.returns-in-Some
returns-in-Some c =
    let at = goal.at.returns-in-Some c in
    rw (sym c.in-Some.ensures.1)
    (block-stops _ _ _ _ _ (within at.Else-not-is_within) (there at.Else-buffer-kept-2) (room at.Else-text-end) (plays-block c.run_on-at.ensures)
    c.record_at-front.ensures c.in-Some.ensures.0)

pub returns-in-None : goal.returns-in-None
returns-in-None c =
    let at = goal.at.returns-in-None c in
    let run = c.run_on-at.result in
    ap (λ (o : Outcome ℕ). block_outcome run.session (Played run.text o.answer) o.memory c.run_on-at.new.out) c.keep.ensures
    ∙ block-keeps _ _ _ _ _ (within at.Else-not-is_within) (there at.Else-buffer-kept-2) (room at.Else-text-end) (plays-block c.run_on-at.ensures)
    c.record_at-front.ensures c.in-None.ensures
