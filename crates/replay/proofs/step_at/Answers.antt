-- Each way out is the definition's, by what stands at the place: `StepLaws` has one law for each.
use Rattle.std.specs.Prelude.{Ok}
use Rattle.std.proofs.Common.{sym, ◌∙◌, arith, drop, length-drop, ap}
use Rattle.trace.proofs.TraceLaws.{good-within}
use Rattle.replay.specs.Replay.{stepped}
use Rattle.replay.proofs.StepLaws.{front-step, short-step, bad-step, good-step}
use Rattle.replay.proofs.StepWords.{ended-iff}
use Rattle.replay.proofs.PlayLaws.{played_as_step}
use Rattle.replay.proofs.step_at.Goals as goal

pub returns-then-not-is_within : goal.returns-then-not-is_within
unfolding stepped
returns-then-not-is_within c = rw (sym c.is_within.ensures ∙ c.if-not-is_within.true, c.unplayed.ensures)

pub returns-then-trace-at : goal.returns-then-trace-at
returns-then-trace-at c =
    let within = sym c.is_within.ensures ∙ c.if-not-is_within.false in
    rw c.unplayed-then-trace-at.ensures (sym (front-step _ _ _ _ within ((ended-iff _ _).1 c.if-trace-at.true)))

pub returns-then-out-lt-STEP_MEMORY : goal.returns-then-out-lt-STEP_MEMORY
returns-then-out-lt-STEP_MEMORY c =
    let within = sym c.is_within.ensures ∙ c.if-not-is_within.false in
    let a = c.args in
    rw c.unplayed-then-out-lt-STEP_MEMORY.ensures
    (sym (short-step _ _ _ _ within (λ end. omega (arith, (ended-iff a.trace.now a.at).0 end, c.if-trace-at.false)) c.if-out-lt-STEP_MEMORY.true))

pub play-text-requires : goal.play-text-requires
play-text-requires c = (sym c.is_within.ensures ∙ c.if-not-is_within.false, c.if-out-lt-STEP_MEMORY.false)

pub overflow_add-result : goal.overflow_add-result
overflow_add-result c =
    let a = c.args in
    omega (arith, good-within (drop a.at a.trace.now) (sym c.record_at.ensures ∙ c.in-Ok-Some.is ∙ ap Ok c.in-Ok-Some.field-0-is), length-drop a.at a.trace.now)

pub returns-in-Ok-None : goal.returns-in-Ok-None
returns-in-Ok-None c =
    let within = sym c.is_within.ensures ∙ c.if-not-is_within.false in
    rw c.unplayed-in-Ok-None.ensures
    (sym (front-step _ _ _ _ within (sym c.record_at.ensures ∙ c.in-Ok-None.is ∙ ap Ok c.in-Ok-None.field-0-is)))

pub returns-in-Err : goal.returns-in-Err
returns-in-Err c =
    let within = sym c.is_within.ensures ∙ c.if-not-is_within.false in
    rw c.unplayed-in-Err.ensures (sym (bad-step _ _ _ _ within (sym c.in-Err.ensures) c.if-out-lt-STEP_MEMORY.false))

pub returns-in-Ok-Some : goal.returns-in-Ok-Some
returns-in-Ok-Some c =
    let within = sym c.is_within.ensures ∙ c.if-not-is_within.false in
    let there = sym c.record_at.ensures ∙ c.in-Ok-Some.is ∙ ap Ok c.in-Ok-Some.field-0-is in
    played_as_step _ _ _ c.play-text.ensures ∙ sym (good-step _ _ _ _ within there c.if-out-lt-STEP_MEMORY.false)
