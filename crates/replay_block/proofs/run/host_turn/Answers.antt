-- By what stands at the place: no good record, and nothing is played; or a call of the host.
use Rattle.std.specs.Prelude.{Ok, ℕ, ◌≡◌}
use Rattle.std.proofs.Common.{drop, sym, ◌∙◌, arith, length-drop, ap}
use Rattle.trace.proofs.TraceLaws.{good-within}
use Rattle.replay_block.proofs.HearLaws.{host-stands}
use Rattle.replay_block.proofs.RunLaws.{host-goes, none-turns}
use Rattle.replay_block.proofs.run.host_turn.Goals as goal

pub overflow_add-result : goal.overflow_add-result
overflow_add-result c =
    let a = c.args in
    omega (arith, good-within (drop a.run.at a.block.now) (sym c.record_at.ensures ∙ c.in-Ok-Some.is ∙ ap Ok c.in-Ok-Some.field-0-is), length-drop a.run.at a.block.now)

pub returns-in-Ok-Some : goal.returns-in-Ok-Some
returns-in-Ok-Some c =
    let there = sym c.record_at.ensures ∙ c.in-Ok-Some.is ∙ ap Ok c.in-Ok-Some.field-0-is in
    rw (c.went_on.ensures, c.host_call.ensures) (host-goes there (host-stands _ _ c.requires there))

pub returns-in-Ok-None : goal.returns-in-Ok-None
returns-in-Ok-None c =
    λ memory ready. none-turns ready (λ r n good.
    let none = sym c.record_at.ensures ∙ c.in-Ok-None.is ∙ ap Ok c.in-Ok-None.field-0-is in
    let z : ◌≡◌ {A = ℕ} 0 1 = cc (none, good) in omega arith)

pub returns-in-Err : goal.returns-in-Err
returns-in-Err c =
    λ memory ready. none-turns ready (λ r n good.
    let refused = sym c.record_at.ensures ∙ c.in-Err.is in
    let z : ◌≡◌ {A = ℕ} 0 1 = cc (refused, good) in omega arith)
