-- The last steps of the code to the answer to a frame: the command carried out, the reply written.
use Rattle.std.specs.Prelude.{ℕ, ◌+◌, ◌≤◌, ◌≡◌, refl, false, List, Ok, Result}
use Rattle.frame_parts.specs.declared.WriteError.{WriteError}
use Rattle.std.proofs.Math.Path.{ap}
use Rattle.std.proofs.Common.{◌∙◌, arith}
use Rattle.std.proofs.Math.ListN.{length}
use Rattle.laws.specs.Memory.{Outcome, outcome, over}
use Rattle.frame.specs.Frame.{frame_for}
use Rattle.frame_parts.specs.Writing.{writing}
use Rattle.frame_parts.specs.WritingLaws.{frame-written}
use Rattle.laws.specs.Checks.{first_failing}
use Rattle.laws.specs.ChecksLaws.{first-failing-through}
use Rattle.item_command.specs.Command.{control_for}
use Rattle.item_command.specs.Reply.{reply_to}
use Rattle.meter_decision.specs.Decision.{Failure, error_byte, silence, checks_of, failing, accepted, decided}
use Rattle.meter_decision.specs.declared.Decision.{Decision}
use Rattle.meter_decision.specs.declared.Decision.TheVariants.{Silent, Error, Read, OwnAddress, Write, NewAddress, NewPassword}
use Rattle.meter.specs.Answer.{Treatment, silent, replies, failed, reply_data, meter_after, carried_out, answered_with, delivered}
use Rattle.meter.specs.declared.Meter.{Meter}
use Rattle.item_command.specs.declared.Command.{Command}
use Rattle.item_command.specs.declared.Command.TheVariants.{ReadData, ReadAddress, WriteData, WriteAddress, ChangePassword}

-- The normal reply to a command.
abbrev pub normally : Command → List ℕ → Meter → List ℕ → Treatment
normally command payload m held =
    replies (reply_to (control_for command) false) (reply_data command payload m held) (meter_after command payload m)

-- What a decision on a command comes to: silence, an error reply, or the normal reply.
abbrev pub treated_as : Command → List ℕ → Meter → List ℕ → Decision → Treatment
treated_as command payload m held (Silent n) = silent n
treated_as command payload m held (Error e) = failed command m (error_byte e)
treated_as command payload m held (Read identifier) = normally command payload m held
treated_as command payload m held OwnAddress = normally command payload m held
treated_as command payload m held (Write identifier) = normally command payload m held
treated_as command payload m held NewAddress = normally command payload m held
treated_as command payload m held (NewPassword level) = normally command payload m held

-- A command carried out comes to what its decision comes to.
pub carried-decided : (command : Command) (payload : List ℕ) (m : Meter) (held : List ℕ)
    → treated_as command payload m held (decided command payload m.key m.passwords) ≡ carried_out command payload m held
unfolding carried_out decided
carried-decided command payload m held =
    first-failing-through (treated_as command payload m held) failing (failed command m) fails (accepted command payload)
    (checks_of command payload m.key m.passwords)
    ∙ ap (first_failing (failed command m) (checks_of command payload m.key m.passwords)) (passes command)
  where
    fails : (f : Failure) → treated_as command payload m held (failing f) ≡ failed command m f
    fails (error_byte e) = refl
    fails (silence n) = refl

    passes : (command : Command) → treated_as command payload m held (accepted command payload) ≡ normally command payload m held
    passes ReadData = refl
    passes ReadAddress = refl
    passes WriteData = refl
    passes WriteAddress = refl
    passes ChangePassword = refl

-- A reply's frame is written, for there is room for it, and that is the reply delivered.
module _ (after : Meter) (control : ℕ) (payload out : List ℕ) (few : length payload ≤ 200) (room : 212 ≤ length out) (r : Result ℕ WriteError) (last : List ℕ)
    (w : outcome r last ≡ writing after.address control payload out) where
  written : outcome r last ≡ outcome (Ok (12 + length payload)) (over (frame_for after.address control payload) out)
  written = w ∙ frame-written after.address control payload out few (omega arith)

  pub reply-length : r ≡ Ok (12 + length payload)
  reply-length = ap (λ (o : Outcome (Result ℕ WriteError)). o.answer) written

  pub reply-delivered : (m : Meter) (n : ℕ) → r ≡ Ok n → outcome (answered_with after (Ok n)) last ≡ delivered (replies control payload after) m out
  unfolding delivered
  reply-delivered m n e =
      let same : n ≡ 12 + length payload = cc reply-length in
      rw (same, ap (λ (o : Outcome (Result ℕ WriteError)). o.memory) written)
