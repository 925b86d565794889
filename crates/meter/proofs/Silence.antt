-- Frames for another meter get silence and change nothing.
use Rattle.std.specs.Prelude.{ℕ, ◌≤◌, ◌≡◌, refl, List, length}
use Rattle.frame.specs.declared.refusal.Refusal.TheVariants.{NotForThisMeter}
use Rattle.std.proofs.Common.{ap, ◌∙◌}
use Rattle.frame.specs.Frame.{Frame, address_of, control_of}
use Rattle.frame.proofs.FrameLaws.{address-six}
use Rattle.energy.specs.Energies.{Rows}
use Rattle.meter.specs.Meter.{MeterSized}
use Rattle.meter.proofs.Ranges.{InRanges}
use Rattle.item_command.specs.Command.{control_for}
use Rattle.item_command.specs.Addressee.{IsFor}
use Rattle.item_command.proofs.AddresseeLaws.{for-iff}
use Rattle.meter.specs.Answer.{Treatment, silent, refused, delivered, answered}
use Rattle.meter.proofs.AnswerLaws.{treated_cases, answered-treated}
use Rattle.meter.specs.declared.Meter.{Meter}
use Rattle.item_command.specs.declared.Command.{Command}

-- A frame that no command of document 01 makes a frame for this meter.
abbrev pub Foreign : List ℕ → Meter → Type 0
Foreign bytes m = (command : Command) → control_of bytes ≡ control_for command → IsFor command (address_of bytes) m.address → ⊥

pub foreign-silent : (bytes : List ℕ) (m : Meter) (forward reverse : Rows) (memory : List ℕ) → MeterSized m → InRanges m forward reverse
    → 212 ≤ length memory → Frame bytes → Foreign bytes m → answered bytes m forward reverse memory ≡ refused NotForThisMeter m memory
unfolding delivered
foreign-silent bytes m forward reverse memory sized ranges room frame foreign =
    answered-treated bytes m forward reverse memory ranges room frame
    ∙ ap (λ (t : Treatment). delivered t m memory)
    (treated_cases bytes m forward reverse (λ t. t ≡ silent NotForThisMeter) refl
    (λ command control for-meter. absurd (foreign command control ((for-iff (address_of bytes) m.address (address-six frame) sized.address ranges.address.decimal command).0 for-meter))))
