-- Document 01, "How the meter treats a frame, checks in this order".
use Rattle.std.specs.Prelude.{ℕ, ◌+◌, ◌*◌, List, [], ◌∷◌, ◌++◌, true, false, length, take, leb, Err, None, Ok, Option, Result, Some}
use Rattle.frame.specs.declared.refusal.Refusal.{Refusal}
use Rattle.frame.specs.declared.refusal.Refusal.TheVariants.{NotForThisMeter, NotOneFrame, OutOfRange, ShortMemory}
use Rattle.item.specs.declared.table.Item.{Item}
use Rattle.laws.specs.Memory.{Outcome, outcome, over, LeftAlone}
use Rattle.laws.specs.Test.{pick}
use Rattle.frame.specs.Frame.{address_of, control_of, data_of, frame_for, most_frame}
use Rattle.frame.specs.Recognition.{exactly_one}
use Rattle.laws.specs.Checks.{first_failing}
use Rattle.item_command.specs.Reply.{reply_to}
use Rattle.energy.specs.Energies.{Rows}
use Rattle.meter.specs.Meter.{AllKept, untouched, with_address, with_passwords, with_value, noted, within_ranges}
use Rattle.meter_decision.specs.Decision.{Failure, error_byte, silence, checks_of}
use Rattle.meter_holding.specs.Holding as holding
use Rattle.meter_holding.specs.Holding.{location_of}
use Rattle.laws.specs.Part.{with_part}
use Rattle.meter_decision.specs.Request.{item_asked, operator_of, written_value, new_level_of, new_password_of}
use Rattle.item_command.specs.Command.{command_of, control_for}
use Rattle.item_command.specs.Addressee.{addressed}
use Rattle.meter.specs.declared.Meter.{Meter}
use Rattle.meter.specs.declared.Answered.{Answered}
use Rattle.item_command.specs.declared.Command.{Command}
use Rattle.item_command.specs.declared.Command.TheVariants.{ReadData, ReadAddress, WriteData, WriteAddress, ChangePassword}

-- What a frame comes to: silence, with the refusal; or a reply of a control code and data, and the meter afterwards.
pub data Treatment : Type 0 where
  silent : Refusal → Treatment
  replies : ℕ → List ℕ → Meter → Treatment

-- What a failing check comes to: an error reply, or silence.
abbrev pub failed : Command → Meter → Failure → Treatment
failed command m (error_byte e) = replies (reply_to (control_for command) true) (e ∷ []) (untouched m)
failed command m (silence n) = silent n

-- The value of what was looked up, and the meter with another value of it.
abbrev pub value_of : Option Item → Meter → Rows → Rows → List ℕ
value_of l m forward reverse = holding.value_of l m.address m.registers forward reverse

abbrev pub with_item : Option Item → List ℕ → Meter → Meter
with_item (Some item) value m = with_value (location_of item.kind) value m
with_item None value m = m

-- The value that is held for the item asked for.
abbrev pub value_asked : List ℕ → Meter → Rows → Rows → List ℕ
value_asked payload m forward reverse = value_of (item_asked payload) m forward reverse

-- The data of the normal reply, by the value that is held for the item asked for.
unfoldable pub reply_data : Command → List ℕ → Meter → List ℕ → List ℕ
reply_data ReadData payload m held = take 4 payload ++ held
reply_data ReadAddress payload m held = m.address
reply_data WriteData payload m held = []
reply_data WriteAddress payload m held = []
reply_data ChangePassword payload m held = new_level_of payload ∷ new_password_of payload

-- The meter after the normal reply: a read changes nothing; 14 changes the register and the operator code; 15 the address; 18 one password.
unfoldable pub meter_after : Command → List ℕ → Meter → Meter
meter_after ReadData payload m = untouched m
meter_after ReadAddress payload m = untouched m
meter_after WriteData payload m = noted (operator_of payload) (with_item (item_asked payload) (written_value payload) m)
meter_after WriteAddress payload m = with_address payload m
meter_after ChangePassword payload m = with_passwords (with_part (3 * new_level_of payload) (new_password_of payload) m.passwords) m

-- A command carried out: the first failing check answers, else the normal reply.
unfoldable pub carried_out : Command → List ℕ → Meter → List ℕ → Treatment
carried_out command payload m held =
    first_failing (failed command m) (checks_of command payload m.key m.passwords)
    (replies (reply_to (control_for command) false) (reply_data command payload m held) (meter_after command payload m))

-- Checks 3 and 4, and then by control.
abbrev pub for_meter : Option Command → List ℕ → Meter → Rows → Rows → Treatment
for_meter None bytes m forward reverse = silent NotForThisMeter
for_meter (Some command) bytes m forward reverse =
    pick (addressed command (address_of bytes) m.address)
    (carried_out command (data_of bytes) m (value_asked (data_of bytes) m forward reverse))
    (silent NotForThisMeter)

unfoldable pub treated : List ℕ → Meter → Rows → Rows → Treatment
treated bytes m forward reverse = for_meter (command_of (control_of bytes)) bytes m forward reverse

-- A meter with an answer.
abbrev pub answered_with : Meter → Result ℕ Refusal → Answered
answered_with m answer = record { meter = m; answer = answer }

-- A refusal, and all as before.
abbrev pub refused : Refusal → Meter → List ℕ → Outcome Answered
refused n m memory = outcome (answered_with m (Err n)) memory

-- A reply is a frame from the address that the meter then has, over the front of the lent memory.
unfoldable pub delivered : Treatment → Meter → List ℕ → Outcome Answered
delivered (silent n) m memory = refused n m memory
delivered (replies control payload after) m memory =
    outcome (answered_with after (Ok (12 + length payload))) (over (frame_for after.address control payload) memory)

-- The outcome of a frame: 16, 1, 2, and then what the frame comes to.
unfoldable pub answered : List ℕ → Meter → Rows → Rows → List ℕ → Outcome Answered
answered bytes m forward reverse memory =
    pick (within_ranges m forward reverse)
    (pick (leb most_frame (length memory))
    (pick (exactly_one bytes)
    (delivered (treated bytes m forward reverse) m memory)
    (refused NotOneFrame m memory))
    (refused ShortMemory m memory))
    (refused OutOfRange m memory)

-- A frame moved nothing: a refusal leaves the meter alone, and under a reply everything that it holds is as it was.
abbrev pub Unmoved : Result ℕ Refusal → Meter → Meter → Type 0
Unmoved (Err n) m after = LeftAlone m after
Unmoved (Ok n) m after = AllKept m after
