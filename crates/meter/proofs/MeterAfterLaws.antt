-- What a command carried out leaves and replies: the meter keeps its size and its ranges, only 15 changes its address, and the reply fits.
use Rattle.std.specs.Prelude.{ℕ, ◌*◌, ◌≤◌, ◌≡◌, refl, List, ◌++◌, length, take, None, Option, Some}
use Rattle.item.specs.declared.table.Item.{Item}
use Rattle.std.proofs.Common.{◌∙◌, arith, length-append, length-take-le, leb-true, eqb-true}
use Rattle.std.proofs.Math.Bool.{and-eq-true_iff}
use Rattle.item_address.proofs.AddressLaws.{good}
use Rattle.laws.specs.ChecksLaws.{AllHold}
use Rattle.item.proofs.TableLaws.{listed-fits}
use Rattle.energy.specs.Energies.{Rows}
use Rattle.meter.specs.Meter.{MeterSized, with_registers}
use Rattle.meter_holding.specs.Holding.{location_of}
use Rattle.meter_holding.proofs.HoldingLaws.{registers-decimal}
use Rattle.meter.proofs.MeterLaws.{value-length, value-sized, untouched-keeps, untouched-sized}
use Rattle.laws.specs.PartLaws.{part_length, put-length}
use Rattle.meter.proofs.Ranges.{InRanges, ranges-again, untouched-ranges}
use Rattle.meter_decision.specs.Request.{item_asked, operator_of, written_value, new_level_of, new_password_of}
use Rattle.item_identifier.specs.Identifier.{identifier_of}
use Rattle.item_command.specs.Command.{control_for}
use Rattle.meter.specs.Answer.{value_of, with_item, reply_data, meter_after, value_asked}
use Rattle.meter_decision.specs.Decision.{names_password, checks_of}
use Rattle.meter_decision.proofs.DecisionLaws.{WriteHolds, write_holds}
use Rattle.meter.specs.declared.Meter.{Meter}
use Rattle.item_command.specs.declared.Command.{Command}
use Rattle.item_command.specs.declared.Command.TheVariants.{ReadData, ReadAddress, WriteData, WriteAddress, ChangePassword}

-- A write of what was looked up changes only registers.
pub only_registers_of : (l : Option Item) (value : List ℕ) (m : Meter) → with_item l value m ≡ with_registers (with_item l value m).registers m
only_registers_of (Some item) value m = refl
only_registers_of None value m = refl

-- A command carried out leaves a meter its size.
pub sized-after : (command : Command) (payload : List ℕ) (m : Meter) → MeterSized m → AllHold (checks_of command payload m.key m.passwords) → MeterSized (meter_after command payload m)
unfolding checks_of meter_after item_asked operator_of names_password new_password_of
sized-after ReadData payload m sized h = untouched-sized m sized
sized-after ReadAddress payload m sized h = untouched-sized m sized
sized-after WriteData payload m sized h =
    let w : WriteHolds payload m.key m.passwords = write_holds payload m.key m.passwords h in
    let written : MeterSized (with_item (item_asked payload) (written_value payload) m) =
    rw w.listed (value-sized (identifier_of payload) w.item w.listed m sized (written_value payload) w.data_length) in
    record {
      address = written.address;
      passwords = written.passwords;
      operator = part_length 8 4 payload w.least;
      registers = written.registers;
    }
sized-after WriteAddress payload m sized h =
    record {
      address = eqb-true _ _ h.0;
      passwords = sized.passwords;
      operator = sized.operator;
      registers = sized.registers;
    }
sized-after ChangePassword payload m sized h =
    let twelve : length payload ≡ 12 = eqb-true _ _ h.0 in
    let most : new_level_of payload ≤ 9 = leb-true _ _ ((and-eq-true_iff _ _).0 h.1.0).0 in
    let three : length (new_password_of payload) ≡ 3 = part_length 9 3 payload (omega arith) in
    record {
      address = sized.address;
      passwords = put-length (3 * new_level_of payload) (new_password_of payload) m.passwords (omega arith) ∙ sized.passwords;
      operator = sized.operator;
      registers = sized.registers;
    }

-- It leaves a meter within its ranges.
pub ranges-after : (command : Command) (payload : List ℕ) (m : Meter) (forward reverse : Rows) → InRanges m forward reverse
    → AllHold (checks_of command payload m.key m.passwords) → InRanges (meter_after command payload m) forward reverse
unfolding checks_of meter_after item_asked
ranges-after ReadData payload m forward reverse ranges h = untouched-ranges m ranges
ranges-after ReadAddress payload m forward reverse ranges h = untouched-ranges m ranges
ranges-after WriteData payload m forward reverse ranges h =
    let w : WriteHolds payload m.key m.passwords = write_holds payload m.key m.passwords h in
    ranges-again ranges (meter_after WriteData payload m)
    (rw (only_registers_of (item_asked payload) (written_value payload) m) ranges.address)
    (rw w.listed (registers-decimal (location_of w.item.kind) (written_value payload) m.registers w.decimal ranges.registers))
ranges-after WriteAddress payload m forward reverse ranges h =
    ranges-again ranges (meter_after WriteAddress payload m) (good payload h.1.1.0) ranges.registers
ranges-after ChangePassword payload m forward reverse ranges h =
    ranges-again ranges (meter_after ChangePassword payload m) ranges.address ranges.registers

-- Only 15 changes the address.
pub address_kept : (command : Command) (payload : List ℕ) (m : Meter) → (control_for command ≡ 0x15 → ⊥) → (meter_after command payload m).address ≡ m.address
unfolding meter_after
address_kept ReadData payload m h = (untouched-keeps m).address
address_kept ReadAddress payload m h = (untouched-keeps m).address
address_kept WriteData payload m h = rw (only_registers_of (item_asked payload) (written_value payload) m)
address_kept WriteAddress payload m h = absurd (h refl)
address_kept ChangePassword payload m h = refl

-- The data of the normal reply fit one frame.
pub reply-fits : (command : Command) (payload : List ℕ) (m : Meter) (forward reverse : Rows) → MeterSized m → AllHold (checks_of command payload m.key m.passwords)
    → length (reply_data command payload m (value_asked payload m forward reverse)) ≤ 200
unfolding checks_of reply_data item_asked new_password_of
reply-fits ReadData payload m forward reverse sized h = go (item_asked payload) refl
  where
    four : length (take 4 payload) ≡ 4
    four = length-take-le 4 payload (omega (arith, eqb-true (length payload) 4 h.0))

    go : (l : Option Item) → item_asked payload ≡ l → length (take 4 payload ++ value_of l m forward reverse) ≤ 200
    go (Some item) e =
        rw (length-append, four, value-length (identifier_of payload) item e m sized forward reverse) (omega (arith, listed-fits (identifier_of payload) item e))
    go None e = rw (length-append, four) (omega arith)
reply-fits ReadAddress payload m forward reverse sized h = omega (arith, sized.address)
reply-fits WriteData payload m forward reverse sized h = omega arith
reply-fits WriteAddress payload m forward reverse sized h = omega arith
reply-fits ChangePassword payload m forward reverse sized h = omega (arith, part_length 9 3 payload (omega (arith, eqb-true (length payload) 12 h.0)))
