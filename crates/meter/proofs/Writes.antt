-- An accepted 14 sets the one register that it names, and the operator code beside it; the value is read back.
use Rattle.std.specs.Prelude.{ℕ, ◌+◌, ◌≤◌, ◌≡◌, refl, List, [], ◌++◌, length, take, Ok, Some}
use Rattle.std.proofs.Common.{◌∙◌, append-nil, arith, length-append, length-take-le, take_all, eq-eqb}
use Rattle.laws.specs.AllLaws.{all_take}
use Rattle.laws.specs.Memory.{outcome, over, IsByte, Bytes}
use Rattle.frame.specs.Frame.{address_of, data_of, frame_for}
use Rattle.frame.proofs.FrameLaws.{frame-for, address-back, control-back, data_back}
use Rattle.laws.specs.ChecksLaws.{AllHold}
use Rattle.item_command.specs.Reply.{control_code, reply_to}
use Rattle.item_same.specs.SameLaws.{same_refl}
use Rattle.item.specs.Table.{item_of}
use Rattle.item.specs.declared.table.Item.{Item}
use Rattle.energy.specs.Energies.{Rows}
use Rattle.meter.specs.Meter.{MeterSized, value_held, untouched}
use Rattle.meter_decision.specs.Decision.{checks_of}
use Rattle.meter.proofs.MeterLaws.{value-length, value-back, value-other, untouched-keeps}
use Rattle.meter.proofs.Ranges.{InRanges}
use Rattle.meter_decision.specs.Request.{item_asked, written_value}
use Rattle.item_identifier.specs.Identifier.{identifier_of}
use Rattle.item_identifier.proofs.IdentifierLaws.{identifier-take}
use Rattle.item_command.specs.Addressee.{names_meter, addressed}
use Rattle.meter.specs.Answer.{reply_data, meter_after, answered_with, delivered, answered}
use Rattle.meter_decision.proofs.DecisionLaws.{WriteHolds, write_row}
use Rattle.meter.proofs.FrameTerms.{EveryCheckHolds, ValueSet}
use Rattle.meter.proofs.PutToLaws.{row-holds, normally}
use Rattle.meter.proofs.MeterAfterLaws.{only_registers_of, sized-after, ranges-after, address_kept}
use Rattle.meter.proofs.AnswerLaws.{data_bytes, answered-normal}
use Rattle.meter.specs.declared.Meter.{Meter}
use Rattle.item_command.specs.declared.Command.TheVariants.{ReadData, WriteData}

-- A read of a listed item by the meter's own address gives its value.
read-value : (identifier own value : List ℕ) (item : Item) (m : Meter) (forward reverse : Rows) (memory : List ℕ) → Bytes identifier
    → length identifier ≡ 4 → item_of (identifier_of identifier) ≡ Some item → MeterSized m → InRanges m forward reverse → 212 ≤ length memory
    → m.address ≡ own → value_held item m forward reverse ≡ value
    → answered (frame_for own 0x11 identifier) m forward reverse memory
    ≡ outcome (answered_with (untouched m) (Ok (16 + item.length))) (over (frame_for own 0x91 (identifier ++ value)) memory)
unfolding delivered reply_to control_code checks_of item_asked addressed names_meter reply_data meter_after
read-value identifier own value item m forward reverse memory bytes four listed sized ranges room from held =
    let request : List ℕ = frame_for m.address 0x11 identifier in
    let address : address_of request ≡ m.address = rw append-nil at (address-back m.address 0x11 identifier [] sized.address) in
    let asked : data_of request ≡ identifier = rw append-nil at (data_back m.address 0x11 identifier [] sized.address bytes) in
    let size : 12 + length (identifier ++ value_held item m forward reverse) ≡ 16 + item.length =
    rw (length-append, four, value-length (identifier_of identifier) item listed m sized forward reverse) (omega arith) in
    rw (← from, ← held)
    (answered-normal request m forward reverse memory ReadData
    (record {
      ranges = ranges;
      room = room;
      one-frame = frame-for m.address 0x11 identifier sized.address (omega arith);
      control = rw append-nil at (control-back m.address 0x11 identifier [] sized.address);
      for-meter = rw (address, same_refl m.address);
    })
    (rw asked (eq-eqb _ _ four), (rw (asked, listed), tt))
    ∙ rw (asked, listed, (untouched-keeps m).address, take_all 4 identifier (omega arith), size))

pub accepted_write : (bytes : List ℕ) (m : Meter) (forward reverse : Rows) (memory : List ℕ) → MeterSized m
    → (w : EveryCheckHolds bytes m forward reverse memory WriteData) → ValueSet bytes m forward reverse memory w.row.1.0.0
unfolding reply_data meter_after item_asked
accepted_write bytes m forward reverse memory sized w =
    record {
      after = after;
      answer = normally bytes m forward reverse memory sized WriteData w m.address kept;
      held = held;
      operator = refl;
      others =
          λ identifier other h differ. rw row.listed
          (value-other (identifier_of payload) row.item row.listed m sized (written_value payload) row.data_length row.writable identifier other h differ
          forward reverse);
      address = kept;
      key = rw (only_registers_of (item_asked payload) (written_value payload) m);
      passwords = rw (only_registers_of (item_asked payload) (written_value payload) m);
      ranges = ranges-after WriteData payload m forward reverse w.put_to.ranges all;
      read_back =
          λ again room. read-value (take 4 payload) m.address (written_value payload) row.item after forward reverse again
          (all_take IsByte 4 payload (data_bytes bytes)) (length-take-le 4 payload (omega (arith, row.least))) (rw (identifier-take payload) row.listed)
          (sized-after WriteData payload m sized all) (ranges-after WriteData payload m forward reverse w.put_to.ranges all) room kept held;
    }
  where
    payload : List ℕ
    payload = data_of bytes

    all : AllHold (checks_of WriteData payload m.key m.passwords)
    all = row-holds bytes m forward reverse memory sized WriteData w.row

    row : WriteHolds payload m.key m.passwords
    row = write_row payload m.key m.passwords w.row

    after : Meter
    after = meter_after WriteData payload m

    kept : after.address ≡ m.address
    kept = address_kept WriteData payload m (λ e. omega arith)

    held : value_held row.item after forward reverse ≡ written_value payload
    held =
        rw row.listed (value-back (identifier_of payload) row.item row.listed m sized (written_value payload) row.data_length row.writable forward reverse)
