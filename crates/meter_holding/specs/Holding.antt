-- Document 01, "What the meter holds": the value of each item, by a meter's address, registers and readings, and the ranges of these.
use Rattle.std.specs.Prelude.{ℕ, ◌+◌, ◌*◌, List, [], ◌∷◌, Bool, ◌&&◌, length, leb, eqb, ◌≡◌, ◌≤◌, Err, None, Ok, Option, Result, Some}
use Rattle.meter_holding.specs.declared.HeldError.{HeldError}
use Rattle.meter_holding.specs.declared.HeldError.TheVariants.{NotListed, TooLittleMemory}
use Rattle.laws.specs.Memory.{Outcome, outcome, over}
use Rattle.laws.specs.Test.{pick}
use Rattle.laws.specs.Part.{part, with_part}
use Rattle.item_address.specs.Address.{is_good}
use Rattle.item_decimal.specs.Decimal.{all_decimal}
use Rattle.item.specs.Table.{item_of, has_length}
use Rattle.item.proofs.TableLaws.{Within}
use Rattle.item.specs.declared.table.Kind.{Kind}
use Rattle.item.specs.declared.table.Kind.TheVariants.{Energy, Date, Time, DemandPeriod, Slip, Address, MeterNumber, SettlementDay}
use Rattle.item.specs.declared.table.Item.{Item}
use Rattle.energy.specs.Energies.{Rows, rows_in_range}
use Rattle.energy.specs.Columns.{columns_bytes}
use Rattle.meter_holding.specs.declared.location.Location.{Location}
use Rattle.meter_holding.specs.declared.location.Location.TheVariants.{Readings, OwnAddress, Register}

-- Where a meter keeps an item: among the readings, as its address, or as a register that begins at a place.
unfoldable pub location_of : Kind → Location
location_of (Energy direction rate rates row rows) = Readings direction rate rates row rows
location_of Date = Register 0
location_of Time = Register 4
location_of DemandPeriod = Register 7
location_of Slip = Register 8
location_of Address = OwnAddress
location_of MeterNumber = Register 9
location_of (SettlementDay n) = Register (13 + 2 * n)

-- The bytes at a location.
unfoldable pub held_at : Location → ℕ → List ℕ → List ℕ → Rows → Rows → List ℕ
held_at (Readings direction rate rates row rows) n address registers forward reverse =
    columns_bytes (pick (eqb direction 0) forward reverse) rate rates row rows
held_at OwnAddress n address registers forward reverse = address
held_at (Register at) n address registers forward reverse = part at n registers

-- The value held for an item.
unfoldable pub value_held : Item → List ℕ → List ℕ → Rows → Rows → List ℕ
value_held item address registers forward reverse = held_at (location_of item.kind) item.length address registers forward reverse

-- The value held for what was looked up, and for an identifier: of one that is not listed none.
abbrev pub value_of : Option Item → List ℕ → List ℕ → Rows → Rows → List ℕ
value_of (Some item) address registers forward reverse = value_held item address registers forward reverse
value_of None address registers forward reverse = []

unfoldable pub value_for : ℕ → List ℕ → List ℕ → Rows → Rows → List ℕ
value_for identifier address registers forward reverse = value_of (item_of identifier) address registers forward reverse

-- The registers with other bytes at a location; only a register is written.
unfoldable pub registers_with : Location → List ℕ → List ℕ → List ℕ
registers_with (Readings direction rate rates row rows) value registers = registers
registers_with OwnAddress value registers = registers
registers_with (Register at) value registers = with_part at value registers

-- Within document 01's ranges: the address good, every register decimal, every reading at most 99,999,999.
unfoldable pub within_ranges : List ℕ → List ℕ → Rows → Rows → Bool
within_ranges address registers forward reverse =
    is_good address && (all_decimal registers && (rows_in_range forward && rows_in_range reverse))

-- Date 00-01-01 with WW 06, time zero, period 15, slip 1, meter number zero, first settlement day 0100, others 9999.
abbrev pub fresh_registers : List ℕ
fresh_registers =
    0x06 ∷ 0x01 ∷ 0x01 ∷ 0x00 ∷ 0x00 ∷ 0x00 ∷ 0x00 ∷ 0x15 ∷ 0x01 ∷ 0x00 ∷ 0x00 ∷ 0x00 ∷ 0x00 ∷ 0x00 ∷ 0x00 ∷ 0x00 ∷ 0x01 ∷ 0x99 ∷ 0x99 ∷ 0x99
    ∷ 0x99 ∷ []

-- What the writing of a value answers and leaves: an identifier that is not listed, or too little memory, leaves it as it was.
abbrev pub written_of : Option Item → List ℕ → List ℕ → Rows → Rows → List ℕ → Outcome (Result ℕ HeldError)
written_of None address registers forward reverse m = outcome (Err NotListed) m
written_of (Some item) address registers forward reverse m =
    pick (leb item.length (length m))
    (outcome (Ok item.length) (over (value_held item address registers forward reverse) m))
    (outcome (Err TooLittleMemory) m)

unfoldable pub value_written : ℕ → List ℕ → List ℕ → Rows → Rows → List ℕ → Outcome (Result ℕ HeldError)
value_written identifier address registers forward reverse m = written_of (item_of identifier) address registers forward reverse m

-- The registers after a write of an identifier: as they were where it is not listed, or the value not as long as its item.
abbrev pub registers_of : Option Item → List ℕ → List ℕ → List ℕ
registers_of None value registers = registers
registers_of (Some item) value registers = registers_with (location_of item.kind) value registers

unfoldable pub registers_after : ℕ → List ℕ → List ℕ → List ℕ
registers_after identifier value registers =
    pick (has_length (item_of identifier) (length value)) (registers_of (item_of identifier) value registers) registers

-- So many bytes fit at a location.
abbrev pub FitsAt : ℕ → Location → Type 0
FitsAt n (Readings direction rate rates row rows) = Within direction rate rates row rows × (n ≡ 4 * rates * rows)
FitsAt n OwnAddress = n ≡ 6
FitsAt n (Register at) = at + n ≤ 21
