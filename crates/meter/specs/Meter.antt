-- Document 01, "What the meter holds": a meter by its fields. What it holds for each item stands in `meter_holding`.
use Rattle.std.specs.Prelude.{ℕ, ◌≡◌, List, Bool, false, length, replicate}
use Rattle.item.specs.declared.table.Item.{Item}
use Rattle.energy.specs.Energies.{Rows}
use Rattle.meter_holding.specs.Holding as holding
use Rattle.meter_holding.specs.Holding.{registers_with, fresh_registers}
use Rattle.meter_holding.specs.declared.location.Location.{Location}
use Rattle.meter.specs.declared.Meter.{Meter}

-- What the type says of a meter.
pub record MeterSized (m : Meter) : Type 0 where
  pub address : length m.address ≡ 6
  pub passwords : length m.passwords ≡ 30
  pub operator : length m.operator ≡ 4
  pub registers : length m.registers ≡ 21

-- The meter with one thing changed.
abbrev pub with_address : List ℕ → Meter → Meter
with_address address m =
    record { address = address; key = m.key; passwords = m.passwords; operator = m.operator; registers = m.registers }

abbrev pub with_key : Bool → Meter → Meter
with_key on m =
    record { address = m.address; key = on; passwords = m.passwords; operator = m.operator; registers = m.registers }

abbrev pub with_passwords : List ℕ → Meter → Meter
with_passwords passwords m =
    record { address = m.address; key = m.key; passwords = passwords; operator = m.operator; registers = m.registers }

abbrev pub with_registers : List ℕ → Meter → Meter
with_registers registers m =
    record { address = m.address; key = m.key; passwords = m.passwords; operator = m.operator; registers = registers }

-- The note of an accepted write: the last operator code.
abbrev pub noted : List ℕ → Meter → Meter
noted operator m =
    record { address = m.address; key = m.key; passwords = m.passwords; operator = operator; registers = m.registers }

-- Everything that a meter holds is as it was.
pub record AllKept (m after : Meter) : Type 0 where
  pub address : after.address ≡ m.address
  pub key : after.key ≡ m.key
  pub passwords : after.passwords ≡ m.passwords
  pub operator : after.operator ≡ m.operator
  pub registers : after.registers ≡ m.registers

-- What an answered frame leaves of a meter that it is not to change: reads and error replies.
unfoldable pub untouched : Meter → Meter
untouched m = m

-- The value that a meter holds for an item.
abbrev pub value_held : Item → Meter → Rows → Rows → List ℕ
value_held item m forward reverse = holding.value_held item m.address m.registers forward reverse

-- The meter with other bytes at a location; only a register is written.
abbrev pub with_value : Location → List ℕ → Meter → Meter
with_value location value m = with_registers (registers_with location value m.registers) m

-- Within document 01's ranges: the address good, every register decimal, every reading at most 99,999,999.
abbrev pub within_ranges : Meter → Rows → Rows → Bool
within_ranges m forward reverse = holding.within_ranges m.address m.registers forward reverse

-- A fresh meter, from an address: key off, passwords and operator code zero.
unfoldable pub fresh_meter : List ℕ → Meter
fresh_meter address =
    record {
      address = address;
      key = false;
      passwords = replicate 30 0;
      operator = replicate 4 0;
      registers = fresh_registers;
    }
