-- Laws of what a meter holds, by its fields: those of `meter_holding` for its address and registers.
use Rattle.std.specs.Prelude.{ℕ, ◌≡◌, refl, List, true, length, Some}
use Rattle.item.specs.Table.{item_of}
use Rattle.item.specs.declared.table.Item.{Item}
use Rattle.energy.specs.Energies.{Rows}
use Rattle.meter_holding.specs.Holding.{location_of}
use Rattle.meter_holding.proofs.HoldingLaws as holding
use Rattle.meter.specs.Meter.{MeterSized, AllKept, untouched, value_held, with_value}
use Rattle.meter.specs.declared.Meter.{Meter}

module _ (identifier : ℕ) (item : Item) (listed : item_of identifier ≡ Some item) (m : Meter) (sized : MeterSized m) where
  -- The value has the item's length.
  pub value-length : (forward reverse : Rows) → length (value_held item m forward reverse) ≡ item.length
  value-length forward reverse =
      holding.value-length identifier item listed m.address m.registers sized.address sized.registers forward reverse

  module _ (value : List ℕ) (e : length value ≡ item.length) where
    -- Another value leaves the meter its size.
    pub value-sized : MeterSized (with_value (location_of item.kind) value m)
    value-sized =
        record {
          address = sized.address;
          passwords = sized.passwords;
          operator = sized.operator;
          registers = holding.value-sized identifier item listed m.address m.registers sized.address sized.registers value e;
        }

    -- A written value is read back, and every other item keeps its value.
    pub value-back : item.writable ≡ true → (forward reverse : Rows)
        → value_held item (with_value (location_of item.kind) value m) forward reverse ≡ value
    value-back w forward reverse =
        holding.value-back identifier item listed m.address m.registers sized.address sized.registers value e w forward reverse

    pub value-other : item.writable ≡ true → (other : ℕ) (another : Item) → item_of other ≡ Some another → (other ≡ identifier → ⊥)
        → (forward reverse : Rows) → value_held another (with_value (location_of item.kind) value m) forward reverse ≡ value_held another m forward reverse
    value-other w other another h differ forward reverse =
        holding.value-other identifier item listed m.address m.registers sized.address sized.registers value e w other another h differ
        forward reverse

-- What an answered frame leaves untouched is the meter as it was: it keeps everything, and its size.
pub untouched-same : (m : Meter) → untouched m ≡ m
unfolding untouched
untouched-same m = refl

pub untouched-keeps : (m : Meter) → AllKept m (untouched m)
unfolding untouched
untouched-keeps m = record { address = refl; key = refl; passwords = refl; operator = refl; registers = refl }

pub untouched-sized : (m : Meter) → MeterSized m → MeterSized (untouched m)
unfolding untouched
untouched-sized m sized = sized
