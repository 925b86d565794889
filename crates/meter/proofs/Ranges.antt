-- A meter and its readings within document 01's ranges, in words.
use Rattle.std.specs.Prelude.{ℕ, ◌≡◌, List, true, ◌↔◌}
use Rattle.item_address.specs.Address.{Good}
use Rattle.item_decimal.specs.Decimal.{Decimal}
use Rattle.energy.specs.Energies.{Rows}
use Rattle.meter_holding.proofs.RangesWords as words
use Rattle.meter.specs.Meter.{untouched, within_ranges}
use Rattle.meter.specs.declared.Meter.{Meter}

-- The address is good, every register decimal, every reading within its range.
abbrev pub InRanges : Meter → Rows → Rows → Type 0
InRanges m forward reverse = words.InRanges m.address m.registers forward reverse

-- The test of the ranges holds exactly there.
pub within-ranges : (m : Meter) (forward reverse : Rows) → (within_ranges m forward reverse ≡ true) ↔ InRanges m forward reverse
within-ranges m forward reverse = words.within-ranges m.address m.registers forward reverse

-- Another meter with the same readings is within its ranges where its own address and registers are.
pub ranges-again : {own held : List ℕ} {forward reverse : Rows} → words.InRanges own held forward reverse → (after : Meter) → Good after.address
    → Decimal after.registers → InRanges after forward reverse
ranges-again h after address registers =
    record {
      address = address;
      registers = registers;
      forward-readings = h.forward-readings;
      reverse-readings = h.reverse-readings;
    }

-- What an answered frame leaves that it is not to change is within its ranges.
pub untouched-ranges : (m : Meter) {forward reverse : Rows} → InRanges m forward reverse → InRanges (untouched m) forward reverse
unfolding untouched
untouched-ranges m h = h
