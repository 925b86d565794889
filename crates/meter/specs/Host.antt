-- The calls of the host besides frames: what each answers and hands back.
use Rattle.std.specs.Prelude.{ℕ, List, Bool, Err, Ok, Result}
use Rattle.frame.specs.declared.refusal.Refusal.{Refusal}
use Rattle.frame.specs.declared.refusal.Refusal.TheVariants.{BadArgument, OutOfRange}
use Rattle.laws.specs.Test.{pick}
use Rattle.item_address.specs.Address.{is_good}
use Rattle.energy.specs.Energies.{Rows, zero_rows}
use Rattle.meter_counting.specs.Counting as counting
use Rattle.meter_counting.specs.Counting.{energies_of}
use Rattle.meter.specs.Meter.{fresh_meter, with_key, within_ranges}
use Rattle.meter.specs.declared.Meter.{Meter}
use Rattle.meter.specs.declared.Created.{Created}
use Rattle.meter.specs.declared.KeySet.{KeySet}
use Rattle.meter.specs.declared.Counted.{Counted}
use Rattle.meter_counting.specs.declared.CountedReadings.{CountedReadings}

-- A fresh meter with its readings zero; 8 for an address that is not good, and what comes back is then out of its ranges.
unfoldable pub created : List ℕ → Created
created address =
    record {
      meter = fresh_meter address;
      energies = energies_of zero_rows zero_rows;
      answer = pick (is_good address) (Ok tt) (Err BadArgument);
    }

-- Setting the key: 16, else the meter with the key so.
abbrev pub key_given : Meter → Result Unit Refusal → KeySet
key_given m answer = record { meter = m; answer = answer }

unfoldable pub key_set : Bool → Meter → Rows → Rows → KeySet
key_set on m forward reverse =
    pick (within_ranges m forward reverse) (key_given (with_key on m) (Ok tt)) (key_given m (Err OutOfRange))

-- What was counted, with the meter that it was counted at.
abbrev pub counted_with : Meter → CountedReadings → Counted
counted_with m c = record { meter = m; energies = c.energies; answer = c.answer }

-- A pulse, with 16 and then 8, and a settlement, with 16, of a meter's readings.
abbrev pub pulsed_by : ℕ → ℕ → ℕ → Meter → Rows → Rows → Counted
pulsed_by amount direction rate m forward reverse =
    counted_with m (counting.pulsed_by amount direction rate (within_ranges m forward reverse) forward reverse)

abbrev pub settled_by : Meter → Rows → Rows → Counted
settled_by m forward reverse = counted_with m (counting.settled_by (within_ranges m forward reverse) forward reverse)
