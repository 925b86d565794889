-- Document 01, "Written content": of a writable item and of its length, decimal over the whole value, then the ranges. Values stand low byte
-- first.
use Rattle.std.specs.Prelude.{ℕ, List, Bool, true, false, ◌&&◌, ◌||◌, length, get_or, eqb, Err, None, Ok, Option, Result, Some}
use Rattle.item.specs.declared.content.ContentError.{ContentError}
use Rattle.item.specs.declared.content.ContentError.TheVariants.{NotDecimal, NotWritable, OutOfRange, WrongLength}
use Rattle.laws.specs.Test.{pick}
use Rattle.item_range.specs.Range.{within}
use Rattle.item_decimal.specs.Decimal.{first_bad, digits}
use Rattle.item.specs.declared.table.Kind.{Kind}
use Rattle.item.specs.declared.table.Kind.TheVariants.{Energy, Date, Time, DemandPeriod, Slip, Address, MeterNumber, SettlementDay}
use Rattle.item.specs.declared.table.Item.{Item}
use Rattle.item.specs.declared.content.Bounds.{Bounds}

-- The number of the two digits at a place of the value.
unfoldable pub digits_at : List ℕ → ℕ → ℕ
digits_at value i = digits (get_or value i 0)

-- A least and a most.
abbrev bounds : ℕ → ℕ → Bounds
bounds least most = record { least = least; most = most }

-- The first three pairs of digits are each within their bounds.
unfoldable pub three_within : List ℕ → Bounds → Bounds → Bounds → Bool
three_within value first second third =
    within first.least first.most (digits_at value 0)
    && (within second.least second.most (digits_at value 1) && within third.least third.most (digits_at value 2))

-- WW DD MM YY: WW 00..06, DD 01..31, MM 01..12.
unfoldable pub date_in_range : List ℕ → Bool
date_in_range value = three_within value (bounds 0 6) (bounds 1 31) (bounds 1 12)

-- ss mm hh: ss and mm 00..59, hh 00..23.
unfoldable pub time_in_range : List ℕ → Bool
time_in_range value = three_within value (bounds 0 59) (bounds 0 59) (bounds 0 23)

-- Minutes: 01..60.
unfoldable pub minutes_in_range : List ℕ → Bool
minutes_in_range value = within 1 60 (digits_at value 0)

-- 9999 for not set.
unfoldable pub not_set : List ℕ → Bool
not_set value = eqb (digits_at value 0) 99 && eqb (digits_at value 1) 99

-- hh DD: DD 01..28 with hh 00..23, or not set.
unfoldable pub settlement_day_in_range : List ℕ → Bool
settlement_day_in_range value = not_set value || (within 0 23 (digits_at value 0) && within 1 28 (digits_at value 1))

-- The range of each kind of item. A meter number has none; no value is in the range of an energy or of the address, which are never written.
unfoldable pub in_range : Kind → List ℕ → Bool
in_range (Energy direction rate rates row rows) value = false
in_range Date value = date_in_range value
in_range Time value = time_in_range value
in_range DemandPeriod value = minutes_in_range value
in_range Slip value = minutes_in_range value
in_range Address value = false
in_range MeterNumber value = true
in_range (SettlementDay n) value = settlement_day_in_range value

-- A half byte above 9 is found before any range is looked at.
abbrev pub after_scan : Option ℕ → Bool → Result Unit ContentError
after_scan (Some i) ranges = Err (NotDecimal i)
after_scan None true = Ok tt
after_scan None false = Err OutOfRange

-- Whether a value may be written to an item: the item writable, the value of its length, every half byte 0 to 9, then the range.
unfoldable pub content_of : Item → List ℕ → Result Unit ContentError
content_of item value =
    pick item.writable
    (pick (eqb (length value) item.length)
    (after_scan (first_bad value) (in_range item.kind value))
    (Err WrongLength))
    (Err NotWritable)

abbrev pub content_is_allowed : Result Unit ContentError → Bool
content_is_allowed (Ok tt) = true
content_is_allowed (Err NotWritable) = false
content_is_allowed (Err WrongLength) = false
content_is_allowed (Err (NotDecimal i)) = false
content_is_allowed (Err OutOfRange) = false
