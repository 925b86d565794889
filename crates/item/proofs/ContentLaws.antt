-- A value may be written exactly where the item is writable, the length is the item's, every half byte is 0 to 9 and document 01's ranges
-- hold.
use Rattle.std.specs.Prelude.{ℕ, ◌≤◌, ◌≡◌, List, true, false, ◌&&◌, ◌||◌, ◌↔◌, length, eqb, None, Ok, Option, Some}
use Rattle.std.proofs.Math.Path.{refl}
use Rattle.std.proofs.Common.{ap, arith, eqb-true, eq-eqb}
use Rattle.std.proofs.Math.Bool.{Bool, or-true, and-eq-true_iff}
use Rattle.std.proofs.lemmas.Bool.{false≢true}
use Rattle.laws.specs.TestLaws.{picked_first}
use Rattle.item_range.specs.Range.{within}
use Rattle.item_range.proofs.RangeLaws.{within-iff}
use Rattle.item_decimal.specs.Decimal.{Decimal, first_bad}
use Rattle.item_decimal.proofs.DecimalLaws.{scan-decimal, decimal-scan}
use Rattle.item.specs.Content.{digits_at, three_within, date_in_range, time_in_range, minutes_in_range, not_set, settlement_day_in_range, in_range, after_scan, content_of, content_is_allowed}
use Rattle.item.specs.declared.table.Kind.{Kind}
use Rattle.item.specs.declared.table.Kind.TheVariants.{Energy, Date, Time, DemandPeriod, Slip, Address, MeterNumber, SettlementDay}
use Rattle.item.specs.declared.table.Item.{Item}

-- WW 00..06, DD 01..31, MM 01..12.
pub record DateRange (value : List ℕ) : Type 0 where
  pub weekday : digits_at value 0 ≤ 6
  pub day-least : 1 ≤ digits_at value 1
  pub day-most : digits_at value 1 ≤ 31
  pub month_least : 1 ≤ digits_at value 2
  pub month_most : digits_at value 2 ≤ 12

-- ss and mm 00..59, hh 00..23.
pub record TimeRange (value : List ℕ) : Type 0 where
  pub second : digits_at value 0 ≤ 59
  pub minute : digits_at value 1 ≤ 59
  pub hour : digits_at value 2 ≤ 23

-- Period and slip 01..60.
pub record MinutesRange (value : List ℕ) : Type 0 where
  pub least : 1 ≤ digits_at value 0
  pub most : digits_at value 0 ≤ 60

-- DD 01..28 with hh 00..23, or 9999 for not set.
pub data SettlementDayRange (value : List ℕ) : Type 0 where
  unset : digits_at value 0 ≡ 99 → digits_at value 1 ≡ 99 → SettlementDayRange value
  on_day : digits_at value 0 ≤ 23 → 1 ≤ digits_at value 1 → digits_at value 1 ≤ 28 → SettlementDayRange value

-- The range of each kind of item. A meter number has none; no value is in the range of an energy or of the address, which are never written.
abbrev pub Range : Kind → List ℕ → Type 0
Range (Energy direction rate rates row rows) value = ⊥
Range Date value = DateRange value
Range Time value = TimeRange value
Range DemandPeriod value = MinutesRange value
Range Slip value = MinutesRange value
Range Address value = ⊥
Range MeterNumber value = Unit
Range (SettlementDay n) value = SettlementDayRange value

-- Tests of values: each holds exactly where the value is in its range.
module _ (value : List ℕ) where
  date-range : date_in_range value ≡ true ↔ DateRange value
  unfolding date_in_range three_within
  date-range = simp (and-eq-true_iff, within-iff) (omega arith)

  time-range : time_in_range value ≡ true ↔ TimeRange value
  unfolding time_in_range three_within
  time-range = simp (and-eq-true_iff, within-iff) (omega arith)

  minutes_range : minutes_in_range value ≡ true ↔ MinutesRange value
  unfolding minutes_in_range
  minutes_range = simp within-iff (omega arith)

  settlement_day_range : settlement_day_in_range value ≡ true ↔ SettlementDayRange value
  unfolding settlement_day_in_range not_set
  settlement_day_range = (from-test (not_set value) refl, to_test)
    where
      on : Bool
      on = within 0 23 (digits_at value 0) && within 1 28 (digits_at value 1)

      from-test : (t : Bool) → not_set value ≡ t → (t || on) ≡ true → SettlementDayRange value
      from-test true e h = let both = simp and-eq-true_iff at e in unset (eqb-true _ _ both.0) (eqb-true _ _ both.1)
      from-test false e h = let both = simp (and-eq-true_iff, within-iff) at h in on_day both.0.1 both.1.0 both.1.1

      to_test : SettlementDayRange value → (not_set value || on) ≡ true
      to_test (unset a b) = rw (eq-eqb _ _ a, eq-eqb _ _ b)
      to_test (on_day a b c) =
          let holds : on ≡ true = simp (and-eq-true_iff, within-iff) (omega arith) in
          rw holds (or-true (not_set value))

  in_range_lem : (kind : Kind) → in_range kind value ≡ true ↔ Range kind value
  unfolding in_range
  in_range_lem (Energy direction rate rates row rows) = (false≢true, λ none. absurd none)
  in_range_lem Date = date-range
  in_range_lem Time = time-range
  in_range_lem DemandPeriod = minutes_range
  in_range_lem Slip = minutes_range
  in_range_lem Address = (false≢true, λ none. absurd none)
  in_range_lem MeterNumber = (λ h. tt, λ u. refl)
  in_range_lem (SettlementDay n) = settlement_day_range

-- Allowed is what the scan finds nothing in and the ranges hold of.
pub after-scan : (scan : Option ℕ) (ranges : Bool) → after_scan scan ranges ≡ Ok tt → (scan ≡ None) × (ranges ≡ true)
after-scan None true h = (refl, refl)
after-scan None false h = (refl, ap content_is_allowed h)
after-scan (Some i) ranges h = absurd (false≢true (ap content_is_allowed h))

pub content-allowed : (item : Item) (value : List ℕ)
    → content_of item value ≡ Ok tt ↔ ((item.writable ≡ true) × (length value ≡ item.length) × Decimal value × Range item.kind value)
unfolding content_of
content-allowed item value = (from, to)
  where
    from : content_of item value ≡ Ok tt → (item.writable ≡ true) × (length value ≡ item.length) × Decimal value × Range item.kind value
    from h =
        let writable = picked_first item.writable (ap content_is_allowed) h in
        let long = picked_first (eqb (length value) item.length) (ap content_is_allowed) writable.1 in
        let both = after-scan (first_bad value) (in_range item.kind value) long.1 in
        (writable.0, eqb-true _ _ long.0, scan-decimal value both.0, (in_range_lem value item.kind).0 both.1)

    to : (item.writable ≡ true) × (length value ≡ item.length) × Decimal value × Range item.kind value → content_of item value ≡ Ok tt
    to h = rw (h.0, eq-eqb _ _ h.1, decimal-scan value h.2, (in_range_lem value item.kind).1 h.3)
