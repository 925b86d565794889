-- Worked cases that the definitions compute.
use Rattle.std.specs.Prelude.{◌≡◌, refl, [], ◌∷◌, Err}
use Rattle.item.specs.declared.content.ContentError.TheVariants.{NotDecimal, OutOfRange}
use Rattle.item_decimal.specs.Decimal.{is_decimal, first_bad_from, first_bad, digits}
use Rattle.item_range.specs.Range.{within}
use Rattle.item.specs.Table.{writable_item}
use Rattle.item.specs.Content.{digits_at, three_within, date_in_range, minutes_in_range, not_set, settlement_day_in_range, in_range, content_of}
use Rattle.item.specs.declared.table.Kind.TheVariants.{Date, DemandPeriod, SettlementDay}

-- 61 minutes are out of their range, and have no half byte above 9.
sixty_one : content_of (writable_item DemandPeriod 1) (0x61 ∷ []) ≡ Err OutOfRange
unfolding content_of first_bad first_bad_from is_decimal in_range minutes_in_range digits_at digits within
sixty_one = refl

-- 3CH, sixty as a number, has a half byte above 9.
sixty_binary : content_of (writable_item DemandPeriod 1) (0x3C ∷ []) ≡ Err (NotDecimal 0)
unfolding content_of first_bad first_bad_from is_decimal in_range minutes_in_range digits_at digits within
sixty_binary = refl

-- A half byte above 9 in the last byte is found though the first byte's range is broken too.
decimal-first : content_of (writable_item Date 4) (0x07 ∷ 0x01 ∷ 0x01 ∷ 0x0A ∷ []) ≡ Err (NotDecimal 3)
unfolding content_of first_bad first_bad_from is_decimal in_range date_in_range three_within digits_at digits within
decimal-first = refl

-- Of a settlement day, 99 with 00 is neither a day and an hour nor the 9999 that says not set.
half_set : content_of (writable_item (SettlementDay 1) 2) (0x00 ∷ 0x99 ∷ []) ≡ Err OutOfRange
unfolding content_of first_bad first_bad_from is_decimal in_range settlement_day_in_range not_set digits_at digits within
half_set = refl
