-- A reading: hundredths of a kWh, 0 to 99,999,999. Only this file and ReadingLaws know how it is kept.
use Rattle.std.specs.Prelude.{ℕ, ◌+◌, ◌%◌, List, Bool, leb}
use Rattle.item_decimal.specs.Decimal.{packed}

abbrev pub Reading : Type 0
Reading = ℕ

abbrev pub zero_reading : Reading
zero_reading = 0

-- What stands for a reading at a row or a column that there is not.
abbrev pub no_reading : Reading
no_reading = 0

-- The number of a reading, and the reading of a number.
unfoldable pub number_of : Reading → ℕ
number_of reading = reading

unfoldable pub reading_of : ℕ → Reading
reading_of number = number

-- 0 to 99,999,999.
unfoldable pub reading_in_range : Reading → Bool
reading_in_range reading = leb reading 99999999

-- A reading's eight digits as four bytes.
unfoldable pub reading_bytes : Reading → List ℕ
reading_bytes reading = packed 4 (reading % 100000000)

-- An amount added, modulo 100,000,000.
unfoldable pub plus_amount : Reading → ℕ → Reading
plus_amount reading amount = (reading + amount) % 100000000
