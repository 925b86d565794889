-- The readings of one direction: thirteen rows of five. Row 0 is current, rows 1 to 12 are the last settlements; the columns are the
-- total and rates 1 to 4.
use Rattle.std.specs.Prelude.{ℕ, List, [], Bool, get_or, replicate}
use Rattle.laws.specs.All.{all_of}
use Rattle.energy.specs.Reading.{Reading, zero_reading, reading_in_range, no_reading, number_of}

abbrev pub Rows : Type 0
Rows = List (List Reading)

-- Every reading is within its range.
unfoldable pub row_in_range : List Reading → Bool
row_in_range row = all_of reading_in_range row

unfoldable pub rows_in_range : Rows → Bool
rows_in_range rows = all_of row_in_range rows

-- Readings zero.
abbrev pub zero_rows : Rows
zero_rows = replicate 13 (replicate 5 zero_reading)

-- The reading of a row and a column.
unfoldable pub reading_at : Rows → ℕ → ℕ → Reading
reading_at rows row rate = get_or (get_or rows row []) rate no_reading

-- Its number.
abbrev pub number_at : Rows → ℕ → ℕ → ℕ
number_at rows row rate = number_of (reading_at rows row rate)
