-- The numbers that the bytes of columns decode to.
use Rattle.std.specs.Prelude.{ℕ, zero, suc, ◌+◌, ◌*◌, ◌≡◌, List, [], ◌∷◌, ◌++◌, length}
use Rattle.std.proofs.Common.{zero-add, suc-add, zero-mul, arith, append_assoc, take_at, drop_at}
use Rattle.item_decimal.specs.Decimal.{decoded}
use Rattle.energy.specs.Reading.{Reading, number_of, reading_bytes}
use Rattle.energy.proofs.ReadingLaws.{reading-length, reading-back}
use Rattle.energy.specs.Energies.{Rows, reading_at}
use Rattle.energy.proofs.RangeLaws.{RowsInRange, read_in_range}
use Rattle.energy.specs.Columns.{column_bytes, columns_bytes}

-- The numbers of one column's readings at `count` rows from `row` on, in order.
unfoldable pub column_numbers : Rows → ℕ → ℕ → ℕ → List ℕ
column_numbers rows rate row zero = []
column_numbers rows rate row (suc count) = number_of (reading_at rows row rate) ∷ column_numbers rows rate (row + 1) count

-- Document 01's order: all t in order, and for each all s in order.
unfoldable pub columns_numbers : Rows → ℕ → ℕ → ℕ → ℕ → List ℕ
columns_numbers rows rate zero row span = []
columns_numbers rows rate (suc count) row span = column_numbers rows rate row span ++ columns_numbers rows (rate + 1) count row span

-- The bytes of one column decode to the numbers of its readings, whatever follows them.
column-decoded : (rows : Rows) (rate row count n : ℕ) (more : List ℕ) → RowsInRange rows
    → decoded (count + n) (column_bytes rows rate row count ++ more) ≡ column_numbers rows rate row count ++ decoded n more
unfolding decoded column_bytes column_numbers
column-decoded rows rate row zero n more ranges = rw zero-add
column-decoded rows rate row (suc count) n more ranges =
    let reading : Reading = reading_at rows row rate in
    let rest : List ℕ = column_bytes rows rate (row + 1) count ++ more in
    let four : length (reading_bytes reading) ≡ 4 = reading-length reading in
    rw (
      suc-add,
      append_assoc,
      take_at (reading_bytes reading) rest 4 four,
      drop_at (reading_bytes reading) rest 4 four,
      reading-back reading (read_in_range rows row rate ranges),
      column-decoded rows rate (row + 1) count n more ranges,
    )

-- The bytes of columns of readings within their range decode to their numbers.
pub readings-decoded : (rows : Rows) (rate count row span : ℕ) → RowsInRange rows
    → decoded (count * span) (columns_bytes rows rate count row span) ≡ columns_numbers rows rate count row span
unfolding decoded columns_bytes columns_numbers
readings-decoded rows rate zero row span ranges = rw zero-mul
readings-decoded rows rate (suc count) row span ranges =
    let first : suc count * span ≡ span + count * span = omega arith in
    rw (
      first,
      column-decoded rows rate row span (count * span) (columns_bytes rows (rate + 1) count row span) ranges,
      readings-decoded rows (rate + 1) count row span ranges,
    )
