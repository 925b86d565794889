-- Laws of columns: their lengths, that they are their readings end to end, and that they are decimal.
use Rattle.std.specs.Prelude.{ℕ, zero, suc, ◌+◌, ◌*◌, ◌≡◌, refl, length}
use Rattle.std.proofs.Common.{arith, length-append}
use Rattle.laws.specs.JoinLaws.{Joined, joined-from}
use Rattle.item_decimal.specs.Decimal.{Decimal}
use Rattle.item_decimal.proofs.DecimalLaws.{decimal_join}
use Rattle.energy.specs.Reading.{reading_bytes}
use Rattle.energy.proofs.ReadingLaws.{reading-length, reading-decimal}
use Rattle.energy.specs.Energies.{Rows, reading_at}
use Rattle.energy.proofs.RangeLaws.{RowsInRange, read_in_range}
use Rattle.energy.specs.Columns.{column_bytes, columns_bytes}

-- Each reading of a column and of columns has four bytes.
pub column-length : (rows : Rows) (rate row count : ℕ) → length (column_bytes rows rate row count) ≡ 4 * count
unfolding column_bytes
column-length rows rate row zero = refl
column-length rows rate row (suc count) =
    rw (length-append, reading-length, column-length rows rate (row + 1) count) (omega arith)

pub columns-length : (rows : Rows) (rate count row span : ℕ) → length (columns_bytes rows rate count row span) ≡ 4 * count * span
unfolding columns_bytes
columns-length rows rate zero row span = omega arith
columns-length rows rate (suc count) row span =
    rw (length-append, column-length, columns-length rows (rate + 1) count row span) (omega arith)

-- A column is its readings end to end, and columns are end to end.
pub column-joined : (rows : Rows) (rate row : ℕ) → Joined (λ i. reading_bytes (reading_at rows (row + i) rate)) (column_bytes rows rate row)
unfolding column_bytes
column-joined rows rate row =
    joined-from (λ r. reading_bytes (reading_at rows r rate)) (column_bytes rows rate) (λ r. refl) (λ r n. refl) row

pub columns-joined : (rows : Rows) (rate row span : ℕ) → Joined (λ i. column_bytes rows (rate + i) row span) (λ i. columns_bytes rows rate i row span)
unfolding columns_bytes
columns-joined rows rate row span =
    joined-from (λ r. column_bytes rows r row span) (λ r i. columns_bytes rows r i row span) (λ r. refl) (λ r n. refl) rate

-- Columns of readings within their range are decimal.
column-decimal : (rows : Rows) (rate row count : ℕ) → RowsInRange rows → Decimal (column_bytes rows rate row count)
unfolding column_bytes
column-decimal rows rate row zero ranges = tt
column-decimal rows rate row (suc count) ranges =
    decimal_join (reading_bytes (reading_at rows row rate)) (column_bytes rows rate (row + 1) count)
    (reading-decimal (reading_at rows row rate) (read_in_range rows row rate ranges)) (column-decimal rows rate (row + 1) count ranges)

pub columns-decimal : (rows : Rows) (rate count row span : ℕ) → RowsInRange rows → Decimal (columns_bytes rows rate count row span)
unfolding columns_bytes
columns-decimal rows rate zero row span ranges = tt
columns-decimal rows rate (suc count) row span ranges =
    decimal_join (column_bytes rows rate row span) (columns_bytes rows (rate + 1) count row span) (column-decimal rows rate row span ranges)
    (columns-decimal rows (rate + 1) count row span ranges)
