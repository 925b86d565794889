-- The bytes of readings as a read gives them: columns in order, each at its rows in order.
use Rattle.std.specs.Prelude.{ℕ, zero, suc, ◌+◌, List, [], ◌++◌}
use Rattle.energy.specs.Reading.{reading_bytes}
use Rattle.energy.specs.Energies.{Rows, reading_at}

-- The bytes of one column at `count` rows from `row` on, in order.
unfoldable pub column_bytes : Rows → ℕ → ℕ → ℕ → List ℕ
column_bytes rows rate row zero = []
column_bytes rows rate row (suc count) = reading_bytes (reading_at rows row rate) ++ column_bytes rows rate (row + 1) count

-- The bytes of `count` columns from `rate` on, in order, each at `span` rows from `row` on.
unfoldable pub columns_bytes : Rows → ℕ → ℕ → ℕ → ℕ → List ℕ
columns_bytes rows rate zero row span = []
columns_bytes rows rate (suc count) row span = column_bytes rows rate row span ++ columns_bytes rows (rate + 1) count row span
