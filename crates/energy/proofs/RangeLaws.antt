-- Readings within their range: rows of them, and what is read of them.
use Rattle.std.specs.Prelude.{ℕ, ◌≤◌, ◌≡◌, refl, List, [], ◌∷◌, ◌++◌, Bool, true, ◌&&◌, ◌↔◌, get_or}
use Rattle.std.specs.List.{flat_map}
use Rattle.std.proofs.Common.{sym, ap, ◌∙◌}
use Rattle.std.proofs.Math.Bool.{and_assoc}
use Rattle.laws.specs.All.{AllOf, all_of}
use Rattle.laws.specs.AllLaws.{all_get, all-iff}
use Rattle.energy.specs.Reading.{Reading, no_reading, number_of, reading_in_range}
use Rattle.energy.proofs.ReadingLaws.{reading-most, zero_in_range, none_in_range}
use Rattle.energy.specs.Energies.{Rows, row_in_range, rows_in_range, zero_rows, reading_at}

-- A reading is within its range, up to 99,999,999; and every reading of a row, and of every row.
abbrev pub ReadingInRange : Reading → Type 0
ReadingInRange reading = number_of reading ≤ 99999999

abbrev pub RowInRange : List Reading → Type 0
RowInRange row = AllOf ReadingInRange row

abbrev pub RowsInRange : Rows → Type 0
RowsInRange rows = AllOf RowInRange rows

-- The test of rows holds exactly where every reading is within its range.
pub rows_in_range_lem : (rows : Rows) → (rows_in_range rows ≡ true) ↔ RowsInRange rows
unfolding row_in_range rows_in_range
rows_in_range_lem rows = all-iff RowInRange row_in_range (all-iff ReadingInRange reading_in_range reading-most) rows

-- The test of readings end to end, one by one, is the test of rows.
all-joined : (row : List Reading) (more : List Reading) → all_of reading_in_range (row ++ more) ≡ (all_of reading_in_range row && all_of reading_in_range more)
unfolding all_of
all-joined [] more = refl
all-joined (reading ∷ row) more = ap (λ (t : Bool). reading_in_range reading && t) (all-joined row more) ∙ sym (and_assoc (reading_in_range reading) _ _)

pub all_flat : (rows : Rows) → all_of reading_in_range (flat_map (λ (row : List Reading). row) rows) ≡ rows_in_range rows
unfolding all_of row_in_range rows_in_range
all_flat [] = refl
all_flat (row ∷ rows) = all-joined row (flat_map (λ (r : List Reading). r) rows) ∙ ap (λ (t : Bool). all_of reading_in_range row && t) (all_flat rows)

-- Fresh rows are within the range.
pub zero_rows_in_range : RowsInRange zero_rows
unfolding all_of row_in_range rows_in_range
zero_rows_in_range = (rows_in_range_lem zero_rows).0 (rw zero_in_range)

-- What is read at any row and column is within its range.
pub read_in_range : (rows : Rows) (row rate : ℕ) → RowsInRange rows → reading_in_range (reading_at rows row rate) ≡ true
unfolding reading_at
read_in_range rows row rate h =
    (reading-most _).1 (all_get ReadingInRange (get_or rows row []) rate no_reading (all_get RowInRange rows row [] h tt) ((reading-most _).0 none_in_range))
