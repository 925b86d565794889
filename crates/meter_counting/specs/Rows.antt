-- What a pulse and a settlement make of the rows of one direction.
use Rattle.std.specs.Prelude.{ℕ, List, [], ◌∷◌, Bool, get_or, set, take}
use Rattle.laws.specs.Test.{pick}
use Rattle.item_range.specs.Range.{within}
use Rattle.energy.specs.Reading.{Reading, plus_amount, no_reading}
use Rattle.energy.specs.Energies.{Rows}

-- A pulse amount is added to row 0's rate and total.
abbrev pub pulsed_row : List Reading → ℕ → ℕ → List Reading
pulsed_row row amount rate =
    set (set row 0 (plus_amount (get_or row 0 no_reading) amount)) rate (plus_amount (get_or row rate no_reading) amount)

abbrev pub pulsed_rows : Rows → ℕ → ℕ → Rows
pulsed_rows [] amount rate = []
pulsed_rows (row ∷ rows) amount rate = pulsed_row row amount rate ∷ rows

-- A rate is 1 to 4.
unfoldable pub is_rate : ℕ → Bool
is_rate rate = within 1 4 rate

unfoldable pub pulsed : Rows → ℕ → ℕ → Rows
pulsed rows amount rate = pick (is_rate rate) (pulsed_rows rows amount rate) rows

-- Every row moves down one, row 12 is dropped, and row 0 is kept.
unfoldable pub settled : Rows → Rows
settled [] = []
settled (row ∷ rows) = row ∷ take 12 (row ∷ rows)
