-- Laws of what a pulse and a settlement make of rows: what they set and move, and that they keep readings within their range.
use Rattle.std.specs.Prelude.{ℕ, ◌<◌, ◌≡◌, refl, List, [], ◌∷◌, ◌++◌, true, length, get_or, set, take, drop}
use Rattle.std.proofs.Common.{append-nil, length-drop, drop_of_length-le, arith}
use Rattle.item_range.specs.Range.{within}
use Rattle.item_range.proofs.RangeLaws.{within-iff}
use Rattle.laws.specs.AllLaws.{all_take, all_set}
use Rattle.laws.specs.TestLaws.{pick_cases}
use Rattle.energy.specs.Reading.{Reading, no_reading, plus_amount}
use Rattle.energy.proofs.ReadingLaws.{reading-most, plus_in_range}
use Rattle.energy.specs.Energies.{Rows}
use Rattle.energy.proofs.RangeLaws.{ReadingInRange, RowInRange, RowsInRange}
use Rattle.meter_counting.specs.Rows.{is_rate, pulsed_row, pulsed_rows, pulsed, settled}

-- A rate is a column.
pub rate-column : (rate : ℕ) → is_rate rate ≡ true → rate < 5
unfolding is_rate
rate-column rate h = omega (arith, (within-iff 1 4 rate).0 h)

-- At rate 0, which is none, a pulse changes nothing.
pub pulsed_at_zero : (rows : Rows) (amount : ℕ) → pulsed rows amount 0 ≡ rows
unfolding pulsed is_rate within
pulsed_at_zero rows amount = refl

-- A pulse sets row 0.
pub pulsed-set : (rows : Rows) (amount rate : ℕ) → set rows 0 (pulsed_row (get_or rows 0 []) amount rate) ≡ pulsed_rows rows amount rate
pulsed-set [] amount rate = refl
pulsed-set (row ∷ rows) amount rate = refl

-- A settlement has row 0 before the first twelve of thirteen rows.
pub settled_fronts : (rows : Rows) → take 1 rows ++ take 12 rows ≡ settled rows
unfolding settled
settled_fronts [] = refl
settled_fronts (row ∷ rows) = refl

pub settled_behind : (rows moved : Rows) → length rows ≡ 13 → moved ≡ take 12 rows → take 1 rows ++ (moved ++ drop 12 (drop 1 rows)) ≡ settled rows
settled_behind rows moved size e =
    let none : drop 12 (drop 1 rows) ≡ [] = drop_of_length-le (drop 1 rows) {i = 12} (rw length-drop (omega arith)) in
    rw (e, none, append-nil) (settled_fronts rows)

-- A pulse and a settlement keep readings within their range.
pub pulsed_in_range : (rows : Rows) (amount rate : ℕ) → RowsInRange rows → RowsInRange (pulsed rows amount rate)
unfolding pulsed
pulsed_in_range rows amount rate h = pick_cases RowsInRange (is_rate rate) (λ _. go rows h) (λ _. h)
  where
    go : (rows : Rows) → RowsInRange rows → RowsInRange (pulsed_rows rows amount rate)
    go [] h = tt
    go (row ∷ rows) h =
        let total : List Reading = set row 0 (plus_amount (get_or row 0 no_reading) amount) in
        let first : RowInRange total = all_set ReadingInRange row 0 _ h.0 ((reading-most _).0 (plus_in_range (get_or row 0 no_reading) amount)) in
        (all_set ReadingInRange total rate _ first ((reading-most _).0 (plus_in_range (get_or row rate no_reading) amount)), h.1)

pub settled_in_range : (rows : Rows) → RowsInRange rows → RowsInRange (settled rows)
unfolding settled
settled_in_range [] h = tt
settled_in_range (row ∷ rows) h = (h.0, all_take RowInRange 12 (row ∷ rows) h)
