-- What a meter holds for each identifier of energies, in document 01's coordinates: the readings at row s and column t.
use Rattle.std.specs.Prelude.{ℕ, ◌+◌, ◌*◌, ◌≤◌, ◌≡◌, refl, List, [], ◌∷◌, map, length, eqb, Some}
use Rattle.laws.specs.Test.{pick}
use Rattle.item_decimal.specs.Decimal.{Decimal, decoded}
use Rattle.item.specs.Table.{item_of, read_only}
use Rattle.item.proofs.TableWords.{EnergyListed, one, all_t, all_s, forward, reverse, table-words}
use Rattle.item.specs.declared.table.Item.{Item}
use Rattle.item.specs.declared.table.Kind.TheVariants.{Energy}
use Rattle.energy.specs.Energies.{Rows, number_at}
use Rattle.energy.proofs.RangeLaws.{RowsInRange}
use Rattle.energy.specs.Columns.{columns_bytes}
use Rattle.energy.proofs.ColumnsLaws.{columns-length, columns-decimal}
use Rattle.energy.proofs.Decoded.{column_numbers, columns_numbers, readings-decoded}
use Rattle.meter_holding.specs.Holding.{location_of, held_at, value_held, value_for}

-- The bytes are these numbers and nothing else: four packed bytes each, in order, every digit decimal.
pub record DecodeTo (numbers bytes : List ℕ) : Type 0 where
  pub size : length bytes ≡ 4 * length numbers
  pub decimal : Decimal bytes
  pub each : decoded (length numbers) bytes ≡ numbers

-- What the bytes of an identifier are, where it is one of the energies whose bytes DI3 and DI2 are those of `front`: of t s the reading at row
-- s and column t; of FF s those of row s, columns 0 to 4; of t FF those of column t, rows 0 to 12.
pub record GivesReadings (front : ℕ) (rows : Rows) (identifier : ℕ) (bytes : List ℕ) : Type 0 where
  pub one-reading : (t s : ℕ) → t ≤ 4 → s ≤ 12 → identifier ≡ front + (256 * t + s) → DecodeTo (number_at rows s t ∷ []) bytes
  pub all-columns : (s : ℕ) → s ≤ 12 → identifier ≡ front + (0xFF00 + s)
      → DecodeTo (map (λ t. number_at rows s t) (0 ∷ 1 ∷ 2 ∷ 3 ∷ 4 ∷ [])) bytes
  pub all-rows : (t : ℕ) → t ≤ 4 → identifier ≡ front + (256 * t + 0xFF)
      → DecodeTo (map (λ s. number_at rows s t) (0 ∷ 1 ∷ 2 ∷ 3 ∷ 4 ∷ 5 ∷ 6 ∷ 7 ∷ 8 ∷ 9 ∷ 10 ∷ 11 ∷ 12 ∷ [])) bytes

module _ (identifier : ℕ) (address registers : List ℕ) (f r : Rows) where
  -- What is held for an identifier that is listed as energies.
  held-energies : (direction rate rates row rows n : ℕ) → item_of identifier ≡ Some (read_only (Energy direction rate rates row rows) n)
      → value_for identifier address registers f r ≡ columns_bytes (pick (eqb direction 0) f r) rate rates row rows
  unfolding value_for value_held location_of held_at
  held-energies direction rate rates row rows n listed = rw listed

  -- One direction's readings, by how its identifiers are listed.
  module _ (direction front : ℕ) (rows : Rows) (of-direction : pick (eqb direction 0) f r ≡ rows) (ranges : RowsInRange rows)
      (listed : (item : Item) → EnergyListed direction front identifier item → item_of identifier ≡ Some item) where
    columns : (rate rates row span n : ℕ) → item_of identifier ≡ Some (read_only (Energy direction rate rates row span) n)
        → (length (value_for identifier address registers f r) ≡ 4 * rates * span)
        × Decimal (value_for identifier address registers f r)
        × (decoded (rates * span) (value_for identifier address registers f r) ≡ columns_numbers rows rate rates row span)
    columns rate rates row span n found =
        rw (held-energies direction rate rates row span n found, of-direction)
        (columns-length rows rate rates row span, columns-decimal rows rate rates row span ranges, readings-decoded rows rate rates row span ranges)

    gives_readings : GivesReadings front rows identifier (value_for identifier address registers f r)
    unfolding column_numbers columns_numbers
    gives_readings =
        record {
          one-reading =
              λ t s p q e. let c = columns t 1 s 1 4 (listed _ (one t s p q e refl)) in
              record { size = c.0; decimal = c.1; each = c.2 };
          all-columns =
              λ s q e. let c = columns 0 5 s 1 20 (listed _ (all_t s q e refl)) in
              record { size = c.0; decimal = c.1; each = c.2 };
          all-rows =
              λ t p e. let c = columns t 1 0 13 52 (listed _ (all_s t p e refl)) in
              record { size = c.0; decimal = c.1; each = c.2 };
        }

  -- A meter whose readings are within their range holds, for each identifier of energies, the readings that document 01 says: 00 01 is
  -- forward energy, 00 02 reverse energy.
  pub readings-held : RowsInRange f → RowsInRange r
      → GivesReadings 0x00010000 f identifier (value_for identifier address registers f r)
      × GivesReadings 0x00020000 r identifier (value_for identifier address registers f r)
  readings-held p q = (
    gives_readings 0 0x00010000 f refl p (λ item h. (table-words identifier item).1 (forward h)),
    gives_readings 1 0x00020000 r refl q (λ item h. (table-words identifier item).1 (reverse h)),
  )
