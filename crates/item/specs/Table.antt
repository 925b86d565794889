-- Document 01's table of data identifiers: for each its kind, its length in bytes and whether it may be written. An identifier is a
-- number whose highest byte is DI3 and whose lowest is DI0.
use Rattle.std.specs.Prelude.{ℕ, ◌*◌, ◌/◌, ◌%◌, List, [], ◌∷◌, Bool, true, false, leb, eqb, None, Option, Some}
use Rattle.laws.specs.Test.{pick}
use Rattle.item.specs.declared.table.Kind.{Kind}
use Rattle.item.specs.declared.table.Kind.TheVariants.{Energy, Date, Time, DemandPeriod, Slip, Address, MeterNumber, SettlementDay}
use Rattle.item.specs.declared.table.Item.{Item}

-- An item that is only read, and one that may be written.
abbrev pub read_only : Kind → ℕ → Item
read_only kind length = record { kind = kind; length = length; writable = false }

abbrev pub writable_item : Kind → ℕ → Item
writable_item kind length = record { kind = kind; length = length; writable = true }

-- The readings of `rates` columns from `rate` on, each at `rows` rows from `row` on: four bytes each, not to be written.
unfoldable pub readings : ℕ → ℕ → ℕ → ℕ → ℕ → Option Item
readings direction rate rates row rows = Some (read_only (Energy direction rate rates row rows) (4 * rates * rows))

-- t 00..04 with s 00..0C; t with FF, all s in order; FF with s, all t in order. Both FF at once is not an identifier.
unfoldable pub energy_item : ℕ → ℕ → ℕ → Option Item
energy_item direction t s =
    pick (leb t 4)
    (pick (leb s 12)
    (readings direction t 1 s 1)
    (pick (eqb s 0xFF)
    (readings direction t 1 0 13)
    None))
    (pick (eqb t 0xFF)
    (pick (leb s 12)
    (readings direction 0 5 s 1)
    None)
    None)

-- A row of the rest of the table.
pub record Row : Type 0 where
  pub identifier : ℕ
  pub item : Item

abbrev row : ℕ → Item → Row
row identifier item = record { identifier = identifier; item = item }

-- The rest of the table, as document 01 prints it.
unfoldable pub other_rows : List Row
other_rows =
    row 0x04000101 (writable_item Date 4)
    ∷ row 0x04000102 (writable_item Time 3)
    ∷ row 0x04000103 (writable_item DemandPeriod 1)
    ∷ row 0x04000104 (writable_item Slip 1)
    ∷ row 0x04000401 (read_only Address 6)
    ∷ row 0x04000402 (writable_item MeterNumber 6)
    ∷ row 0x04000B01 (writable_item (SettlementDay 1) 2)
    ∷ row 0x04000B02 (writable_item (SettlementDay 2) 2)
    ∷ row 0x04000B03 (writable_item (SettlementDay 3) 2)
    ∷ []

-- The first row of this identifier.
unfoldable pub found : ℕ → List Row → Option Item
found identifier [] = None
found identifier (r ∷ rows) = pick (eqb identifier r.identifier) (Some r.item) (found identifier rows)

-- What the table has for an identifier: 00 01 t s is forward energy, 00 02 t s is reverse energy.
unfoldable pub item_of : ℕ → Option Item
item_of identifier =
    pick (eqb (identifier / 65536) 1)
    (energy_item 0 (identifier / 256 % 256) (identifier % 256))
    (pick (eqb (identifier / 65536) 2)
    (energy_item 1 (identifier / 256 % 256) (identifier % 256))
    (found identifier other_rows))

-- A value of so many bytes has the length of what was looked up; of an identifier that is not listed none has.
abbrev pub has_length : Option Item → ℕ → Bool
has_length (Some item) n = eqb n item.length
has_length None n = false
