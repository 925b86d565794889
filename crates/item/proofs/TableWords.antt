-- Document 01's table of data identifiers in its own figures, and that the table lists exactly these.
use Rattle.std.specs.Prelude.{ℕ, ◌+◌, ◌*◌, ◌/◌, ◌%◌, ◌≤◌, ◌≡◌, refl, ◌↔◌, leb, eqb, None, Option, Some}
use Rattle.std.proofs.Common.{◌∙◌, arith}
use Rattle.std.proofs.Math.Nat.{div-div-eq-div-mul}
use borrow.Author.Tests.{leb-true, le-leb, eqb-true}
use Rattle.laws.specs.TestLaws.{pick_cases}
use Rattle.item.specs.Table.{read_only, writable_item, readings, energy_item, other_rows, found, item_of}
use Rattle.item.proofs.TableLaws.{InRows, OfLookup, found_rule}
use Rattle.item.specs.declared.table.Kind.TheVariants.{Energy, Date, Time, DemandPeriod, Slip, Address, MeterNumber, SettlementDay}
use Rattle.item.specs.declared.table.Item.{Item}

-- The energies of one direction, whose identifiers begin with the two bytes DI3 and DI2 of `front`: t s is one reading, of column t and row s;
-- FF s all columns of row s; t FF all rows of column t. Four bytes each reading, none to be written.
pub data EnergyListed (direction front identifier : ℕ) (item : Item) : Type 0 where
  one : (t s : ℕ) → t ≤ 4 → s ≤ 12 → identifier ≡ front + (256 * t + s) → item ≡ read_only (Energy direction t 1 s 1) 4
      → EnergyListed direction front identifier item
  all_t : (s : ℕ) → s ≤ 12 → identifier ≡ front + (0xFF00 + s) → item ≡ read_only (Energy direction 0 5 s 1) 20
      → EnergyListed direction front identifier item
  all_s : (t : ℕ) → t ≤ 4 → identifier ≡ front + (256 * t + 0xFF) → item ≡ read_only (Energy direction t 1 0 13) 52
      → EnergyListed direction front identifier item

-- The table, row by row: 00 01 is forward energy, 00 02 reverse energy.
pub data InTable (identifier : ℕ) (item : Item) : Type 0 where
  forward : EnergyListed 0 0x00010000 identifier item → InTable identifier item
  reverse : EnergyListed 1 0x00020000 identifier item → InTable identifier item
  date : identifier ≡ 0x04000101 → item ≡ writable_item Date 4 → InTable identifier item
  time : identifier ≡ 0x04000102 → item ≡ writable_item Time 3 → InTable identifier item
  period : identifier ≡ 0x04000103 → item ≡ writable_item DemandPeriod 1 → InTable identifier item
  slip : identifier ≡ 0x04000104 → item ≡ writable_item Slip 1 → InTable identifier item
  address : identifier ≡ 0x04000401 → item ≡ read_only Address 6 → InTable identifier item
  number : identifier ≡ 0x04000402 → item ≡ writable_item MeterNumber 6 → InTable identifier item
  day_1 : identifier ≡ 0x04000B01 → item ≡ writable_item (SettlementDay 1) 2 → InTable identifier item
  day_2 : identifier ≡ 0x04000B02 → item ≡ writable_item (SettlementDay 2) 2 → InTable identifier item
  day_3 : identifier ≡ 0x04000B03 → item ≡ writable_item (SettlementDay 3) 2 → InTable identifier item

-- What an energy identifier lists, by its bytes DI1 and DI0.
energy_listed : (direction front identifier : ℕ) → identifier ≡ front + (256 * (identifier / 256 % 256) + identifier % 256)
    → OfLookup (EnergyListed direction front) identifier (energy_item direction (identifier / 256 % 256) (identifier % 256))
unfolding energy_item readings
energy_listed direction front identifier whole =
    pick_cases P (leb t 4)
    (λ p. pick_cases P (leb s 12)
    (λ q. one t s (leb-true t 4 p) (leb-true s 12 q) whole refl)
    (λ q. pick_cases P (eqb s 0xFF) (λ r. all_s t (leb-true t 4 p) (omega (arith, eqb-true s 0xFF r, whole)) refl) (λ r. tt)))
    (λ p. pick_cases P (eqb t 0xFF)
    (λ q. pick_cases P (leb s 12) (λ r. all_t s (leb-true s 12 r) (omega (arith, eqb-true t 0xFF q, whole)) refl) (λ r. tt))
    (λ q. tt))
  where
    t : ℕ
    t = identifier / 256 % 256

    s : ℕ
    s = identifier % 256

    P : Option Item → Type 0
    P = OfLookup (EnergyListed direction front) identifier

-- Its bytes make it up.
whole : (identifier front : ℕ) → identifier / 65536 ≡ front → identifier ≡ 65536 * front + (256 * (identifier / 256 % 256) + identifier % 256)
whole identifier front e =
    let second : identifier / 256 % 256 + 256 * (identifier / 65536) ≡ identifier / 256 = omega (arith, div-div-eq-div-mul identifier 256 256) in
    omega arith

-- Whatever the table lists stands in document 01's.
lookup_listed : (identifier : ℕ) → OfLookup InTable identifier (item_of identifier)
unfolding item_of other_rows
lookup_listed identifier =
    pick_cases (OfLookup InTable identifier) (eqb (identifier / 65536) 1)
    (λ p. through (EnergyListed 0 0x00010000) (λ item h. forward h) (energy_item 0 t s) (energy_listed 0 0x00010000 identifier (whole identifier 1 (eqb-true _ _ p))))
    (λ p. pick_cases (OfLookup InTable identifier) (eqb (identifier / 65536) 2)
    (λ q. through (EnergyListed 1 0x00020000) (λ item h. reverse h) (energy_item 1 t s) (energy_listed 1 0x00020000 identifier (whole identifier 2 (eqb-true _ _ q))))
    (λ q. found_rule InTable identifier other_rows rows))
  where
    t : ℕ
    t = identifier / 256 % 256

    s : ℕ
    s = identifier % 256

    through : (P : ℕ → Item → Type 0) → ((item : Item) → P identifier item → InTable identifier item) → (l : Option Item) → OfLookup P identifier l
        → OfLookup InTable identifier l
    through P f (Some item) h = f item h
    through P f None h = tt

    rows : InRows InTable other_rows
    rows = (
      date refl refl,
      (time refl refl, (period refl refl, (slip refl refl, (address refl refl, (number refl refl, (day_1 refl refl, (day_2 refl refl, (day_3 refl refl, tt)))))))),
    )

-- The bytes DI1 and DI0 of an energy identifier.
module _ (front t s : ℕ) (t-most : t ≤ 255) (s-most : s ≤ 255) where
  high : (65536 * front + (256 * t + s)) / 65536 ≡ front
  high = omega arith

  di1 : (65536 * front + (256 * t + s)) / 256 % 256 ≡ t
  di1 =
      let quotient : (65536 * front + (256 * t + s)) / 256 ≡ 256 * front + t = omega arith in
      rw quotient (omega arith)

  di0 : (65536 * front + (256 * t + s)) % 256 ≡ s
  di0 = omega arith

-- An identifier of energies is listed as what its bytes DI1 and DI0 list.
energies_at : (t s : ℕ) → t ≤ 255 → s ≤ 255
    → (item_of (0x00010000 + (256 * t + s)) ≡ energy_item 0 t s) × (item_of (0x00020000 + (256 * t + s)) ≡ energy_item 1 t s)
unfolding item_of
energies_at t s p q = (
  rw (high 1 t s p q, di1 1 t s p q, di0 1 t s p q),
  rw (high 2 t s p q, di1 2 t s p q, di0 2 t s p q),
)

-- What is listed for each row of one direction's energies.
module _ (direction front : ℕ) (listed_at : (t s : ℕ) → t ≤ 255 → s ≤ 255 → item_of (front + (256 * t + s)) ≡ energy_item direction t s) where
  one-listed : (t s : ℕ) → t ≤ 4 → s ≤ 12 → item_of (front + (256 * t + s)) ≡ Some (read_only (Energy direction t 1 s 1) 4)
  unfolding energy_item readings
  one-listed t s p q = listed_at t s (omega arith) (omega arith) ∙ rw (le-leb t 4 p, le-leb s 12 q)

  all_t_listed : (s : ℕ) → s ≤ 12 → item_of (front + (0xFF00 + s)) ≡ Some (read_only (Energy direction 0 5 s 1) 20)
  unfolding energy_item readings
  all_t_listed s q = listed_at 0xFF s (omega arith) (omega arith) ∙ rw (le-leb s 12 q)

  all_s_listed : (t : ℕ) → t ≤ 4 → item_of (front + (256 * t + 0xFF)) ≡ Some (read_only (Energy direction t 1 0 13) 52)
  unfolding energy_item readings
  all_s_listed t p = listed_at t 0xFF (omega arith) (omega arith) ∙ rw (le-leb t 4 p)

  direction_listed : (identifier : ℕ) (item : Item) → EnergyListed direction front identifier item → item_of identifier ≡ Some item
  direction_listed identifier item (one t s p q e f) = rw (e, f) (one-listed t s p q)
  direction_listed identifier item (all_t s q e f) = rw (e, f) (all_t_listed s q)
  direction_listed identifier item (all_s t p e f) = rw (e, f) (all_s_listed t p)

-- An identifier is listed, and as this item, exactly where document 01's table has it.
pub table-words : (identifier : ℕ) (item : Item) → (item_of identifier ≡ Some item) ↔ InTable identifier item
unfolding item_of found other_rows
table-words identifier item = (λ h. rw h at (lookup_listed identifier), back)
  where
    back : InTable identifier item → item_of identifier ≡ Some item
    back (forward r) = direction_listed 0 0x00010000 (λ t s p q. (energies_at t s p q).0) identifier item r
    back (reverse r) = direction_listed 1 0x00020000 (λ t s p q. (energies_at t s p q).1) identifier item r
    back (date e f) = rw (e, f)
    back (time e f) = rw (e, f)
    back (period e f) = rw (e, f)
    back (slip e f) = rw (e, f)
    back (address e f) = rw (e, f)
    back (number e f) = rw (e, f)
    back (day_1 e f) = rw (e, f)
    back (day_2 e f) = rw (e, f)
    back (day_3 e f) = rw (e, f)
