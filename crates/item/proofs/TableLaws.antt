-- What holds of every row of the table of identifiers.
use Rattle.std.specs.Prelude.{ℕ, ◌+◌, ◌*◌, ◌/◌, ◌≤◌, ◌≡◌, refl, List, [], ◌∷◌, Bool, true, false, leb, eqb, None, Option, Some}
use Rattle.std.proofs.Common.{sym, ap, ◌∙◌, arith}
use borrow.Author.Tests.{leb-true, eqb-true}
use Rattle.laws.specs.Test.{pick}
use Rattle.laws.specs.TestLaws.{pick_cases}
use Rattle.item.specs.Table.{item_of, energy_item, readings, read_only, Row, other_rows, found}
use Rattle.item.specs.declared.table.Kind.{Kind}
use Rattle.item.specs.declared.table.Kind.TheVariants.{Energy, Date, Time, DemandPeriod, Slip, Address, MeterNumber, SettlementDay}
use Rattle.item.specs.declared.table.Item.{Item}

-- The readings of an energy item are within five columns and thirteen rows of one of two directions.
pub record Within (direction rate rates row rows : ℕ) : Type 0 where
  pub directions : direction ≤ 1
  pub columns : rate + rates ≤ 5
  pub settlements : row + rows ≤ 13

-- What holds of every row.
abbrev pub InRows : (ℕ → Item → Type 0) → List Row → Type 0
InRows P [] = Unit
InRows P (r ∷ rows) = P r.identifier r.item × InRows P rows

-- A rule about identifiers and their items, shown of all readings and of each row of the rest of the table.
pub record Rule (P : ℕ → Item → Type 0) : Type 0 where
  pub of_readings : (identifier direction rate rates row rows : ℕ) → Within direction rate rates row rows → 4 + 4 * rates * rows ≤ 200
      → P identifier (read_only (Energy direction rate rates row rows) (4 * rates * rows))
  pub of_rows : InRows P other_rows

-- What is shown of identifiers and their items holds of a lookup, if it lists one.
abbrev pub OfLookup : (ℕ → Item → Type 0) → ℕ → Option Item → Type 0
OfLookup P identifier (Some item) = P identifier item
OfLookup P identifier None = Unit

-- What is shown of rows holds of what is found in them.
pub found_rule : (P : ℕ → Item → Type 0) (identifier : ℕ) (rows : List Row) → InRows P rows → OfLookup P identifier (found identifier rows)
unfolding found
found_rule P identifier [] h = tt
found_rule P identifier (r ∷ rows) h =
    pick_cases (OfLookup P identifier) (eqb identifier r.identifier)
    (λ e. rw (eqb-true identifier r.identifier e) h.0)
    (λ e. found_rule P identifier rows h.1)

module _ {P : ℕ → Item → Type 0} (rule : Rule P) (identifier : ℕ) where
  abbrev Holds : Option Item → Type 0
  Holds = OfLookup P identifier

  -- A rule holds of what energy identifiers list.
  energy_rule : (direction t s : ℕ) → direction ≤ 1 → Holds (energy_item direction t s)
  unfolding energy_item readings
  energy_rule direction t s d =
      pick_cases Holds (leb t 4)
      (λ p. pick_cases Holds (leb s 12)
      (λ q. reading t 1 s 1 (omega (arith, leb-true t 4 p, leb-true s 12 q)) (omega arith))
      (λ q. pick_cases Holds (eqb s 0xFF) (λ r. reading t 1 0 13 (omega (arith, leb-true t 4 p)) (omega arith)) (λ r. tt)))
      (λ p. pick_cases Holds (eqb t 0xFF)
      (λ q. pick_cases Holds (leb s 12) (λ r. reading 0 5 s 1 (omega (arith, leb-true s 12 r)) (omega arith)) (λ r. tt))
      (λ q. tt))
    where
      reading : (rate rates row rows : ℕ) → Within direction rate rates row rows → 4 + 4 * rates * rows ≤ 200
          → Holds (readings direction rate rates row rows)
      reading = rule.of_readings identifier direction

  -- It holds of every lookup, and so of every listed item.
  item_rule : Holds (item_of identifier)
  unfolding item_of
  item_rule =
      pick_cases Holds (eqb (identifier / 65536) 1) (λ p. energy_rule 0 _ _ (omega arith))
      (λ p. pick_cases Holds (eqb (identifier / 65536) 2) (λ q. energy_rule 1 _ _ (omega arith)) (λ q. found_rule P identifier other_rows rule.of_rows))

  pub listed_rule : (item : Item) → item_of identifier ≡ Some item → P identifier item
  listed_rule item h = rw h at item_rule

-- The identifier and the value of a listed item fit one reply.
pub listed-fits : (identifier : ℕ) (item : Item) → item_of identifier ≡ Some item → 4 + item.length ≤ 200
unfolding other_rows
listed-fits =
    listed_rule {P = λ identifier item. 4 + item.length ≤ 200}
    (record { of_readings = λ identifier direction rate rates row rows w b. b; of_rows = omega arith })

-- The identifiers under which each kind is written.
abbrev written_at : Kind → List ℕ
written_at (Energy direction rate rates row rows) = []
written_at Date = 0x04000101 ∷ []
written_at Time = 0x04000102 ∷ []
written_at DemandPeriod = 0x04000103 ∷ []
written_at Slip = 0x04000104 ∷ []
written_at Address = []
written_at MeterNumber = 0x04000402 ∷ []
written_at (SettlementDay n) = (0x04000B00 + n) ∷ []

listed-written : (identifier : ℕ) (item : Item) → item_of identifier ≡ Some item → pick item.writable (identifier ∷ []) [] ≡ written_at item.kind
unfolding other_rows
listed-written =
    listed_rule {P = λ identifier item. pick item.writable (identifier ∷ []) [] ≡ written_at item.kind}
    (record { of_readings = λ identifier direction rate rates row rows w b. refl; of_rows = search depth 10 })

-- A writable item has one identifier.
pub writable-once : (identifier other : ℕ) (item another : Item) → item_of identifier ≡ Some item → item_of other ≡ Some another
    → item.writable ≡ true → item.kind ≡ another.kind → identifier ≡ other
writable-once identifier other item another h k w e =
    once another.writable (rw w at (listed-written identifier item h) ∙ ap written_at e ∙ sym (listed-written other another k))
  where
    once : (t : Bool) → identifier ∷ [] ≡ pick t (other ∷ []) [] → identifier ≡ other
    once true e = cc
    once false e = cc
