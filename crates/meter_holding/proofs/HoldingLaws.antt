-- Laws of what a meter holds: the lengths of values, the locations of registers, and a value put in another's place.
use Rattle.std.specs.Prelude.{ℕ, ◌+◌, ◌*◌, ◌-◌, ◌≤◌, ◌<◌, ◌≡◌, refl, List, ◌∷◌, ◌++◌, Bool, true, false, take, drop, get_or, replicate, leb, Ok, Some}
use Rattle.std.proofs.Math.Path.{sym}
use Rattle.std.proofs.Common.{ap, ◌∙◌, true≢false, get_or-take, get_or-drop}
use native.Mathlib.Omega.{arith}
use Rattle.std.proofs.Math.ListN.{length}
use Rattle.std.proofs.lemmas.List.{get_or-replicate}
use borrow.Author.Tests.{leb-true, leb-false, le-leb, eq-eqb}
use Rattle.item_decimal.specs.Decimal.{Decimal}
use Rattle.item_decimal.proofs.DecimalLaws.{decimal-take, decimal-drop, decimal_join}
use Rattle.item.specs.Table.{item_of, other_rows}
use Rattle.item.proofs.TableLaws.{Within, listed_rule, writable-once}
use Rattle.item.specs.declared.table.Kind.{Kind}
use Rattle.item.specs.declared.table.Kind.TheVariants.{Date, Time, DemandPeriod, Slip, Address, MeterNumber, SettlementDay}
use Rattle.item.specs.declared.table.Item.{Item}
use Rattle.energy.specs.Energies.{Rows}
use Rattle.energy.proofs.ColumnsLaws.{columns-length}
use Rattle.meter_holding.specs.Holding.{location_of, held_at, value_held, registers_with, value_written, registers_after, FitsAt}
use Rattle.laws.specs.Memory.{outcome, over}
use Rattle.laws.specs.Part.{with_part}
use Rattle.laws.specs.PartLaws.{part_length, Apart, before, behind, put-length, put_back, put-apart}
use Rattle.meter_holding.specs.declared.location.Location.{Location}
use Rattle.meter_holding.specs.declared.location.Location.TheVariants.{Readings, OwnAddress, Register}

-- Decimal bytes put in a part's place leave all decimal.
pub put-decimal : (at : ℕ) (value xs : List ℕ) → Decimal value → Decimal xs → Decimal (with_part at value xs)
unfolding with_part
put-decimal at value xs v d =
    let rest : List ℕ = drop (at + length value) xs in
    decimal_join (take at xs) (value ++ rest) (decimal-take at xs d) (decimal_join value rest v (decimal-drop (at + length value) xs d))

-- Registers stay decimal.
pub registers-decimal : (location : Location) (value registers : List ℕ) → Decimal value → Decimal registers → Decimal (registers_with location value registers)
unfolding registers_with
registers-decimal (Readings direction rate rates row rows) value registers v d = d
registers-decimal OwnAddress value registers v d = d
registers-decimal (Register at) value registers v d = put-decimal at value registers v d

-- The kind that each byte of the registers belongs to.
kind_of_each_byte : List Kind
kind_of_each_byte =
    replicate 4 Date ++ (replicate 3 Time ++ (DemandPeriod ∷ Slip ∷ (replicate 6 MeterNumber
    ++ (replicate 2 (SettlementDay 1) ++ (replicate 2 (SettlementDay 2) ++ replicate 2 (SettlementDay 3))))))

-- An item at its location: a register may be written and stands within the 21 bytes, all of which there belong to its kind.
abbrev Located : Item → Location → Type 0
Located item (Readings direction rate rates row rows) =
    (item.writable ≡ false) × (item.length ≡ 4 * rates * rows) × Within direction rate rates row rows
Located item OwnAddress = (item.writable ≡ false) × (item.length ≡ 6)
Located item (Register at) =
    (item.writable ≡ true)
    × (0 < item.length)
    × (at + item.length ≤ 21)
    × (take item.length (drop at kind_of_each_byte) ≡ replicate item.length item.kind)

located : (identifier : ℕ) (item : Item) → item_of identifier ≡ Some item → Located item (location_of item.kind)
unfolding other_rows location_of kind_of_each_byte
located =
    listed_rule {P = λ identifier item. Located item (location_of item.kind)}
    (record {
      of_readings = λ identifier direction rate rates row rows w b. (refl, refl, w);
      of_rows = search arith depth 12;
    })

-- Each byte of a register belongs to its kind.
kind_at : (item : Item) (at i : ℕ) → Located item (Register at) → i < item.length → get_or kind_of_each_byte (at + i) Address ≡ item.kind
kind_at item at i p l =
    sym (get_or-drop at kind_of_each_byte i Address)
    ∙ sym (get_or-take item.length (drop at kind_of_each_byte) i Address l)
    ∙ ap (λ (kinds : List Kind). get_or kinds i Address) p.3
    ∙ get_or-replicate item.length i item.kind Address l

-- Registers of two kinds share no byte, for it would belong to both.
registers-apart : (item another : Item) (at other : ℕ) → Located item (Register at) → Located another (Register other)
    → (item.kind ≡ another.kind → ⊥) → Apart at item.length other another.length
registers-apart item another at other p q differ = go (leb (other + another.length) at) (leb (at + item.length) other) refl refl
  where
    go : (t u : Bool) → leb (other + another.length) at ≡ t → leb (at + item.length) other ≡ u
        → Apart at item.length other another.length
    go true u e f = before (leb-true _ _ e)
    go false true e f = behind (leb-true _ _ f)
    go false false e f =
        let common : at + (other - at) ≡ other + (at - other) = omega arith in
        let left : other - at < item.length = omega (arith, leb-false) in
        let right : at - other < another.length = omega (arith, leb-false) in
        absurd (differ (cc (kind_at item at (other - at) p left, kind_at another other (at - other) q right)))

module _ (identifier : ℕ) (item : Item) (listed : item_of identifier ≡ Some item) where
  -- A listed item's bytes fit at its location.
  pub listed_fits_at : FitsAt item.length (location_of item.kind)
  listed_fits_at = go (location_of item.kind) (located identifier item listed)
    where
      go : (location : Location) → Located item location → FitsAt item.length location
      go (Readings direction rate rates row rows) p = (p.2, p.1)
      go OwnAddress p = p.1
      go (Register at) p = p.2

  -- The value of a listed item is written where there is room for it.
  pub value_written_lem : (address registers : List ℕ) (forward reverse : Rows) (m : List ℕ) → item.length ≤ length m
      → value_written identifier address registers forward reverse m
      ≡ outcome (Ok item.length) (over (value_held item address registers forward reverse) m)
  unfolding value_written
  value_written_lem address registers forward reverse m room = rw (listed, le-leb _ _ room)

  -- A value as long as a listed item is put at its location.
  pub registers-after : (value registers : List ℕ) → length value ≡ item.length
      → registers_after identifier value registers ≡ registers_with (location_of item.kind) value registers
  unfolding registers_after
  registers-after value registers e = rw (listed, eq-eqb _ _ e)

  module _ (address registers : List ℕ) (six : length address ≡ 6) (all : length registers ≡ 21) where
    -- The value has the item's length.
    pub value-length : (forward reverse : Rows) → length (value_held item address registers forward reverse) ≡ item.length
    unfolding value_held held_at
    value-length forward reverse = go (location_of item.kind) (located identifier item listed)
      where
        go : (location : Location) → Located item location → length (held_at location item.length address registers forward reverse) ≡ item.length
        go (Readings direction rate rates row rows) p = columns-length _ rate rates row rows ∙ sym p.1
        go OwnAddress p = six ∙ sym p.1
        go (Register at) p = part_length at item.length registers (omega arith)

    module _ (value : List ℕ) (e : length value ≡ item.length) where
      -- Another value leaves the registers their length.
      pub value-sized : length (registers_with (location_of item.kind) value registers) ≡ 21
      unfolding registers_with
      value-sized = go (location_of item.kind) (located identifier item listed)
        where
          go : (location : Location) → Located item location → length (registers_with location value registers) ≡ 21
          go (Readings direction rate rates row rows) p = all
          go OwnAddress p = all
          go (Register at) p =
              let fits : at + length value ≤ length registers = omega arith in
              put-length at value registers fits ∙ all

      -- A written value is read back, and every other item keeps its value.
      pub value-back : item.writable ≡ true → (forward reverse : Rows)
          → value_held item address (registers_with (location_of item.kind) value registers) forward reverse ≡ value
      unfolding value_held held_at registers_with
      value-back w forward reverse = go (location_of item.kind) (located identifier item listed)
        where
          go : (location : Location) → Located item location → held_at location item.length address (registers_with location value registers) forward reverse ≡ value
          go (Readings direction rate rates row rows) p = absurd (true≢false (sym w ∙ p.0))
          go OwnAddress p = absurd (true≢false (sym w ∙ p.0))
          go (Register at) p = put_back at value registers item.length (omega arith) e

      pub value-other : item.writable ≡ true → (other : ℕ) (another : Item) → item_of other ≡ Some another → (other ≡ identifier → ⊥)
          → (forward reverse : Rows) → value_held another address (registers_with (location_of item.kind) value registers) forward reverse ≡ value_held another address registers forward reverse
      unfolding value_held held_at registers_with
      value-other w other another h differ forward reverse =
          go (location_of item.kind) (location_of another.kind) (located identifier item listed) (located other another h)
        where
          kinds : item.kind ≡ another.kind → ⊥
          kinds k = differ (sym (writable-once identifier other item another listed h w k))

          go : (location elsewhere : Location) → Located item location → Located another elsewhere
              → held_at elsewhere another.length address (registers_with location value registers) forward reverse
              ≡ held_at elsewhere another.length address registers forward reverse
          go (Readings direction rate rates row rows) elsewhere p q = refl
          go OwnAddress elsewhere p q = refl
          go (Register at) (Readings direction rate rates row rows) p q = refl
          go (Register at) OwnAddress p q = refl
          go (Register at) (Register b) p q =
              put-apart at value registers b another.length (omega arith) (rw e (registers-apart item another at b p q kinds))
