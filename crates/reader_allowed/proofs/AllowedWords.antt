-- Document 01's "Allowed" in its own words, by a request's parts, and that its conditions say exactly this.
use Rattle.std.specs.Prelude.{ℕ, ◌≤◌, ◌≡◌, refl, List, [], Bool, true, false, ◌||◌, ◌↔◌, take, Err, Ok, Some}
use Rattle.std.proofs.Math.Path.{ap}
use Rattle.std.proofs.Common.{◌∙◌, arith}
use Rattle.std.proofs.lemmas.Bool.{false≢true}
use Rattle.std.proofs.Math.Bool.{or-true}
use Rattle.std.proofs.Math.ListN.{length}
use Rattle.std.proofs.Math.Seq.{length-take-le}
use borrow.Author.Tests.{leb-true, le-leb, eqb-true, eq-eqb}
use Rattle.laws.specs.ChecksLaws.{AllHold, all_pass}
use Rattle.item_decimal.specs.Decimal.{Decimal}
use Rattle.item_address.specs.Address.{Good, is_good, ShortAddress, is_short}
use Rattle.item_address.proofs.AddressLaws.{good, is_good_lem, short-address, is_short_lem}
use Rattle.item.specs.Content.{content_of}
use Rattle.item.proofs.ContentLaws.{Range, content-allowed}
use Rattle.item.specs.Table.{item_of, other_rows}
use Rattle.item.proofs.TableLaws.{InRows, listed_rule}
use Rattle.item.specs.declared.table.Item.{Item}
use Rattle.reader_judgement.specs.declared.Action.{Action}
use Rattle.reader_judgement.specs.declared.Action.TheVariants.{ReadData, ReadAddress, WriteData}
use Rattle.reader_allowed.specs.Allowed.{address_allowed, content_checks, value_conditions, conditions_of, admission, is_admitted}
use Rattle.reader_allowed.proofs.AllowedLaws.{content-holds, all_hold, listed_hold}

-- An address that a read may go to: a good one, or a short one.
pub data Readable (address : List ℕ) : Type 0 where
  full : Good address → Readable address
  short : ShortAddress address → Readable address

-- A read of a listed identifier, to a good address or a short one.
pub record AllowedRead (to : List ℕ) (identifier : ℕ) : Type 0 where
  pub address : Readable to
  pub item : Item
  pub listed : item_of identifier ≡ Some item

-- A write of a writable identifier to a good address: level 00 to 09, length and content as the meter checks them. The value is the first
-- `count` of the bytes; password and operator code are any bytes.
pub record AllowedWrite (to : List ℕ) (identifier at_level : ℕ) (bytes : List ℕ) (count : ℕ) : Type 0 where
  pub address : Good to
  pub item : Item
  pub listed : item_of identifier ≡ Some item
  pub writable : item.writable ≡ true
  pub level : at_level ≤ 9
  pub data_length : count ≡ item.length
  pub decimal : Decimal (take count bytes)
  pub range : Range item.kind (take count bytes)

-- Read address is always allowed.
abbrev pub AllowedInWords : Action → List ℕ → ℕ → ℕ → List ℕ → ℕ → Type 0
AllowedInWords ReadData address identifier level value count = AllowedRead address identifier
AllowedInWords ReadAddress address identifier level value count = Unit
AllowedInWords WriteData address identifier level value count = AllowedWrite address identifier level value count

-- The test of a read's address.
readable : (address : List ℕ) → length address ≡ 6 → address_allowed address ≡ true → Readable address
unfolding address_allowed
readable address six h = go (is_good address) refl h
  where
    go : (t : Bool) → is_good address ≡ t → (t || is_short address) ≡ true → Readable address
    go true e k = full (good address e)
    go false e k = short (short-address address six k)

is_readable : (address : List ℕ) → length address ≡ 6 → Readable address → address_allowed address ≡ true
unfolding address_allowed
is_readable address six (full g) = rw (is_good_lem address g)
is_readable address six (short s) = rw (is_short_lem address six s) (or-true (is_good address))

-- A writable item has at most 38 bytes.
writable-few : (identifier : ℕ) (item : Item) → item_of identifier ≡ Some item → item.writable ≡ true → item.length ≤ 38
unfolding other_rows
writable-few =
    listed_rule {P = λ identifier item. item.writable ≡ true → item.length ≤ 38}
    (record { of_readings = λ identifier direction rate rates row rows w b e. absurd (false≢true e); of_rows = rows })
  where
    rows : InRows (λ identifier item. item.writable ≡ true → item.length ≤ 38) other_rows
    rows = (λ e. omega arith, (λ e. omega arith, (λ e. omega arith, (λ e. omega arith, (λ e. omega arith, (λ e. omega arith, (λ e. omega arith, (λ e. omega arith, (λ e. omega arith, tt)))))))))

module _ (address : List ℕ) (identifier level : ℕ) (value : List ℕ) (count : ℕ) where
  -- The value of an allowed write has at most 38 bytes.
  pub written-few : AllowedWrite address identifier level value count → count ≤ 38
  written-few w = omega (arith, writable-few identifier w.item w.listed w.writable, w.data_length)

  -- A request is allowed exactly where every condition of its action holds.
  allowed_hold : (action : Action)
      → (is_admitted (admission action address identifier level value count) ≡ true) ↔ AllHold (conditions_of action address identifier level value count)
  unfolding admission
  allowed_hold action = (
    all_hold (conditions_of action address identifier level value count),
    λ h. ap is_admitted (all_pass Err (Ok tt) (conditions_of action address identifier level value count) h),
  )

  -- An allowed write, whatever lengths its parts have.
  pub admitted_write : is_admitted (admission WriteData address identifier level value count) ≡ true → AllowedWrite address identifier level value count
  unfolding conditions_of value_conditions
  admitted_write h =
      let held = (allowed_hold WriteData).0 h in
      let listed = listed_hold (item_of identifier) (value_conditions level value count) held.1 in
      let said = listed.2 in
      let content = (content-allowed listed.0 (take count value)).0 (content-holds (content_of listed.0 (take count value)) said.1.1.1.1) in
      record {
        address = good address held.0;
        item = listed.0;
        listed = listed.1;
        writable = said.0;
        level = leb-true _ _ said.1.0;
        data_length = eqb-true _ _ said.1.1.1.0;
        decimal = content.2;
        range = content.3;
      }

  -- The lengths are those that the types say.
  module _ (six : length address ≡ 6) (all : length value ≡ 38) where
    from-test : (action : Action) → is_admitted (admission action address identifier level value count) ≡ true
        → AllowedInWords action address identifier level value count
    unfolding conditions_of
    from-test ReadData h =
        let held = (allowed_hold ReadData).0 h in
        let listed = listed_hold (item_of identifier) (λ item. []) held.1 in
        record { address = readable address six held.0; item = listed.0; listed = listed.1 }
    from-test ReadAddress h = tt
    from-test WriteData h = admitted_write h

    to_test : (action : Action) → AllowedInWords action address identifier level value count
        → is_admitted (admission action address identifier level value count) ≡ true
    unfolding conditions_of value_conditions content_checks
    to_test ReadData w = (allowed_hold ReadData).1 (is_readable address six w.address, rw w.listed tt)
    to_test ReadAddress w = (allowed_hold ReadAddress).1 tt
    to_test WriteData w =
        let few : count ≤ length value = omega (arith, written-few w) in
        let long : length (take count value) ≡ w.item.length = length-take-le count value few ∙ w.data_length in
        let content = (content-allowed w.item (take count value)).1 (w.writable, long, w.decimal, w.range) in
        (allowed_hold WriteData).1 (
          is_good_lem address w.address,
          rw w.listed (
            w.writable,
            (
              le-leb level 9 w.level,
              (le-leb count 38 (written-few w), (eq-eqb count w.item.length w.data_length, rw content tt)),
            ),
          ),
        )

    -- A request is allowed exactly if document 01 says so.
    pub allowed-words : (action : Action) → (is_admitted (admission action address identifier level value count) ≡ true)
        ↔ AllowedInWords action address identifier level value count
    allowed-words action = (from-test action, to_test action)
