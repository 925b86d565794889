-- Laws of a meter's replies: a request meant for a meter reaches its checks, a reply from its address is an answer to a read, and what it
-- holds within its ranges passes the reader's checks.
use Prim.Native.Nat.{ℕ, ◌≤◌}
use Rattle.reader_judgement.specs.declared.Reply.TheVariants.{Value}
use Rattle.std.specs.Prelude.{◌≡◌, true, false, length, drop, eqb, Ok}
use Rattle.std.proofs.Common.{◌∙◌, arith, le-leb, eq-eqb}
use mathlib.Core.List.{List, ◌++◌, append-nil}
use Rattle.std.proofs.Math.Bool.{and-eq-true_iff}
use Rattle.std.proofs.Math.ListN.{take}
use Rattle.item_range.specs.Range.{within}
use Rattle.item_address.specs.Address.{Good, low_bytes, has_short_form, is_short, short_matches, ShortFor}
use Rattle.item_address.proofs.AddressLaws.{is_good_lem, low_count, for-short}
use Rattle.laws.specs.Checks.{first_failing}
use Rattle.item_decimal.specs.Decimal.{Decimal}
use Rattle.item_decimal.proofs.DecimalLaws.{decimal-all, decimal-take, decimal-drop}
use Rattle.item_command.specs.Reply.{control_code, reply_to}
use Rattle.item_same.specs.Same.{same}
use Rattle.item_same.specs.SameLaws.{same-equal, same_refl}
use Rattle.item.specs.Table.{item_of, has_length}
use Rattle.item.specs.declared.table.Item.{Item}
use Rattle.energy.specs.Energies.{Rows}
use Rattle.energy.proofs.ColumnsLaws.{columns-decimal}
use Rattle.meter.proofs.AnswerLaws.{Reaches}
use Rattle.meter.specs.Meter.{MeterSized, value_held}
use Rattle.meter_holding.specs.Holding as holding
use Rattle.meter_holding.specs.Holding.{location_of, held_at}
use Rattle.meter.proofs.Ranges.{InRanges}
use Rattle.meter_holding.proofs.RangesWords.{direction_in_range}
use Rattle.item_command.specs.Addressee.{ReadFor, exact, short}
use Rattle.item_command.proofs.AddresseeLaws.{for-iff}
use Rattle.meter.specs.declared.Meter.{Meter}
use Rattle.meter_holding.specs.declared.location.Location.{Location}
use Rattle.meter_holding.specs.declared.location.Location.TheVariants.{Readings, OwnAddress, Register}
use Rattle.reader.specs.Allowed.{is_allowed}
use Rattle.reader.specs.Building.{sent_to, request_frame}
use Rattle.item_identifier.specs.Identifier.{identifier_bytes}
use Rattle.reader_judgement.specs.Judging.{command_for, is_error, answers_from, normal_checks, reply_value, data_judgement}
use Rattle.reader_judgement.specs.declared.Action.TheVariants.{ReadData, ReadAddress}
use Rattle.reader.specs.declared.Request.{Request}
use Rattle.exchange.specs.ExchangeTerms.{Typed, MeantFor}
use Rattle.exchange.proofs.RequestFrameLaws.{address-six, request-frame, request-address, request-control}

-- An address and the address of a meter: both of six bytes, and the meter's good.
module _ (address own : List ℕ) (six : length address ≡ 6) (own-six : length own ≡ 6) (own-good : Good own) where
  -- A short address for it matches.
  matches : ShortFor address own → short_matches address own ≡ true
  matches = for-short address own six own-six own-good.decimal

  -- The meter's address has no wildcard byte, so that it is not short.
  own-not-short : is_short own ≡ false
  unfolding is_short has_short_form within
  own-not-short =
      let all : low_bytes own ≡ 6 = rw append-nil at (low_count own 0 own-good.decimal) ∙ own-six in
      rw all

  -- The low bytes of a short address for it are its own, so that they are decimal.
  for-own-short : ShortFor address own → is_short address ≡ true
  unfolding is_short short_matches
  for-own-short s =
      let k : ℕ = low_bytes address in
      let both = (and-eq-true_iff (has_short_form address) (same (take k address) (take k own))).0 (matches s) in
      let low : take k address ≡ take k own = same-equal _ _ both.1 in
      rw (both.0, low) (decimal-all (take k own) (decimal-take k own own-good.decimal))

  -- A reply from the meter's address answers a read that is for this meter.
  pub read-answered : ReadFor address own → answers_from ReadData address own ≡ true
  unfolding answers_from
  read-answered (exact e) = rw (e, own-not-short) (same_refl own)
  read-answered (short s) = rw (for-own-short s, is_good_lem own own-good) (matches s)

-- What the reader makes of the data of a normal reply: the value of a 91 that has the item's length and is decimal, and of a 93 the address.
pub value-judged : (identifier : ℕ) (from value : List ℕ) → has_length (item_of identifier) (length value) ≡ true → Decimal value
    → data_judgement ReadData identifier 0x91 from (identifier_bytes identifier ++ value) ≡ Ok (Value (length value))
unfolding data_judgement is_error reply_to control_code first_failing normal_checks reply_value identifier_bytes
value-judged identifier from value long decimal =
    let four : 4 ≤ length (identifier_bytes identifier ++ value) = omega arith in
    rw (le-leb 4 _ four, same_refl (identifier_bytes identifier), long, decimal-all value decimal)

pub address-judged : (identifier : ℕ) (own : List ℕ) → length own ≡ 6 → Good own → data_judgement ReadAddress identifier 0x93 own own ≡ Ok (Value (length own))
unfolding data_judgement is_error first_failing normal_checks reply_value
address-judged identifier own six own-good =
    rw (eq-eqb (length own) 6 six, decimal-all own own-good.decimal, same_refl own, is_good_lem own own-good)

-- What a meter within its ranges holds for an item is decimal.
pub value-decimal : (item : Item) (m : Meter) (forward reverse : Rows) → InRanges m forward reverse → Decimal (value_held item m forward reverse)
unfolding holding.value_held held_at
value-decimal item m forward reverse ranges = go (location_of item.kind)
  where
    go : (location : Location) → Decimal (held_at location item.length m.address m.registers forward reverse)
    go (Readings direction rate rates row rows) = columns-decimal _ rate rates row rows (direction_in_range ranges (eqb direction 0))
    go OwnAddress = ranges.address.decimal
    go (Register at) = decimal-take item.length (drop at m.registers) (decimal-drop at m.registers ranges.registers)

-- The checks before those of the table hold of a request that is meant for this meter.
pub request-reaches : (request : Request) → Typed request → is_allowed request ≡ true → (m : Meter) (forward reverse : Rows) → MeterSized m
    → InRanges m forward reverse → (memory : List ℕ) → 212 ≤ length memory → MeantFor request m
    → Reaches (request_frame request) m forward reverse memory (command_for request.action)
request-reaches request typed allowed m forward reverse sized ranges memory room for-meter =
    record {
      ranges = ranges;
      room = room;
      one-frame = request-frame request typed allowed;
      control = request-control request typed allowed;
      for-meter =
          rw (request-address request typed allowed)
          ((for-iff (sent_to request.action request.address) m.address (address-six request typed allowed) sized.address
          ranges.address.decimal (command_for request.action)).1 for-meter);
    }
