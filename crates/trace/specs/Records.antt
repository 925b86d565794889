-- A record in words: which fields are within their ranges, and its bytes. Records written one behind the other, and a trace read record by record
-- from the left.
use Rattle.std.specs.Prelude.{ℕ, ◌≤◌, ◌<◌, ◌≡◌, List, [], ◌∷◌, ◌++◌, Bool, true, false, drop}
use Rattle.trace.specs.Front.{found_record}
use Rattle.laws.specs.Memory.{IsByte}
use Rattle.item_identifier.specs.Identifier.{identifier_bytes}
use Rattle.trace.specs.Trace.{front_of}
use Rattle.trace.specs.declared.TraceRecord.{TraceRecord}
use Rattle.trace.specs.declared.TraceRecord.TheVariants.{Byte, Silence, Pulse, Key, Settle}

-- Every field is within its range: a received byte, a direction 0 or 1, a rate 1 to 4, an amount of 32 bits.
abbrev pub FieldsRight : TraceRecord → Type 0
FieldsRight (Byte b) = IsByte b
FieldsRight Silence = Unit
FieldsRight (Pulse direction rate amount) = (direction ≤ 1) × (1 ≤ rate) × (rate ≤ 4) × (amount < 4294967296)
FieldsRight (Key on) = Unit
FieldsRight Settle = Unit

-- The key byte: 0 or 1.
abbrev pub key_byte : Bool → ℕ
key_byte true = 1
key_byte false = 0

-- The bytes of a record: its kind byte, then its body.
unfoldable pub record_bytes : TraceRecord → List ℕ
record_bytes (Byte b) = 0x01 ∷ b ∷ []
record_bytes Silence = 0x02 ∷ []
record_bytes (Pulse direction rate amount) = 0x03 ∷ direction ∷ rate ∷ identifier_bytes amount
record_bytes (Key on) = 0x04 ∷ key_byte on ∷ []
record_bytes Settle = 0x05 ∷ []

-- Records written one behind the other.
unfoldable pub written : List TraceRecord → List ℕ
written [] = []
written (r ∷ rs) = record_bytes r ++ written rs

-- A trace read record by record from the left: these good records, and then this rest.
pub data ReadsAs : List ℕ → List TraceRecord → List ℕ → Type 0 where
  none : {rest : List ℕ} → ReadsAs rest [] rest
  next : {trace rest : List ℕ} {r : TraceRecord} {rs : List TraceRecord} {n : ℕ} → front_of trace ≡ found_record r n → ReadsAs (drop n trace) rs rest →
      ReadsAs trace (r ∷ rs) rest
