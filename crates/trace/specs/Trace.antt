-- Document 02, W1: "The head will store a trace: a kind byte, then its body."
use Rattle.std.specs.Prelude.{ℕ, List, [], ◌∷◌, length, get_or, drop, leb, eqb, Err, None, Ok, Option, Result}
use Rattle.frame.specs.declared.refusal.Refusal.{Refusal}
use Rattle.frame.specs.declared.refusal.Refusal.TheVariants.{BadRecord, CutOff}
use Rattle.trace.specs.Front.{found_record}
use Rattle.trace.specs.declared.RecordFound.{RecordFound}
use Rattle.laws.specs.Test.{pick}
use Rattle.item_identifier.specs.Identifier.{identifier_of}
use Rattle.trace.specs.declared.TraceRecord.TheVariants.{Byte, Silence, Pulse, Key, Settle}

-- How many bytes a record of a kind has, its kind byte among them. 01: one received byte. 02: silence, no body. 03: a pulse, as direction, rate,
-- and four amount bytes. 04: key, one byte. 05: settle, no body. 0 for a byte that is no kind.
unfoldable pub record_length : ℕ → ℕ
record_length kind =
    pick (eqb kind 0x01) 2
    (pick (eqb kind 0x02) 1
    (pick (eqb kind 0x03) 7
    (pick (eqb kind 0x04) 2
    (pick (eqb kind 0x05) 1 0))))

-- The amount: four bytes low first, as the four of a data identifier are.
abbrev pub amount_of : List ℕ → ℕ
amount_of bytes = identifier_of bytes

-- A pulse: 9 for a direction not 0 or 1 or a rate not 1 to 4.
unfoldable pub pulse_of : ℕ → ℕ → ℕ → Result (Option RecordFound) Refusal
pulse_of direction rate amount =
    pick (leb direction 1) (pick (leb 1 rate) (pick (leb rate 4) (found_record (Pulse direction rate amount) 7) (Err BadRecord)) (Err BadRecord))
    (Err BadRecord)

-- The key: 9 for a byte above 1.
unfoldable pub key_of : ℕ → Result (Option RecordFound) Refusal
key_of on = pick (leb on 1) (found_record (Key (eqb on 1)) 2) (Err BadRecord)

-- A whole record of a known kind: the record, or 9 for a field out of its range.
unfoldable pub whole_record : ℕ → List ℕ → Result (Option RecordFound) Refusal
whole_record kind body =
    pick (eqb kind 0x01) (found_record (Byte (get_or body 0 0)) 2)
    (pick (eqb kind 0x02) (found_record Silence 1)
    (pick (eqb kind 0x03) (pulse_of (get_or body 0 0) (get_or body 1 0) (amount_of (drop 2 body)))
    (pick (eqb kind 0x04) (key_of (get_or body 0 0))
    (found_record Settle 1))))

-- What stands at the front of the rest of a trace: the end; 9 for an unknown kind, then 10 for a trace ending inside the record, then 9 for a
-- field out of its range; else the record and its length.
unfoldable pub front_of : List ℕ → Result (Option RecordFound) Refusal
front_of [] = Ok None
front_of (kind ∷ body) =
    pick (eqb (record_length kind) 0) (Err BadRecord)
    (pick (leb (record_length kind) (length (kind ∷ body))) (whole_record kind body) (Err CutOff))
