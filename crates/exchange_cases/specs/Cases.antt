-- Document 01, "Frames to prove": cases A to I as one table.
use Rattle.std.specs.Prelude.{ℕ, true, take, replicate, Ok, Result}
use Rattle.frame.specs.declared.refusal.Refusal.{Refusal}
use Rattle.reader_judgement.specs.declared.Reply.{Reply}
use Rattle.reader_judgement.specs.declared.Reply.TheVariants.{Error, Value}
use mathlib.Core.List.{List, [], ◌∷◌, ◌++◌, map}
use Rattle.frame.specs.CaseFrames.{one, case_a, case_b, case_c, case_d, case_e, case_i}
use Rattle.energy.specs.Reading.{zero_reading, reading_of}
use Rattle.energy.specs.Energies.{Rows}
use Rattle.line_terms.specs.Line.{Symbol, byte, silence}
use Rattle.line_terms.specs.Places.{Found}
use Rattle.meter.specs.Meter.{with_key, with_registers, fresh_meter}
use Rattle.meter.specs.declared.Meter.{Meter}
use Rattle.reader.specs.Building.{wake_up}
use Rattle.reader_judgement.specs.declared.Action.{Action}
use Rattle.reader_judgement.specs.declared.Action.TheVariants.{ReadData, ReadAddress, WriteData}
use Rattle.reader.specs.declared.Request.{Request}

-- A row of the table.
pub data Case : Type 0 where
  -- A line, the frames that are taken and certain in it, with their places, and the bytes that are its rest.
  line : List Symbol → List Found → List ℕ → Case
  -- A line with its frames and rest, symbols that come behind it, and the frames and the rest of the line with them.
  goes_on : List Symbol → List Found → List ℕ → List Symbol → List Found → List ℕ → Case
  -- A request, and the bytes that the reader sends.
  request : Request → List ℕ → Case
  -- A frame put to a meter with these forward readings: the reply, and the meter afterwards.
  answer : List ℕ → Meter → Rows → List ℕ → Meter → Case
  -- A request and a reply to it: what the reader makes of it, and the value given.
  judgement : Request → List ℕ → Result Reply Refusal → List ℕ → Case

-- A frame at a place.
abbrev pub at : ℕ → List ℕ → Found
at place frame = record { place = place; frame = frame }

-- A request to the meter 000000000001, with level 04, zero password and operator code, and a value of one byte.
abbrev pub asks : Action → ℕ → ℕ → Request
asks action identifier value =
    record {
      action = action;
      address = one;
      identifier = identifier;
      level = 4;
      password = replicate 3 0;
      operator = replicate 4 0;
      value = value ∷ replicate 37 0;
      count = 1;
    }

-- The current forward total; the address; the demand period to 30.
abbrev pub read_total : Request
read_total = asks ReadData 0x00010000 0

abbrev pub read_address : Request
read_address = asks ReadAddress 0 0

abbrev pub write_period : Request
write_period = asks WriteData 0x04000103 0x30

-- The meter 000000000001, fresh and with the key on; a forward total of 123456.78 kWh.
abbrev pub meter : Meter
meter = fresh_meter one

abbrev pub key_on : Meter
key_on = with_key true meter

abbrev pub total12345678 : Rows
total12345678 = (reading_of 12345678 ∷ replicate 4 zero_reading) ∷ replicate 12 (replicate 5 zero_reading)

-- That meter with the period at 30.
abbrev pub period_set : Meter
period_set =
    with_registers
    (0x06 ∷ 0x01 ∷ 0x01 ∷ 0x00 ∷ 0x00 ∷ 0x00 ∷ 0x00 ∷ 0x30 ∷ 0x01 ∷ 0x00 ∷ 0x00 ∷ 0x00 ∷ 0x00 ∷ 0x00 ∷ 0x00 ∷ 0x00 ∷ 0x01 ∷ 0x99 ∷ 0x99 ∷ 0x99
    ∷ 0x99 ∷ [])
    key_on

-- The reply to C, to E with the key on, and the error 04.
abbrev pub address_reply : List ℕ
address_reply =
    0x68 ∷ 0x01 ∷ 0x00 ∷ 0x00 ∷ 0x00 ∷ 0x00 ∷ 0x00 ∷ 0x68 ∷ 0x93 ∷ 0x06 ∷ 0x34 ∷ 0x33 ∷ 0x33 ∷ 0x33 ∷ 0x33 ∷ 0x33 ∷ 0x9D ∷ 0x16 ∷ []

abbrev pub write_reply : List ℕ
write_reply = 0x68 ∷ 0x01 ∷ 0x00 ∷ 0x00 ∷ 0x00 ∷ 0x00 ∷ 0x00 ∷ 0x68 ∷ 0x94 ∷ 0x00 ∷ 0x65 ∷ 0x16 ∷ []

abbrev pub error_reply : List ℕ
error_reply = 0x68 ∷ 0x01 ∷ 0x00 ∷ 0x00 ∷ 0x00 ∷ 0x00 ∷ 0x00 ∷ 0x68 ∷ 0xD4 ∷ 0x01 ∷ 0x37 ∷ 0xDD ∷ 0x16 ∷ []

-- A read of 02 01 01 00, which is not listed.
abbrev pub unknown_read : List ℕ
unknown_read = 0x68 ∷ 0x01 ∷ 0x00 ∷ 0x00 ∷ 0x00 ∷ 0x00 ∷ 0x00 ∷ 0x68 ∷ 0x11 ∷ 0x04 ∷ 0x33 ∷ 0x34 ∷ 0x34 ∷ 0x35 ∷ 0xB6 ∷ 0x16 ∷ []

-- The table.
unfoldable pub table : List Case
table =
    -- A: the request for the current forward total; on the line its frame alone, and behind wake-up bytes.
    request read_total (wake_up ++ case_a)
    ∷ line (map byte case_a) (at 0 case_a ∷ []) []
    ∷ line (map byte (wake_up ++ case_a)) (at 4 case_a ∷ []) []
    -- B: the reply for 123456.78.
    ∷ answer case_a meter total12345678 case_b meter
    ∷ judgement read_total case_b (Ok (Value 4)) (0x78 ∷ 0x56 ∷ 0x34 ∷ 0x12 ∷ [])
    -- C: the request for the address, and the reply.
    ∷ request read_address (wake_up ++ case_c)
    ∷ answer case_c meter total12345678 address_reply meter
    ∷ judgement read_address address_reply (Ok (Value 6)) one
    -- D: unknown identifier.
    ∷ answer unknown_read meter total12345678 case_d meter
    ∷ judgement read_total case_d (Ok (Error 0x02)) []
    -- E: period to 30, level 04, zero password and operator; with the key on, the reply; with the key off, error 04.
    ∷ request write_period (wake_up ++ case_e)
    ∷ answer case_e key_on total12345678 write_reply period_set
    ∷ judgement write_period write_reply (Ok (Value 0)) []
    ∷ answer case_e meter total12345678 error_reply meter
    ∷ judgement write_period error_reply (Ok (Error 0x04)) []
    -- F: a lone 68 and then A: A is taken, at place 1.
    ∷ line (map byte (0x68 ∷ case_a)) (at 1 case_a ∷ []) []
    -- G: A with a silence before its last byte: none, neither at the silence nor with the last byte, 16, behind it.
    ∷ goes_on (map byte (take 15 case_a) ++ (silence ∷ [])) [] [] (byte 0x16 ∷ []) [] []
    -- H: A without its last byte: none yet; with that byte, 16, behind it A is taken, at place 0.
    ∷ goes_on (map byte (take 15 case_a)) [] (take 15 case_a) (byte 0x16 ∷ []) (at 0 case_a ∷ []) []
    -- I: A with checksum B4, then A: the second only.
    ∷ line (map byte (case_i ++ case_a)) (at 16 case_a ∷ []) []
    ∷ []
