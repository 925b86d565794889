-- Writes across the line: the value and the operator code are set exactly when every check holds. What a meter reads off an allowed request is
-- what the request says, so that of the meter's checks only key, level and password are open; either reply is one that the reader takes.
use Rattle.std.specs.Prelude.{ℕ, ◌+◌, ◌/◌, ◌%◌, ◌≤◌, ◌≡◌, true, length, Ok, Some}
use Rattle.reader_judgement.specs.declared.Reply.TheVariants.{Error, Value}
use Rattle.std.proofs.Math.Path.{refl, ap}
use Rattle.std.proofs.Common.{sym, subst, ◌∙◌, length-take-le}
use mathlib.Core.List.{List, [], ◌∷◌}
use native.Mathlib.Omega.{arith}
use Rattle.frame.specs.Frame.{address_of, control_of, data_of, frame_for}
use Rattle.laws.specs.Checks.{first_failing}
use Rattle.item_command.specs.Reply.{control_code, reply_to}
use Rattle.item_same.specs.SameLaws.{equal-same}
use Rattle.item.specs.Table.{item_of}
use Rattle.energy.specs.Energies.{Rows}
use Rattle.meter.specs.Meter.{MeterSized, untouched}
use Rattle.meter.proofs.MeterLaws.{untouched-keeps}
use Rattle.meter.proofs.Ranges.{InRanges}
use Rattle.meter_decision.specs.Request.{level_of, password_of, operator_of, written_value}
use Rattle.item_identifier.specs.Identifier.{identifier_of, identifier_bytes}
use Rattle.item_command.specs.Command.{control_for}
use Rattle.meter_decision.specs.Decision.{authorised}
use Rattle.meter.proofs.FrameTerms.{PutTo, EveryCheckHolds, ValueSet, RepliesWith}
use Rattle.meter.proofs.PutToLaws.{error-replied}
use Rattle.meter.proofs.Writes.{accepted_write}
use Rattle.meter_decision.proofs.RequestWords.{WriteParts, write_parts}
use Rattle.meter_decision.specs.DecisionWords.{RightPassword}
use Rattle.meter_decision.proofs.DecisionWordsLaws.{unauthorised_fails}
use Rattle.meter_decision.proofs.DecisionLaws.{row_write}
use Rattle.meter.specs.declared.Meter.{Meter}
use Rattle.item_command.specs.declared.Command.TheVariants as command
use Rattle.reader.specs.Allowed.{request_value, is_allowed}
use Rattle.reader.proofs.AllowedWords.{AllowedWrite, written-few, admitted_write}
use Rattle.reader.proofs.BuildingLaws.{write_length}
use Rattle.reader.specs.Building.{sent_to, sent_data, request_frame}
use Rattle.reader_judgement.specs.Judging.{command_for, is_normal, is_error, answers_from, error_checks, normal_checks, reply_value, data_judgement}
use Rattle.reader_judgement.specs.declared.Action.{Action}
use Rattle.reader_judgement.specs.declared.Action.TheVariants.{WriteData}
use Rattle.reader.specs.declared.Request.{Request}
use Rattle.exchange.specs.Exchange.{Memories, exchanged}
use Rattle.exchange.specs.ExchangeTerms.{Typed, MeantFor, reply_frame, EnoughMemory, comes_to, Authorised, WriteSets, WriteFails}
use Rattle.exchange.proofs.RequestFrameLaws.{request-frame, request-address, request-control, request_data, replied-exchange}
use Rattle.item_identifier.proofs.IdentifierLaws.{identifier-back}
use Rattle.exchange.specs.declared.ExchangeAnswer.TheVariants.{Judged}

-- What a meter reads off the data of a write is what the request says.
record ReadsOff (request : Request) (payload : List ℕ) : Type 0 where
  size : length payload ≡ 12 + request.count
  identifier : identifier_of payload ≡ request.identifier
  level : level_of payload ≡ request.level
  password : password_of payload ≡ request.password
  operator : operator_of payload ≡ request.operator
  value : written_value payload ≡ request_value request
  count : length (request_value request) ≡ request.count

reads_off : (request : Request) → Typed request → request.count ≤ 38 → ReadsOff request (sent_data WriteData request)
unfolding sent_data identifier_bytes
reads_off request typed few =
    record {
      size = write_length request typed.sized.password typed.sized.operator (omega (arith, typed.sized.value));
      identifier = identifier-back request.identifier _ typed.identifier;
      level = parts.level-read;
      password = parts.password-read;
      operator = parts.operator-read;
      value = parts.value_read;
      count = length-take-le request.count request.value (omega (arith, typed.sized.value));
    }
  where
    identifier : ℕ
    identifier = request.identifier

    parts : WriteParts (sent_data WriteData request) (identifier % 256) (identifier / 256 % 256) (identifier / 65536 % 256) (identifier / 16777216 % 256)
        request.level request.password request.operator (request_value request)
    parts = write_parts _ _ _ _ request.level request.password typed.sized.password request.operator (request_value request) typed.sized.operator

module _ (request : Request) (typed : Typed request) (allowed : is_allowed request ≡ true) (m : Meter) (forward reverse : Rows) (sized : MeterSized m)
    (ranges : InRanges m forward reverse) (lent : Memories) (room : EnoughMemory lent) where
  -- A write that is meant for this meter, whether authorised or not.
  module _ (writes : request.action ≡ WriteData) (for-meter : MeantFor request m) where
    -- It is an allowed write, its value has at most 38 bytes, and its address is the meter's.
    admitted : AllowedWrite request
    admitted = admitted_write request allowed writes

    few : request.count ≤ 38
    few = written-few request admitted

    own : request.address ≡ m.address
    own = rw writes at for-meter

    -- Its frame: what the meter reads off it, the meter's own address, the control code of a write, and a listed item.
    frame-reads : ReadsOff request (data_of (request_frame request))
    frame-reads =
        subst (λ (sent : List ℕ). ReadsOff request sent)
        (sym (request_data request typed allowed ∙ ap (λ (action : Action). sent_data action request) writes))
        (reads_off request typed few)

    frame-address : address_of (request_frame request) ≡ m.address
    frame-address = request-address request typed allowed ∙ ap (λ (action : Action). sent_to action request.address) writes ∙ own

    frame-control : control_of (request_frame request) ≡ 0x14
    frame-control = request-control request typed allowed ∙ ap (λ (action : Action). control_for (command_for action)) writes

    frame-listed : item_of (identifier_of (data_of (request_frame request))) ≡ Some admitted.item
    frame-listed = rw frame-reads.identifier admitted.listed

    -- The reader takes a reply from the meter's address.
    from-own : answers_from request.action request.address m.address ≡ true
    unfolding answers_from
    from-own = rw writes (equal-same m.address request.address (sym own))

    -- Its frame is put to the meter, and the lengths of its data and its item are right.
    frame-put : PutTo (request_frame request) m forward reverse lent.reply command.WriteData
    frame-put =
        record {
          ranges = ranges;
          room = room.reply;
          one-frame = request-frame request typed allowed;
          control = frame-control;
          address = frame-address;
        }

    frame-lengths : (12 ≤ length (data_of (request_frame request))) × (length (data_of (request_frame request)) ≤ 50)
    frame-lengths = (omega (arith, frame-reads.size), omega (arith, frame-reads.size, few))

    -- An authorised write meets every check of the meter.
    every_check : Authorised request m → EveryCheckHolds (request_frame request) m forward reverse lent.reply command.WriteData
    every_check authorised =
        record {
          put_to = frame-put;
          row =
              row_write (data_of (request_frame request)) m.key m.passwords
              (record {
                least = frame-lengths.0;
                most = frame-lengths.1;
                item = admitted.item;
                listed = frame-listed;
                writable = admitted.writable;
                key_on_lem = authorised.key_on_lem;
                level = rw frame-reads.level authorised.level;
                password = rw (frame-reads.level, frame-reads.password) authorised.password;
                data_length = rw frame-reads.value (frame-reads.count ∙ admitted.data_length);
                decimal = rw frame-reads.value admitted.decimal;
                range = rw frame-reads.value admitted.range;
              });
        }

    -- Any other is answered by error byte 04.
    answered_04 : (Authorised request m → ⊥) → RepliesWith (request_frame request) m forward reverse lent.reply (untouched m) m.address 0xD4 (0x04 ∷ [])
    answered_04 unauthorised =
        error-replied (request_frame request) m forward reverse lent.reply sized command.WriteData frame-put 0x04
        (unauthorised_fails (data_of (request_frame request)) m.key m.passwords frame-lengths (admitted.item, frame-listed) admitted.writable missing)
      where
        missing : m.key ≡ true → RightPassword 4 (data_of (request_frame request)) m.passwords → ⊥
        missing on right =
            unauthorised
            (record {
              key_on_lem = on;
              level = rw frame-reads.level at right.0;
              password = rw (frame-reads.level, frame-reads.password) at right.1;
            })

  pub write_sets : request.action ≡ WriteData → MeantFor request m → Authorised request m → WriteSets request m forward reverse lent
  unfolding is_normal is_error reply_to control_code data_judgement first_failing normal_checks reply_value
  write_sets writes for-meter authorised =
      record {
        after = done.after;
        outcome =
            replied-exchange request typed allowed m forward reverse ranges lent room done.after m.address 0x94 [] sized.address (omega arith) tt
            done.answer (rw writes) (from-own writes for-meter) (Ok (Value 0)) [] (rw writes) (rw writes)
            ∙ ap (λ (action : Action). comes_to request done.after (Judged (Ok (Value 0))) (reply_frame action request.identifier m.address []) [] lent)
            (sym writes);
        item = checks.row.1.0.0;
        listed = rw reads.identifier at checks.row.1.0.1;
        held = done.held ∙ reads.value;
        operator = done.operator ∙ reads.operator;
        others = rw reads.identifier at done.others;
        address = done.address;
        key = done.key;
        passwords = done.passwords;
        ranges = done.ranges;
      }
    where
      reads : ReadsOff request (data_of (request_frame request))
      reads = frame-reads writes for-meter

      checks : EveryCheckHolds (request_frame request) m forward reverse lent.reply command.WriteData
      checks = every_check writes for-meter authorised

      done : ValueSet (request_frame request) m forward reverse lent.reply checks.row.1.0.0
      done = accepted_write (request_frame request) m forward reverse lent.reply sized checks

  -- A write that is not authorised is answered by error byte 04, and everything that the meter holds is as it was.
  pub write_fails : request.action ≡ WriteData → MeantFor request m → (Authorised request m → ⊥) → exchanged request m forward reverse lent
      ≡ comes_to request (untouched m) (Judged (Ok (Error 0x04))) (frame_for m.address 0xD4 (0x04 ∷ [])) [] lent
  unfolding is_normal is_error reply_to control_code data_judgement first_failing error_checks
  write_fails writes for-meter unauthorised =
      replied-exchange request typed allowed m forward reverse ranges lent room (untouched m) m.address 0xD4 (0x04 ∷ []) sized.address (omega arith)
      (omega arith, tt) (answered_04 writes for-meter unauthorised) (rw writes) (from-own writes for-meter) (Ok (Error 0x04)) [] (rw writes) refl

  pub write_failed : request.action ≡ WriteData → MeantFor request m → (Authorised request m → ⊥) → WriteFails request m forward reverse lent 0x04
  write_failed writes for-meter unauthorised = record { outcome = write_fails writes for-meter unauthorised; kept = untouched-keeps m }
