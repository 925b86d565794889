-- Reads across the line: the reader is given exactly what the meter holds. The meter's answer is the normal reply, it is an answer to the
-- request, and its data pass the reader's checks.
use Prim.Native.Nat.{ℕ, ◌+◌, ◌≤◌}
use Rattle.reader_judgement.specs.declared.Reply.TheVariants.{Value}
use Rattle.std.specs.Prelude.{◌≡◌, Ok}
use Rattle.std.proofs.Math.Path.{refl, subst}
use Rattle.std.proofs.Common.{ap, ◌∙◌, arith, eq-eqb}
use mathlib.Core.List.{List, [], ◌++◌}
use Rattle.std.proofs.Math.Bool.{true}
use Rattle.std.proofs.Math.ListN.{length}
use Rattle.frame.specs.Frame.{data_of, frame_for}
use Rattle.laws.specs.AllLaws.{all_append}
use Rattle.laws.specs.Memory.{outcome, over, IsByte}
use Rattle.item_decimal.specs.Decimal.{Decimal}
use Rattle.item_decimal.proofs.DecimalLaws.{decimal-bytes}
use Rattle.item_command.specs.Reply.{control_code, reply_to}
use Rattle.item.specs.Table.{item_of, has_length}
use Rattle.item.proofs.TableLaws.{listed-fits}
use Rattle.energy.specs.Energies.{Rows}
use Rattle.meter.specs.Answer.{value_of, reply_data, meter_after, answered_with, delivered, answered}
use Rattle.meter_decision.specs.Decision.{checks_of}
use Rattle.meter.proofs.AnswerLaws.{Reaches, answered-normal}
use Rattle.meter.specs.Meter.{MeterSized, untouched}
use Rattle.meter.proofs.MeterLaws.{value-length, untouched-keeps}
use Rattle.meter.proofs.Ranges.{InRanges}
use Rattle.meter_decision.specs.Request.{item_asked}
use Rattle.item_identifier.specs.Identifier.{identifier_of, identifier_bytes}
use Rattle.item_command.specs.Addressee.{ReadFor, IsFor}
use Rattle.meter.specs.declared.Meter.{Meter}
use Rattle.item_command.specs.declared.Command.TheVariants as command
use Rattle.reader.specs.Allowed.{is_allowed}
use Rattle.reader.proofs.AllowedWords.{admitted-read}
use Rattle.reader.specs.Building.{sent_to, sent_data, request_frame}
use Rattle.reader_judgement.specs.Judging.{command_for, is_normal, answers_from, reply_value}
use Rattle.reader_judgement.specs.declared.Action.{Action}
use Rattle.reader_judgement.specs.declared.Action.TheVariants.{ReadData, ReadAddress, WriteData}
use Rattle.reader.specs.declared.Request.{Request}
use Rattle.meter_holding.specs.Holding.{value_for}
use Rattle.meter_holding.proofs.EnergiesWords.{readings-held}
use Rattle.exchange.specs.Exchange.{Memories, exchanged}
use Rattle.exchange.specs.ExchangeTerms.{Typed, MeantFor, IsRead, held_for, reply_frame, EnoughMemory, comes_to, ReadGives}
use Rattle.exchange.proofs.RequestFrameLaws.{request_data, replied-exchange}
use Rattle.item_identifier.proofs.IdentifierLaws.{identifier-back, identifier_are_bytes}
use Rattle.exchange.proofs.ReplyLaws.{read-answered, value-judged, address-judged, value-decimal, request-reaches}
use Rattle.exchange.specs.declared.ExchangeAnswer.TheVariants.{Judged}

module _ (request : Request) (typed : Typed request) (allowed : is_allowed request ≡ true) (m : Meter) (forward reverse : Rows) (sized : MeterSized m)
    (ranges : InRanges m forward reverse) (lent : Memories) (room : EnoughMemory lent) where
  -- The command of this action reaches the table's checks.
  reaches : (action : Action) → request.action ≡ action → MeantFor request m
      → Reaches (request_frame request) m forward reverse lent.reply (command_for action)
  reaches action e for-meter =
      subst (λ (a : Action). Reaches (request_frame request) m forward reverse lent.reply (command_for a)) e
      (request-reaches request typed allowed m forward reverse sized ranges lent.reply room.reply for-meter)

  -- The data that the meter reads off the frame of this action.
  request_data_of : (action : Action) → request.action ≡ action → data_of (request_frame request) ≡ sent_data action request
  request_data_of action e = request_data request typed allowed ∙ ap (λ (a : Action). sent_data a request) e

  -- What a meter holds for a read of data, and the data of its reply.
  abbrev held : List ℕ
  held = value_of (item_of request.identifier) m forward reverse

  abbrev replied : List ℕ
  replied = identifier_bytes request.identifier ++ held

  -- The meter answers a read of data by 91 with the identifier and the value.
  data_answer : request.action ≡ ReadData → MeantFor request m → answered (request_frame request) m forward reverse lent.reply
      ≡ outcome (answered_with (untouched m) (Ok (12 + length replied))) (over (frame_for m.address 0x91 replied) lent.reply)
  unfolding delivered reply_to control_code reply_data meter_after sent_data identifier_bytes item_asked checks_of
  data_answer e for-meter =
      let w = admitted-read request typed.sized allowed e in
      let asked : data_of (request_frame request) ≡ identifier_bytes request.identifier = request_data_of ReadData e in
      let named : identifier_of (identifier_bytes request.identifier) ≡ request.identifier =
      identifier-back request.identifier [] typed.identifier in
      answered-normal (request_frame request) m forward reverse lent.reply command.ReadData (reaches ReadData e for-meter)
      (rw asked, (rw (asked, named, w.listed), tt))
      ∙ rw (asked, named, (untouched-keeps m).address)

  -- The reader judges that reply to be the value.
  data_outcome : request.action ≡ ReadData → MeantFor request m
      → exchanged request m forward reverse lent
      ≡ comes_to request (untouched m) (Judged (Ok (Value (length held)))) (frame_for m.address 0x91 replied) held lent
  unfolding is_normal reply_to control_code reply_value identifier_bytes
  data_outcome e for-meter =
      let w = admitted-read request typed.sized allowed e in
      let long = value-length request.identifier w.item w.listed m sized forward reverse in
      let size : has_length (item_of request.identifier) (length held) ≡ true = rw w.listed (eq-eqb _ _ long) in
      let few : 4 + length held ≤ 200 = rw w.listed (omega (arith, listed-fits request.identifier w.item w.listed)) in
      let decimal : Decimal held = rw w.listed (value-decimal w.item m forward reverse ranges) in
      let for : ReadFor request.address m.address =
      subst (λ (a : Action). IsFor (command_for a) (sent_to a request.address) m.address) e for-meter in
      replied-exchange request typed allowed m forward reverse ranges lent room (untouched m) m.address 0x91 replied sized.address
      (omega arith)
      (all_append IsByte (identifier_bytes request.identifier) held (identifier_are_bytes request.identifier) (decimal-bytes held decimal))
      (data_answer e for-meter)
      (rw e)
      (rw e (read-answered request.address m.address typed.sized.address sized.address ranges.address for))
      (Ok (Value (length held)))
      held
      (rw e (value-judged request.identifier m.address held size decimal))
      (rw e)

  -- The meter answers a read of its address by 93 with it, and the reader judges that reply to be the address.
  address-answer : request.action ≡ ReadAddress → MeantFor request m → answered (request_frame request) m forward reverse lent.reply
      ≡ outcome (answered_with (untouched m) (Ok (12 + length m.address))) (over (frame_for m.address 0x93 m.address) lent.reply)
  unfolding delivered reply_to control_code reply_data meter_after sent_data checks_of
  address-answer e for-meter =
      answered-normal (request_frame request) m forward reverse lent.reply command.ReadAddress (reaches ReadAddress e for-meter)
      (rw (request_data_of ReadAddress e), tt)
      ∙ rw (untouched-keeps m).address

  address-outcome : request.action ≡ ReadAddress → MeantFor request m
      → exchanged request m forward reverse lent
      ≡ comes_to request (untouched m) (Judged (Ok (Value (length m.address)))) (frame_for m.address 0x93 m.address) m.address lent
  unfolding is_normal reply_to control_code answers_from reply_value
  address-outcome e for-meter =
      let own : List ℕ = m.address in
      replied-exchange request typed allowed m forward reverse ranges lent room (untouched m) own 0x93 own sized.address (omega (arith, sized.address))
      (decimal-bytes own ranges.address.decimal)
      (address-answer e for-meter)
      (rw e)
      (rw e)
      (Ok (Value (length own)))
      own
      (rw e (address-judged request.identifier own sized.address ranges.address))
      (rw e)

  -- Either read, by its action.
  outcome_by : (action : Action) → request.action ≡ action → IsRead action → MeantFor request m
      → let held = held_for action request.identifier m forward reverse in
      exchanged request m forward reverse lent
      ≡ comes_to request (untouched m) (Judged (Ok (Value (length held)))) (reply_frame action request.identifier m.address held) held lent
  outcome_by ReadData e reads for-meter = data_outcome e for-meter
  outcome_by ReadAddress e reads for-meter = address-outcome e for-meter
  outcome_by WriteData e reads for-meter = absurd reads

  pub read_gives : IsRead request.action → MeantFor request m → ReadGives request m forward reverse lent
  unfolding value_for
  read_gives reads for-meter =
      record {
        outcome = outcome_by request.action refl reads for-meter;
        kept = untouched-keeps m;
        readings =
            λ e. rw e (readings-held request.identifier m.address m.registers forward reverse ranges.forward-readings ranges.reverse-readings);
      }
