-- The steps of an exchange: the request's frame taken apart, an exchange that goes over the line, and a reply that is judged.
use Prim.Native.Nat.{ℕ, ◌+◌, ◌≤◌}
use Rattle.frame.specs.declared.refusal.Refusal.{Refusal}
use Rattle.reader_judgement.specs.declared.Reply.{Reply}
use Rattle.std.specs.Prelude.{◌≡◌, true, ◌||◌, Err, Ok, Result}
use Rattle.std.proofs.Math.Path.{refl}
use Rattle.std.proofs.Common.{◌∙◌, arith}
use mathlib.Core.List.{List, [], ◌∷◌, ◌++◌, append-nil}
use Rattle.std.proofs.Math.ListN.{length, take}
use Rattle.std.proofs.Math.Seq.{take_at}
use borrow.Author.Tests.{le-leb}
use Rattle.frame.specs.Frame.{Frame, address_of, control_of, data_of, frame_for}
use Rattle.laws.specs.AllLaws.{all_append}
use Rattle.laws.specs.Memory.{IsByte, Bytes, outcome, over}
use Rattle.frame.proofs.FrameLaws.{frame-for, frame-for-length, address-back, control-back, data_back}
use Rattle.frame.proofs.RecognitionLaws.{frame-one}
use Rattle.laws.specs.Checks.{first_failing}
use Rattle.item_decimal.proofs.DecimalLaws.{decimal-bytes}
use Rattle.energy.specs.Energies.{Rows}
use Rattle.meter.specs.Answer.{answered, answered_with}
use Rattle.meter.proofs.Ranges.{InRanges, within-ranges}
use Rattle.item_command.specs.Command.{control_for}
use Rattle.item_identifier.specs.Identifier.{identifier_bytes}
use Rattle.item_identifier.proofs.IdentifierLaws.{identifier_are_bytes}
use Rattle.meter.specs.declared.Meter.{Meter}
use Rattle.reader.specs.Allowed.{request_value, is_allowed}
use Rattle.reader.proofs.AllowedWords.{admitted_write}
use Rattle.reader.proofs.BuildingLaws.{sent-six}
use Rattle.reader.specs.Building.{sent_to, sent_data, request_frame}
use Rattle.reader_judgement.specs.Judging.{command_for, is_normal, is_error, answers_from, reply_value, data_judgement}
use Rattle.reader.specs.Judging.{is_answer, call_checks, frame_checks, judgement_of, written, judged}
use Rattle.reader.proofs.JudgingLaws.{allowed-judged}
use Rattle.reader_judgement.specs.declared.Action.{Action}
use Rattle.reader_judgement.specs.declared.Action.TheVariants.{ReadData, ReadAddress, WriteData}
use Rattle.reader.specs.declared.Request.{Request}
use Rattle.exchange.specs.Exchange.{Memories, concluded, carried, exchanged}
use Rattle.exchange.proofs.ExchangeLaws.{sent-frame, memory-enough}
use Rattle.exchange.specs.ExchangeTerms.{Typed, EnoughMemory, comes_to}
use Rattle.exchange.specs.declared.ExchangeAnswer.TheVariants.{Silent, Judged}

-- A written frame with nothing behind it, taken apart.
module _ (address : List ℕ) (control : ℕ) (payload : List ℕ) (six : length address ≡ 6) where
  frame-address : address_of (frame_for address control payload) ≡ address
  frame-address = rw append-nil at (address-back address control payload [] six)

  frame-control : control_of (frame_for address control payload) ≡ control
  frame-control = rw append-nil at (control-back address control payload [] six)

  frame_data : Bytes payload → data_of (frame_for address control payload) ≡ payload
  frame_data bytes = rw append-nil at (data_back address control payload [] six bytes)

-- A request's frame, and what a meter reads off it.
module _ (request : Request) (typed : Typed request) (allowed : is_allowed request ≡ true) where
  pub data_are_bytes : Bytes (sent_data request.action request)
  unfolding sent_data
  data_are_bytes = go request.action refl
    where
      go : (action : Action) → request.action ≡ action → Bytes (sent_data action request)
      go ReadData e = identifier_are_bytes request.identifier
      go ReadAddress e = tt
      go WriteData e =
          let w = admitted_write request allowed e in
          let value : List ℕ = request_value request in
          let coded : List ℕ = request.operator ++ value in
          let rest : List ℕ = request.level ∷ (request.password ++ coded) in
          let coded-bytes : Bytes coded = all_append IsByte request.operator value typed.operator (decimal-bytes value w.decimal) in
          let rest-bytes : Bytes rest = (omega (arith, w.level), all_append IsByte request.password coded typed.password coded-bytes) in
          all_append IsByte (identifier_bytes request.identifier) rest (identifier_are_bytes request.identifier) rest-bytes

  -- The address field has six bytes.
  pub address-six : length (sent_to request.action request.address) ≡ 6
  address-six = sent-six request.action request.address typed.sized.address

  pub request-frame : Frame (request_frame request)
  request-frame = sent-frame request typed.sized allowed

  pub request-address : address_of (request_frame request) ≡ sent_to request.action request.address
  unfolding request_frame
  request-address = frame-address _ _ _ address-six

  pub request-control : control_of (request_frame request) ≡ control_for (command_for request.action)
  unfolding request_frame
  request-control = frame-control _ _ _ address-six

  pub request_data : data_of (request_frame request) ≡ sent_data request.action request
  unfolding request_frame
  request_data = frame_data _ _ _ address-six data_are_bytes

  -- An exchange with a meter within its ranges goes over the line.
  module _ (m : Meter) (forward reverse : Rows) (ranges : InRanges m forward reverse) (lent : Memories) (room : EnoughMemory lent) where
    goes_over : exchanged request m forward reverse lent ≡ carried request m forward reverse lent
    unfolding exchanged
    goes_over = rw ((within-ranges m forward reverse).1 ranges, memory-enough lent room, allowed)

    -- Where the meter gives no reply.
    pub silent-exchange : (n : Refusal) → answered (request_frame request) m forward reverse lent.reply ≡ outcome (answered_with m (Err n)) lent.reply
        → exchanged request m forward reverse lent ≡ comes_to request m (Silent n) [] [] lent
    unfolding carried concluded
    silent-exchange n e = goes_over ∙ rw e

    -- Where it replies with a frame from an address, the reader judges by control, address and data, if they are an answer to the request.
    pub replied-exchange : (after : Meter) (from : List ℕ) (control : ℕ) (payload : List ℕ) → length from ≡ 6 → length payload ≤ 200 → Bytes payload
        → answered (request_frame request) m forward reverse lent.reply
        ≡ outcome (answered_with after (Ok (12 + length payload))) (over (frame_for from control payload) lent.reply)
        → (is_normal request.action control || is_error request.action control) ≡ true
        → answers_from request.action request.address from ≡ true
        → (judgement : Result Reply Refusal) (value : List ℕ) → data_judgement request.action request.identifier control from payload ≡ judgement
        → written judgement (reply_value request.action payload) lent.value ≡ over value lent.value
        → exchanged request m forward reverse lent ≡ comes_to request after (Judged judgement) (frame_for from control payload) value lent
    unfolding carried concluded judged judgement_of call_checks frame_checks first_failing is_answer
    replied-exchange after from control payload six few bytes answer answers from-there judgement value says writes =
        let reply : List ℕ = frame_for from control payload in
        let long : length reply ≡ 12 + length payload = frame-for-length from control payload six in
        let front : take (12 + length payload) (over reply lent.reply) ≡ reply = take_at reply _ _ long in
        let content : data_of reply ≡ payload = frame_data from control payload six bytes in
        let judged : judgement_of request reply lent.value ≡ judgement =
        rw (
          le-leb 196 _ room.value,
          allowed-judged request allowed,
          frame-one reply (frame-for from control payload six few),
          frame-control from control payload six,
          frame-address from control payload six,
          answers,
          from-there,
          content,
        )
        says in
        goes_over ∙ rw (answer, front, judged, content, writes, long)
