-- Demand 2 of the letter: the meter answers as document 01 says, from either end, and a read gives exactly what the meter holds.
use Rattle.std.specs.Prelude.{ℕ, ◌≡◌, List, true}
use Rattle.energy.specs.Energies.{Rows}
use Rattle.line.specs.Receiver.{fresh}
use Rattle.line.proofs.Demand3.{ReceiverCall, Calls}
use Rattle.meter.specs.Meter.{MeterSized}
use Rattle.meter.proofs.FrameTerms.{FrameIsRight}
use Rattle.meter.proofs.FrameRight.{frame_is_right}
use Rattle.meter.proofs.FreshMeter.{FreshIsRight, fresh_is_right}
use Rattle.meter.proofs.HostWords.{HostIsRight, host_is_right}
use Rattle.meter_counting.proofs.CountingWords.{Sized}
use Rattle.meter.proofs.Ranges.{InRanges}
use Rattle.meter.specs.declared.Meter.{Meter}
use Rattle.reader.specs.Allowed.{RequestSized, is_allowed}
use Rattle.reader.proofs.BuildWords.{BuildIsRight, build-words}
use Rattle.reader.proofs.JudgeWords.{Judges}
use Rattle.reader.proofs.JudgeWordsLaws.{judge-words}
use Rattle.reader.proofs.AllowedWords.{AllowedInWords, allowed-words}
use Rattle.reader.specs.Building.{request_frame, request_bytes}
use Rattle.reader_judgement.specs.declared.Action.TheVariants.{WriteData}
use Rattle.reader.specs.declared.Request.{Request}
use Rattle.exchange.specs.Exchange.{Memories}
use Rattle.exchange.proofs.Hearing.{Brings, DeliveredLast, delivered-last}
use Rattle.exchange.specs.ExchangeTerms.{Typed, MeantFor, IsRead, EnoughMemory, ReadGives, Authorised, WriteSets, WriteFails, GetsSilence}
use Rattle.exchange.proofs.Said.{ExchangeRefuses, exchange-refuses}
use Rattle.exchange.proofs.RequestFrameLaws.{request-frame}
use Rattle.exchange.proofs.ReadsAcross.{read_gives}
use Rattle.exchange.proofs.WritesAcross.{write_sets, write_failed}
use Rattle.exchange.proofs.Foreign.{gets_silence}

-- What holds of an exchange of a request with a meter.
pub record ExchangeIsRight (request : Request) (m : Meter) (forward reverse : Rows) (lent : Memories) : Type 0 where
  -- A fresh receiver delivers exactly one frame, with the request's last byte and not before, whatever at least 212 bytes each call is lent.
  pub heard : (calls : List ReceiverCall) → Brings (request_bytes request) calls → Calls fresh calls → DeliveredLast (request_frame request) calls
  -- A read meant for this meter gives what it holds.
  pub read : IsRead request.action → MeantFor request m → ReadGives request m forward reverse lent
  -- A write meant for this meter sets the value and the operator code exactly when every check holds.
  pub written : request.action ≡ WriteData → MeantFor request m → Authorised request m → WriteSets request m forward reverse lent
  pub not_written : request.action ≡ WriteData → MeantFor request m → (Authorised request m → ⊥) → WriteFails request m forward reverse lent 0x04
  -- A request to another address gets silence.
  pub foreign : (MeantFor request m → ⊥) → GetsSilence request m forward reverse lent

-- End to end: for every allowed request, every meter within document 01's ranges and every lent memory of the asked sizes.
exchange_is_right : (request : Request) → Typed request → AllowedInWords request.action request → (m : Meter) (forward reverse : Rows) → MeterSized m
    → InRanges m forward reverse → (lent : Memories) → EnoughMemory lent → ExchangeIsRight request m forward reverse lent
unfolding request_bytes
exchange_is_right request typed words m forward reverse sized ranges lent room =
    let allowed : is_allowed request ≡ true = (allowed-words request typed.sized).1 words in
    record {
      heard = λ calls brings called. delivered-last (request_frame request) (request-frame request typed allowed) calls brings called;
      read = read_gives request typed allowed m forward reverse sized ranges lent room;
      written = write_sets request typed allowed m forward reverse sized ranges lent room;
      not_written = write_failed request typed allowed m forward reverse sized ranges lent room;
      foreign = gets_silence request typed allowed m forward reverse sized ranges lent room;
    }

-- What the letter asks in its second demand.
pub record AnswersAsAsked : Type 0 where
  -- Both ends and the line together.
  pub exchange : (request : Request) → Typed request → AllowedInWords request.action request → (m : Meter) (forward reverse : Rows) → MeterSized m
      → InRanges m forward reverse → (lent : Memories) → EnoughMemory lent → ExchangeIsRight request m forward reverse lent
  -- What is refused before anything is sent.
  pub not-sent : (request : Request) (m : Meter) (forward reverse : Rows) (lent : Memories) → RequestSized request
      → ExchangeRefuses request m forward reverse lent
  -- The meter's end, of any bytes: a write sets the one register that it names, and the operator code beside it, exactly when every listed check
  -- holds; otherwise nothing moves; foreign frames get silence; and so on through document 01's table.
  pub frame : (bytes : List ℕ) (m : Meter) (forward reverse : Rows) (memory : List ℕ) → MeterSized m → FrameIsRight bytes m forward reverse memory
  -- A fresh meter holds what document 01 lists, and the host's calls do what it says.
  pub fresh : (address : List ℕ) → FreshIsRight address
  pub host : (m : Meter) (forward reverse : Rows) → Sized forward → Sized reverse → HostIsRight m forward reverse
  -- The reader's end: the bytes of a request, and what is made of any bytes that come back.
  pub build : (request : Request) (m : List ℕ) → RequestSized request → BuildIsRight request m
  pub reply : (request : Request) (bytes m : List ℕ) → RequestSized request → Judges request bytes m

-- Demand 2.
pub demand_2 : AnswersAsAsked
demand_2 =
    record {
      exchange = exchange_is_right;
      not-sent = exchange-refuses;
      frame = frame_is_right;
      fresh = fresh_is_right;
      host = host_is_right;
      build = build-words;
      reply = judge-words;
    }
