-- Requests to another address get silence: the control code of a request asks for the one command of its action, and that is not for this meter.
use Rattle.frame.specs.declared.refusal.Refusal.TheVariants.{NotForThisMeter}
use Rattle.std.specs.Prelude.{◌≡◌, true}
use Rattle.std.proofs.Common.{sym, ◌∙◌}
use Rattle.energy.specs.Energies.{Rows}
use Rattle.meter.specs.Meter.{MeterSized}
use Rattle.meter.proofs.Ranges.{InRanges}
use Rattle.item_command.proofs.CommandLaws.{same-control}
use Rattle.meter.proofs.Silence.{Foreign, foreign-silent}
use Rattle.meter.specs.declared.Meter.{Meter}
use Rattle.reader.specs.Allowed.{is_allowed}
use Rattle.reader.specs.Building.{request_frame}
use Rattle.reader.specs.declared.Request.{Request}
use Rattle.reader_judgement.specs.Judging.{command_for}
use Rattle.exchange.specs.Exchange.{Memories}
use Rattle.exchange.specs.ExchangeTerms.{Typed, MeantFor, EnoughMemory, GetsSilence}
use Rattle.exchange.proofs.RequestFrameLaws.{request-frame, request-address, request-control, silent-exchange}

module _ (request : Request) (typed : Typed request) (allowed : is_allowed request ≡ true) (m : Meter) (forward reverse : Rows) (sized : MeterSized m)
    (ranges : InRanges m forward reverse) (lent : Memories) (room : EnoughMemory lent) where
  -- The frame of a request that is not meant for this meter is foreign to it.
  frame-foreign : (MeantFor request m → ⊥) → Foreign (request_frame request) m
  frame-foreign foreign command control for-meter =
      let one : command ≡ command_for request.action =
      same-control command (command_for request.action) (sym control ∙ request-control request typed allowed) in
      foreign (rw (one, request-address request typed allowed) at for-meter)

  pub gets_silence : (MeantFor request m → ⊥) → GetsSilence request m forward reverse lent
  gets_silence foreign =
      silent-exchange request typed allowed m forward reverse ranges lent room NotForThisMeter
      (foreign-silent (request_frame request) m forward reverse lent.reply sized ranges room.reply (request-frame request typed allowed)
      (frame-foreign foreign))
