-- Any bytes put to a meter come to what document 01 says, in words.
use Rattle.std.specs.Prelude.{ℕ, ◌≡◌, List, true, length, leb}
use Rattle.std.proofs.Common.{arith, leb-true, le-leb}
use Rattle.laws.specs.TestLaws.{not_true}
use Rattle.frame.specs.Frame.{control_of}
use Rattle.frame.specs.Recognition.{exactly_one}
use Rattle.frame.proofs.RecognitionLaws.{one-frame}
use Rattle.item_command.proofs.ControlWords.{control_figure}
use Rattle.item_command.specs.declared.Command.TheVariants.{ReadData, ReadAddress}
use Rattle.energy.specs.Energies.{Rows}
use Rattle.meter_holding.specs.Holding.{value_for}
use Rattle.meter_decision.specs.Request.{item_asked}
use Rattle.meter.specs.Meter.{MeterSized, within_ranges}
use Rattle.meter.proofs.MeterLaws.{untouched-keeps}
use Rattle.meter.proofs.Ranges.{InRanges, within-ranges}
use Rattle.meter.specs.Answer.{reply_data, meter_after, answered}
use Rattle.meter.proofs.FrameTerms.{FrameIsRight}
use Rattle.meter.proofs.PutToLaws.{normally, error-replied, kept-silent}
use Rattle.meter.proofs.Silence.{foreign-silent}
use Rattle.meter.proofs.Writes.{accepted_write}
use Rattle.meter.proofs.Changes.{accepted-address, accepted-password, not-accepted}
use Rattle.meter.specs.declared.Meter.{Meter}

pub frame_is_right : (bytes : List ℕ) (m : Meter) (forward reverse : Rows) (memory : List ℕ) → MeterSized m → FrameIsRight bytes m forward reverse memory
unfolding answered reply_data meter_after value_for item_asked
frame_is_right bytes m forward reverse memory sized =
    record {
      out_of_range_lem = λ out. rw (not_true (within_ranges m forward reverse) (λ h. out ((within-ranges m forward reverse).0 h)));
      short-memory = λ ranges few. rw (within ranges, not_true (leb 212 (length memory)) (λ h. omega (arith, leb-true 212 (length memory) h)));
      no_frame =
          λ ranges room none. rw (within ranges, le-leb 212 (length memory) room, not_true (exactly_one bytes) (λ h. none (one-frame bytes h)));
      foreign =
          λ ranges room frame none. foreign-silent bytes m forward reverse memory sized ranges room frame
          (λ command control for-meter. none command ((control_figure command (control_of bytes)).0 control) for-meter);
      untouched-kept = untouched-keeps m;
      error = error-replied bytes m forward reverse memory sized;
      silent = kept-silent bytes m forward reverse memory sized;
      read = λ w. normally bytes m forward reverse memory sized ReadData w m.address (untouched-keeps m).address;
      read-address = λ w. normally bytes m forward reverse memory sized ReadAddress w m.address (untouched-keeps m).address;
      value_set = accepted_write bytes m forward reverse memory sized;
      address-set = accepted-address bytes m forward reverse memory sized;
      password-set = accepted-password bytes m forward reverse memory sized;
      not-accepted = not-accepted bytes m forward reverse memory sized;
    }
  where
    within : InRanges m forward reverse → within_ranges m forward reverse ≡ true
    within = (within-ranges m forward reverse).1
