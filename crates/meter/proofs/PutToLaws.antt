-- What a frame put to a meter comes to, by the checks in words: the normal reply where every check of the row holds, and else what the
-- first failing one answers with.
use Rattle.frame.specs.declared.refusal.Refusal.{Refusal}
use Rattle.std.specs.Prelude.{ℕ, ◌≡◌, List, [], ◌∷◌, false}
use Rattle.std.proofs.Math.Path.{ap}
use Rattle.std.proofs.Common.{◌∙◌}
use Rattle.laws.specs.ChecksLaws.{AllHold}
use Rattle.laws.specs.Checks.{Check}
use Rattle.laws.specs.Words.{Words, Say}
use Rattle.laws.specs.WordsLaws.{all_every, first-answers}
use Rattle.frame.specs.Frame.{address_of, control_of, data_of}
use Rattle.frame.proofs.FrameLaws.{address-six}
use Rattle.item_command.proofs.AddresseeLaws.{for-iff}
use Rattle.item_command.specs.Command.{control_for}
use Rattle.item_command.proofs.ControlWords.{control_figure, normal_figure, normal_figure_lem, error_figure, error_figure_lem}
use Rattle.item_command.specs.Reply.{reply_to}
use Rattle.item_command.specs.declared.Command.{Command}
use Rattle.energy.specs.Energies.{Rows}
use Rattle.meter_decision.specs.Decision.{Failure, error_byte, silence, checks_of}
use Rattle.meter_decision.specs.DecisionWords.{words_of}
use Rattle.meter_decision.proofs.DecisionWordsLaws.{checks_say}
use Rattle.meter.specs.Meter.{MeterSized, untouched}
use Rattle.meter.proofs.MeterLaws.{untouched-keeps}
use Rattle.meter.specs.Answer.{Treatment, replies, failed, reply_data, meter_after, carried_out, refused, delivered, answered, value_asked}
use Rattle.meter.proofs.AnswerLaws.{data_bytes, Reaches, answered-carried, answered-normal}
use Rattle.meter.proofs.FrameTerms.{PutTo, Row, EveryCheckHolds, RowFails, RepliesWith}
use Rattle.meter.specs.declared.Meter.{Meter}

module _ (bytes : List ℕ) (m : Meter) (forward reverse : Rows) (memory : List ℕ) (sized : MeterSized m) where
  -- The checks before the table's, as tests and in words.
  pub reaches : (command : Command) → PutTo bytes m forward reverse memory command → Reaches bytes m forward reverse memory command
  reaches command w =
      record {
        ranges = w.ranges;
        room = w.room;
        one-frame = w.one-frame;
        control = (control_figure command (control_of bytes)).1 w.control;
        for-meter =
            (for-iff (address_of bytes) m.address (address-six w.one-frame) sized.address w.ranges.address.decimal command).1 w.address;
      }

  pub put_to : (command : Command) → Reaches bytes m forward reverse memory command → PutTo bytes m forward reverse memory command
  put_to command r =
      record {
        ranges = r.ranges;
        room = r.room;
        one-frame = r.one-frame;
        control = (control_figure command (control_of bytes)).0 r.control;
        address =
            (for-iff (address_of bytes) m.address (address-six r.one-frame) sized.address r.ranges.address.decimal command).0 r.for-meter;
      }

  -- The checks of the table's row, and that they say its words.
  abbrev checks : Command → List (Check Failure)
  checks command = checks_of command (data_of bytes) m.key m.passwords

  abbrev words : Command → Words Failure
  words command = words_of command (data_of bytes) m.key m.passwords

  row-says : (command : Command) → Say (checks command) (words command)
  row-says command = checks_say command (data_of bytes) m.key m.passwords (data_bytes bytes)

  pub row-holds : (command : Command) → Row bytes m forward reverse memory command → AllHold (checks command)
  row-holds command = (all_every (checks command) (words command) (row-says command)).1

  pub holds_row : (command : Command) → AllHold (checks command) → Row bytes m forward reverse memory command
  holds_row command = (all_every (checks command) (words command) (row-says command)).0

  -- Where every check holds, the normal reply.
  pub normally : (command : Command) → EveryCheckHolds bytes m forward reverse memory command
      → (own : List ℕ) → (meter_after command (data_of bytes) m).address ≡ own
      → RepliesWith bytes m forward reverse memory (meter_after command (data_of bytes) m) own (normal_figure command)
      (reply_data command (data_of bytes) m (value_asked (data_of bytes) m forward reverse))
  unfolding delivered
  normally command w own e =
      answered-normal bytes m forward reverse memory command (reaches command w.put_to) (row-holds command w.row) ∙ rw (e, normal_figure_lem command)

  -- What the first failing check answers with.
  fails : (command : Command) → PutTo bytes m forward reverse memory command → (f : Failure) → RowFails bytes m forward reverse memory command f
      → answered bytes m forward reverse memory ≡ delivered (failed command m f) m memory
  unfolding carried_out
  fails command w f h =
      answered-carried bytes m forward reverse memory command (reaches command w)
      ∙ ap (λ (t : Treatment). delivered t m memory) (first-answers (failed command m) normal (checks command) (words command) (row-says command) f h)
    where
      normal : Treatment
      normal =
          replies (reply_to (control_for command) false) (reply_data command (data_of bytes) m (value_asked (data_of bytes) m forward reverse))
          (meter_after command (data_of bytes) m)

  pub error-replied : (command : Command) → PutTo bytes m forward reverse memory command → (e : ℕ) → RowFails bytes m forward reverse memory command (error_byte e)
      → RepliesWith bytes m forward reverse memory (untouched m) m.address (error_figure command) (e ∷ [])
  unfolding delivered
  error-replied command w e h = fails command w (error_byte e) h ∙ rw ((untouched-keeps m).address, error_figure_lem command)

  pub kept-silent : (command : Command) → PutTo bytes m forward reverse memory command → (n : Refusal) → RowFails bytes m forward reverse memory command (silence n)
      → answered bytes m forward reverse memory ≡ refused n m memory
  unfolding delivered
  kept-silent command w n h = fails command w (silence n) h
