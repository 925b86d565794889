-- The ways that an answer to a frame comes about.
use Rattle.frame.specs.declared.refusal.Refusal.{Refusal}
use Rattle.frame.specs.Refusals.{number_of}
use Rattle.std.specs.Prelude.{ℕ, ◌≤◌, ◌<◌, ◌≡◌, List, [], ◌∷◌, map, true, false, length, leb, Err, Ok, Option}
use Rattle.frame.specs.declared.refusal.Refusal.TheVariants.{NotForThisMeter, NotOneFrame, OutOfRange, ShortMemory}
use Rattle.std.proofs.Math.Path.{refl, ap}
use Rattle.std.proofs.Common.{sym, ◌∙◌, true≢false, arith}
use borrow.Author.Tests.{leb-true, le-leb}
use Rattle.laws.specs.Memory.{Outcome, Bytes}
use Rattle.frame.specs.Frame.{Frame, address_of, control_of, field_of, data_of, unmasked}
use Rattle.frame.proofs.FrameLaws.{control-back}
use Rattle.frame.specs.Recognition.{exactly_one}
use Rattle.frame.proofs.RecognitionLaws.{one-frame, frame-one}
use Rattle.laws.specs.ChecksLaws.{AllHold, all_pass, pass_or_fail}
use Rattle.item_command.specs.Reply.{reply_to}
use Rattle.laws.specs.TestLaws.{pick_cases}
use Rattle.energy.specs.Energies.{Rows}
use Rattle.meter.specs.Meter.{untouched, within_ranges}
use Rattle.meter.proofs.Ranges.{InRanges, within-ranges}
use Rattle.item_command.specs.Command.{control_for}
use Rattle.item_command.specs.Addressee.{addressed}
use Rattle.meter.specs.Answer.{Treatment, silent, replies, failed, reply_data, meter_after, carried_out, for_meter, treated, refused, delivered, answered, value_asked}
use Rattle.meter_decision.specs.Decision.{Failure, error_byte, silence, checks_of}
use Rattle.meter_decision.proofs.DecisionLaws.{fails_silently, FailsAs, checks-fail}
use Rattle.item_command.proofs.CommandLaws.{command-known, asks, Asks, known, unknown, same-control}
use Rattle.meter.specs.declared.Meter.{Meter}
use Rattle.meter.specs.declared.Answered.{Answered}
use Rattle.item_command.specs.declared.Command.{Command}

-- The data of a frame are bytes.
pub data_bytes : (bytes : List ℕ) → Bytes (data_of bytes)
unfolding data_of unmasked
data_bytes bytes = go (field_of bytes)
  where
    go : (field : List ℕ) → Bytes (map unmasked field)
    go [] = tt
    go (b ∷ field) = (omega arith, go field)

module _ (bytes : List ℕ) (m : Meter) (forward reverse : Rows) where
  -- What a frame comes to: it is not for this meter, or its command is carried out.
  pub treated_cases : (P : Treatment → Type 0) → P (silent NotForThisMeter)
      → ((command : Command) → control_of bytes ≡ control_for command → addressed command (address_of bytes) m.address ≡ true
      → P (carried_out command (data_of bytes) m (value_asked (data_of bytes) m forward reverse)))
      → P (treated bytes m forward reverse)
  unfolding treated
  treated_cases P none some = go (asks (control_of bytes))
    where
      go : {asked : Option Command} → Asks (control_of bytes) asked → P (for_meter asked bytes m forward reverse)
      go (known command e) =
          pick_cases P (addressed command (address_of bytes) m.address) (some command e) (λ _. none)
      go unknown = none

  module _ (memory : List ℕ) where
    -- A frame within the ranges, with room for a reply, is answered by what it comes to.
    pub answered-treated : InRanges m forward reverse → 212 ≤ length memory → Frame bytes
        → answered bytes m forward reverse memory ≡ delivered (treated bytes m forward reverse) m memory
    unfolding answered
    answered-treated ranges room frame =
        rw ((within-ranges m forward reverse).1 ranges, le-leb 212 (length memory) room, frame-one bytes frame)

    -- The checks before those of the table hold of a frame with this command.
    pub record Reaches (command : Command) : Type 0 where
      pub ranges : InRanges m forward reverse
      pub room : 212 ≤ length memory
      pub one-frame : Frame bytes
      pub control : control_of bytes ≡ control_for command
      pub for-meter : addressed command (address_of bytes) m.address ≡ true

    -- The normal reply to a command.
    abbrev pub normal : Command → Outcome Answered
    normal command =
        delivered
        (replies (reply_to (control_for command) false) (reply_data command (data_of bytes) m (value_asked (data_of bytes) m forward reverse)) (meter_after command (data_of bytes) m))
        m memory

    -- A frame that reaches the table's checks is answered by what its command comes to.
    pub answered-carried : (command : Command) → Reaches command
        → answered bytes m forward reverse memory
        ≡ delivered (carried_out command (data_of bytes) m (value_asked (data_of bytes) m forward reverse)) m memory
    unfolding treated
    answered-carried command w =
        answered-treated w.ranges w.room w.one-frame ∙ rw (w.control, command-known command, w.for-meter)

    pub answered-normal : (command : Command) → Reaches command → AllHold (checks_of command (data_of bytes) m.key m.passwords)
        → answered bytes m forward reverse memory ≡ normal command
    unfolding carried_out
    answered-normal command w h =
        answered-carried command w
        ∙ ap (λ (t : Treatment). delivered t m memory) (all_pass (failed command m) _ (checks_of command (data_of bytes) m.key m.passwords) h)

    -- The ways that an answer comes about: a refusal, an error reply, or the normal reply where every check holds.
    pub data Answers : Type 0 where
      refuses : (n : Refusal) → (InRanges m forward reverse → number_of n < 16) → answered bytes m forward reverse memory ≡ refused n m memory → Answers
      errs : (command : Command) (e : ℕ) → Reaches command → fails_silently command ≡ false
          → answered bytes m forward reverse memory ≡ delivered (replies (reply_to (control_for command) true) (e ∷ []) (untouched m)) m memory → Answers
      carries : (command : Command) → Reaches command → AllHold (checks_of command (data_of bytes) m.key m.passwords)
          → answered bytes m forward reverse memory ≡ normal command → Answers

    pub answers : Answers
    unfolding answered delivered carried_out
    answers =
        pick_cases P (within_ranges m forward reverse)
        (λ r. pick_cases P (leb 212 (length memory))
        (λ l. pick_cases P (exactly_one bytes)
        (λ o. treated_cases (λ t. P (delivered t m memory)) (refuses NotForThisMeter (λ _. omega arith))
        (λ command control for-meter. carried command
        (record {
          ranges = (within-ranges m forward reverse).0 r;
          room = leb-true _ _ l;
          one-frame = one-frame bytes o;
          control = control;
          for-meter = for-meter;
        })))
        (λ _. refuses NotOneFrame (λ _. omega arith)))
        (λ _. refuses ShortMemory (λ _. omega arith)))
        (λ r. refuses OutOfRange (λ h. absurd (true≢false (sym ((within-ranges m forward reverse).1 h) ∙ r))))
        refl
      where
        P : Outcome Answered → Type 0
        P o = answered bytes m forward reverse memory ≡ o → Answers

        carried : (command : Command) → Reaches command → P (delivered (carried_out command (data_of bytes) m (value_asked (data_of bytes) m forward reverse)) m memory)
        carried command w =
            pass_or_fail (failed command m) _ (λ t. P (delivered t m memory)) (FailsAs command) (checks_of command (data_of bytes) m.key m.passwords)
            (checks-fail command (data_of bytes) m.key m.passwords) (carries command w) fail
          where
            fail : (f : Failure) → FailsAs command f → P (delivered (failed command m f) m memory)
            fail (error_byte e) h = errs command e w h
            fail (silence n) h = refuses n (λ _. omega (arith, ap number_of h.1))

-- A refusal is no reply.
pub not-replied : {n : ℕ} {k : Refusal} → Err k ≡ Ok n → ⊥
not-replied e = let z : ◌≡◌ {A = ℕ} 0 1 = cc in omega arith

-- The control code of a reply.
pub reply-control : (bytes : List ℕ) (m : Meter) (forward reverse : Rows) (memory : List ℕ) (control : ℕ) (payload : List ℕ) (after : Meter)
    → length after.address ≡ 6 → answered bytes m forward reverse memory ≡ delivered (replies control payload after) m memory
    → control_of (answered bytes m forward reverse memory).memory ≡ control
unfolding delivered
reply-control bytes m forward reverse memory control payload after six e = rw e (control-back after.address control payload _ six)

-- The command is that of the control code.
pub reaches-one : {bytes : List ℕ} {m : Meter} {forward reverse : Rows} {memory : List ℕ} {command : Command}
    → Reaches bytes m forward reverse memory command → (another : Command) → control_of bytes ≡ control_for another → command ≡ another
reaches-one {command} w another e = same-control command another (sym w.control ∙ e)
