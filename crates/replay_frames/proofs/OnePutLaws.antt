-- One frame put to a meter, from the answer and the reply that are left: silence leaves the memory as it was, and a reply's line can be written.
use Rattle.frame.specs.declared.refusal.Refusal.{Refusal}
use Rattle.std.specs.Prelude.{ℕ, ◌*◌, ◌≤◌, ◌≡◌, take, Err, Ok, Result}
use Rattle.listing.specs.declared.ListError.{ListError}
use Rattle.std.proofs.Math.Path.{ap, sym}
use Rattle.std.proofs.Common.{◌∙◌, arith}
use mathlib.Core.List.{List, append-nil}
use Rattle.std.proofs.Math.ListN.{length}
use borrow.Author.Tests.{le-leb}
use Rattle.laws.specs.Memory.{Outcome, outcome, over}
use Rattle.frame.specs.Frame.{Frame, most_frame}
use Rattle.frame.proofs.RecognitionLaws.{frame-one, frame-least}
use Rattle.energy.specs.Energies.{Rows}
use Rattle.listing.specs.Text.{text_of, listing}
use Rattle.listing.specs.Lines.{lines_of}
use Rattle.meter.specs.Meter.{MeterSized}
use Rattle.meter.specs.declared.Answered.{Answered}
use Rattle.meter.specs.declared.Meter.{Meter}
use Rattle.replay_frames.specs.Putting.{put, one_put}
use Rattle.replay_frames.proofs.PuttingLaws.{RepliedWith, replied-with, line-most}

module _ (bytes : List ℕ) (m : Meter) (forward reverse : Rows) {answer : Answered} {reply : List ℕ}
    (answers : outcome answer reply ≡ put bytes m forward reverse) (memory : List ℕ) where
  -- Silence is no text and no line, and leaves the memory as it was.
  pub one-silent : {n : Refusal} → answer.answer ≡ Err n
      → outcome (record { meter = answer.meter; text = 0; lines = 0 }) memory ≡ one_put bytes m forward reverse memory
  unfolding one_put lines_of
  one-silent silent = rw (← answers, silent)

  module _ (sized : MeterSized m) {n : ℕ} (replied : answer.answer ≡ Ok n) where
    -- A reply: the frame is one, and so is the reply.
    one-with : RepliedWith bytes m forward reverse sized n
    one-with = replied-with bytes m forward reverse sized (ap (λ (o : Outcome Answered). o.answer.answer) (sym answers) ∙ replied)

    -- The reply lies within 212 bytes.
    pub one-within : n ≤ most_frame
    one-within = one-with.most

    -- Its line can be written: the answer is the line's length, and the line stands over the front of the memory.
    pub one-listed : 35 * length bytes ≤ length memory
        → listing (take n reply) memory ≡ outcome (Ok (length (text_of (take n reply)))) (over (text_of (take n reply)) memory)
    unfolding listing
    one-listed room =
        let whole : Frame (take n reply) = rw (← answers) at one-with.reply in
        let fits : length (text_of (take n reply)) ≤ length memory = omega (arith, line-most whole, frame-least one-with.asked) in
        rw (frame-one (take n reply) whole, le-leb _ _ fits)

    -- Written, it is what one frame comes to.
    pub one-replied : {listed : Result ℕ ListError} {left : List ℕ} {text : ℕ}
        → outcome listed left ≡ outcome (Ok (length (text_of (take n reply)))) (over (text_of (take n reply)) memory) → listed ≡ Ok text
        → outcome (record { meter = answer.meter; text = text; lines = 1 }) left ≡ one_put bytes m forward reverse memory
    unfolding one_put lines_of
    one-replied {listed} {left} {text} written told =
        let said : Ok text ≡ Ok (length (text_of (take n reply))) = sym told ∙ ap (λ (o : Outcome (Result ℕ ListError)). o.answer) written in
        let size : text ≡ length (text_of (take n reply)) = cc in
        rw (size, ap (λ (o : Outcome (Result ℕ ListError)). o.memory) written, ← answers, replied, append-nil (text_of (take n reply)))
