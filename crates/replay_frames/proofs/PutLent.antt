-- Whatever memory is lent for its reply, a frame is answered alike.
use Rattle.std.specs.Prelude.{ℕ, ◌+◌, ◌≤◌, ◌≡◌, refl, Bool, true, false, List, length, take, drop, replicate, leb}
use Rattle.frame.specs.declared.refusal.Refusal.TheVariants.{NotOneFrame, OutOfRange, ShortMemory}
use Rattle.std.proofs.lemmas.Bool.{false≢true}
use Rattle.std.proofs.Common.{take_at, le-leb}
use Rattle.laws.specs.Memory.{Outcome, over}
use Rattle.laws.specs.Test.{pick}
use Rattle.frame.specs.Frame.{frame_for, most_frame}
use Rattle.frame.proofs.FrameLaws.{frame-for-length}
use Rattle.frame.specs.Recognition.{exactly_one}
use Rattle.energy.specs.Energies.{Rows}
use Rattle.meter.specs.Meter.{MeterSized, within_ranges}
use Rattle.meter.specs.Answer.{Treatment, silent, replies, treated, refused, delivered, answered}
use Rattle.meter.specs.declared.Answered.{Answered}
use Rattle.meter.specs.declared.Meter.{Meter}
use Rattle.replay_frames.specs.Putting.{reply_in, put, reply_to}
use Rattle.replay_frames.proofs.PuttingLaws.{answered-sized}

-- Two outcomes with the same answer, the same meter and the same reply.
abbrev Alike : Outcome Answered → Outcome Answered → Type 0
Alike o p = (o.answer ≡ p.answer) × (reply_in o.answer.answer o.memory ≡ reply_in p.answer.answer p.memory)

-- What a frame comes to is delivered alike to any memory: a reply from a meter of a six-byte address is as long as it says.
delivered-alike : (t : Treatment) (m : Meter) (memory lent : List ℕ) → MeterSized (delivered t m memory).answer.meter
    → Alike (delivered t m memory) (delivered t m lent)
unfolding delivered
delivered-alike (silent n) m memory lent sized = (refl, refl)
delivered-alike (replies control payload after) m memory lent sized =
    let f : List ℕ = frame_for after.address control payload in
    let long : length f ≡ 12 + length payload = frame-for-length after.address control payload sized.address in
    let front : (lent : List ℕ) → take (12 + length payload) (over f lent) ≡ f = λ lent. take_at f (drop (length f) lent) (12 + length payload) long in
    (refl, rw (front memory, front lent))

-- Whatever memory of at least 212 bytes is lent, the answer, the meter and the reply are the same.
pub put-lent : (bytes : List ℕ) (m : Meter) (forward reverse : Rows) → MeterSized m → (memory : List ℕ) → 212 ≤ length memory
    → let o = answered bytes m forward reverse memory in
    (o.answer ≡ (put bytes m forward reverse).answer) × (reply_in o.answer.answer o.memory ≡ reply_to bytes m forward reverse)
unfolding put answered
put-lent bytes m forward reverse sized memory room =
    go (within_ranges m forward reverse) (leb most_frame (length memory)) (exactly_one bytes) (le-leb _ _ room)
    (answered-sized bytes m forward reverse sized memory)
  where
    -- the outcome, by what its three tests gave
    by : Bool → Bool → Bool → List ℕ → Outcome Answered
    by ranges enough one memory =
        pick ranges
        (pick enough
        (pick one (delivered (treated bytes m forward reverse) m memory) (refused NotOneFrame m memory))
        (refused ShortMemory m memory))
        (refused OutOfRange m memory)

    go : (ranges enough one : Bool) → enough ≡ true → MeterSized (by ranges enough one memory).answer.meter
        → Alike (by ranges enough one memory) (by ranges true one (replicate most_frame 0))
    go false enough one e s = (refl, refl)
    go true false one e s = absurd (false≢true e)
    go true true false e s = (refl, refl)
    go true true true e s = delivered-alike (treated bytes m forward reverse) m memory (replicate most_frame 0) s
