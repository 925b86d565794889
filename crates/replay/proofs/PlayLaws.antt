-- Laws of playing a record: what the receiver delivers has at most 212 bytes, so that 8,192 bytes hold the lines of the replies; and what it delivers, put
-- to the meter, is what the symbol comes to.
use Rattle.frame.specs.declared.refusal.Refusal.{Refusal}
use Rattle.std.specs.Prelude.{ℕ, ◌+◌, ◌*◌, ◌≤◌, ◌≡◌, refl, Bool, true, false, ◌&&◌, List, [], ◌∷◌, ◌++◌, map, length, take, Err}
use Rattle.line.specs.Answer.{handed}
use Rattle.replay_frames.specs.PutAnswer.{lines_put}
use Rattle.std.proofs.Common.{arith, ◌∙◌, length-take}
use Rattle.std.proofs.Math.Path.{ap}
use Rattle.std.proofs.lemmas.Bool.{false≢true}
use Rattle.std.proofs.Math.Seq.{take-append_seam}
use borrow.Author.Tests.{le-leb}
use Rattle.laws.specs.Memory.{Outcome, outcome, over}
use Rattle.laws.specs.MemoryLaws.{over-length}
use Rattle.frame.specs.EndToEnd.{cut}
use Rattle.line_verdict.specs.VerdictOnLaws.{within-most}
use Rattle.line_terms.specs.Line.{Symbol, byte, silence}
use Rattle.line_terms.specs.Places.{joined, frames_of}
use Rattle.line_terms.proofs.FramesFew.{bytes_in, frames-few}
use Rattle.line_terms.proofs.FoundFrames.{cut-joined}
use Rattle.line.specs.Receiver.{kept_bytes, within_range, reading_with, keeping, delivered, called}
use Rattle.line.specs.declared.Receiver.{Receiver}
use Rattle.line.specs.declared.Received.{Received}
use Rattle.listing.specs.Lines.{lines_of}
use Rattle.energy.specs.declared.Energies.{Energies}
use Rattle.meter.specs.Meter.{MeterSized, within_ranges}
use Rattle.meter.specs.declared.Meter.{Meter}
use Rattle.replay_frames.specs.Putting.{meter_after, replies_to, all_put, frames_put}
use Rattle.replay_frames.proofs.PuttingLaws.{all-text}
use Rattle.replay_frames.specs.declared.FramesPut.{FramesPut}
use Rattle.trace.specs.declared.TraceRecord.{TraceRecord}
use Rattle.trace.specs.declared.TraceRecord.TheVariants.{Byte, Silence, Pulse, Key, Settle}
use Rattle.replay.specs.Replay.{Play, state_of, is_within, heard_play, host_play, played, stepped_with, played_step}
use Rattle.replay.specs.Play.{quiet, played_outcome, CanPut, delivered_play}
use Rattle.replay.proofs.ByHandLaws.{reading-frames}
use Rattle.replay.specs.declared.ReplayState.{ReplayState}
use Rattle.replay.specs.declared.play.Played.{Played}
use Rattle.replay.specs.declared.StepAnswer.TheVariants as step

-- Both tests of the ranges hold.
pub both-within : (s : ReplayState) → is_within s ≡ true →
    (within_range s.receiver ≡ true) × (within_ranges s.meter s.energies.forward s.energies.reverse ≡ true)
unfolding is_within
both-within s e = go (within_range s.receiver) (within_ranges s.meter s.energies.forward s.energies.reverse) e
  where
    go : (a b : Bool) → (a && b) ≡ true → (a ≡ true) × (b ≡ true)
    go true true e = (refl, refl)
    go true false e = absurd (false≢true e)
    go false b e = absurd (false≢true e)

-- A receiver within its range, with one symbol more, delivers at most 212 bytes.
pub delivers-most : (r : Receiver) (x : Symbol) → within_range r ≡ true → length (joined (reading_with r x).frames) ≤ 212
unfolding reading_with kept_bytes bytes_in
delivers-most r x within =
    let kept = take r.count r.kept in
    omega (arith, frames-few (map byte kept ++ (x ∷ [])), one_more kept x, few, within-most r.kept r.count within)
  where
    one_more : (l : List ℕ) (x : Symbol) → bytes_in (map byte l ++ (x ∷ [])) ≤ length l + 1
    one_more [] (byte b) = omega arith
    one_more [] silence = omega arith
    one_more (b ∷ l) x = omega (arith, one_more l x)

    few : length (take r.count r.kept) ≤ r.count
    few = rw length-take (omega arith)

-- A byte or a silence: the lines of the replies to what the receiver delivers.
heard-fits : (s : ReplayState) (x : Symbol) → is_within s ≡ true → MeterSized s.meter → length (lines_of (heard_play x s).replies) ≤ 8192
unfolding heard_play
heard-fits s x within sized =
    let fs = (reading_with s.receiver x).frames in
    let cuts : cut (joined fs) ≡ frames_of fs = cut-joined fs (reading-frames s.receiver x) in
    let text : length (lines_of (replies_to (frames_of fs) s.meter s.energies.forward s.energies.reverse)) ≤ 35 * length (joined fs) =
    rw cuts at (all-text (joined fs) s.meter s.energies.forward s.energies.reverse sized) in
    omega (arith, text, delivers-most s.receiver x (both-within s within).0)

-- 8,192 bytes always hold the lines of a record's replies.
pub text-fits : (r : TraceRecord) (s : ReplayState) → is_within s ≡ true → MeterSized s.meter → length (lines_of (played r s).replies) ≤ 8192
unfolding played lines_of
text-fits (Byte b) s within sized = heard-fits s (byte b) within sized
text-fits Silence s within sized = heard-fits s silence within sized
text-fits (Pulse direction rate amount) s within sized = omega arith
text-fits (Key on) s within sized = omega arith
text-fits Settle s within sized = omega arith

-- Frames put to a meter within its ranges, with room.
pub record Puts (fs : List (List ℕ)) (m : Meter) (energies : Energies) (lent : List ℕ) (put : FramesPut) (left : List ℕ) : Type 0 where
  pub meter : put.meter ≡ meter_after fs m energies.forward energies.reverse
  pub answer : put.answer
      ≡ lines_put (length (lines_of (replies_to fs m energies.forward energies.reverse))) (length (replies_to fs m energies.forward energies.reverse))
  pub memory : left ≡ over (lines_of (replies_to fs m energies.forward energies.reverse)) lent

pub frames-puts : {m : Meter} {energies : Energies} {memory left : List ℕ} {put : FramesPut} (bytes : List ℕ) →
    within_ranges m energies.forward energies.reverse ≡ true → 35 * length bytes ≤ length memory →
    outcome put left ≡ frames_put bytes m energies memory → Puts (cut bytes) m energies memory put left
unfolding frames_put all_put
frames-puts {m} {energies} {memory} {left} {put} bytes within room e =
    let all : outcome put left ≡ all_put (cut bytes) m energies.forward energies.reverse memory =
    e ∙ rw (within, le-leb (35 * length bytes) (length memory) room) in
    record {
      meter = ap (λ (o : Outcome FramesPut). o.answer.meter) all;
      answer = ap (λ (o : Outcome FramesPut). o.answer.answer) all;
      memory = ap (λ (o : Outcome FramesPut). o.memory) all;
    }

-- A call of a receiver within its range, lent memory enough.
module _ (x : Symbol) (r : Receiver) (lent : List ℕ) {received : Received} {frames : List ℕ} (within : within_range r ≡ true) (room : 212 ≤ length lent)
    (e : outcome received frames ≡ called x r lent) where
  -- It delivers what it reads.
  is_delivered : outcome received frames ≡ delivered (reading_with r x) r lent
  unfolding called
  is_delivered = e ∙ rw (within, le-leb 212 (length lent) room)

  pub call-says : received.answer ≡ handed (length (joined (reading_with r x).frames)) (length (reading_with r x).frames)
  unfolding delivered
  call-says = ap (λ (o : Outcome Received). o.answer.answer) is_delivered

  pub call-keeps : received.receiver ≡ keeping (reading_with r x).kept r
  unfolding delivered
  call-keeps = ap (λ (o : Outcome Received). o.answer.receiver) is_delivered

  pub call_leaves : frames ≡ over (joined (reading_with r x).frames) lent
  unfolding delivered
  call_leaves = ap (λ (o : Outcome Received). o.memory) is_delivered

  -- The memory keeps its length.
  pub call-size : length frames ≡ length lent
  call-size = ap length call_leaves ∙ over-length (joined (reading_with r x).frames) lent (omega (arith, delivers-most r x within))

  -- What is delivered is cut into the frames that are read.
  pub call-cuts : cut (take (length (joined (reading_with r x).frames)) frames) ≡ frames_of (reading_with r x).frames
  call-cuts =
      let front : take (length (joined (reading_with r x).frames)) frames ≡ joined (reading_with r x).frames =
      rw call_leaves (take-append_seam (joined (reading_with r x).frames) _) in
      ap cut front ∙ cut-joined _ (reading-frames r x)

  -- It can be put to a meter within its ranges, with 8,192 bytes for the lines: "at most 212 bytes delivered".
  pub heard-can-put : (m : Meter) (energies : Energies) (memory : List ℕ) → within_ranges m energies.forward energies.reverse ≡ true →
      8192 ≤ length memory →
      CanPut received.answer m energies frames memory
  heard-can-put m energies memory ranges roomy =
      rw call-says (record { within = ranges; size = omega (arith, delivers-most r x within, call-size); room = omega (arith, delivers-most r x within) })

  -- Put to the meter, it is what the symbol comes to.
  pub heard-delivered : (m : Meter) (energies : Energies) →
      delivered_play received.answer received.receiver m energies frames ≡ heard_play x (state_of r m energies)
  unfolding heard_play
  heard-delivered m energies = rw (call-says, call-keeps, call-cuts)

-- What a record played comes to, as a step.
pub played_as_step : {p : Played} {left : List ℕ} (q : Play) (next : ℕ) (m : List ℕ) → outcome p left ≡ played_outcome q m →
    outcome (stepped_with p.state (step.Played p.text p.lines next)) left ≡ played_step q next m
unfolding played_outcome played_step
played_as_step q next m e =
    ap (λ (o : Outcome Played). outcome (stepped_with o.answer.state (step.Played o.answer.text o.answer.lines next)) o.memory) e

-- The lines of a record that nothing is replied to.
pub quiet-outcome : (s : ReplayState) (m : List ℕ) → outcome (quiet s) m ≡ played_outcome (host_play s) m
unfolding played_outcome lines_of
quiet-outcome s m = refl

-- Frames that are put are not refused.
pub not-refused : {text lines : ℕ} {n : Refusal} → lines_put text lines ≡ Err n → ⊥
not-refused e = let z : ◌≡◌ {A = ℕ} 0 1 = cc in omega arith
