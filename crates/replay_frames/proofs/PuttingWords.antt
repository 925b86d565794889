-- What frames put to a meter come to, in words: each is put to the meter that the one before left, a reply gives one line, and silence none.
use Rattle.frame.specs.declared.refusal.Refusal.TheVariants.{OutOfRange, ShortMemory}
use Rattle.std.specs.Prelude.{ℕ, ◌*◌, ◌≤◌, ◌<◌, ◌≡◌, refl, List, [], ◌∷◌, ◌++◌, true, ◌↔◌, length, take, Err, Ok, Result}
use Rattle.frame.specs.declared.refusal.Refusal.{Refusal}
use Rattle.replay_frames.specs.PutAnswer.{lines_put}
use Rattle.std.proofs.Common.{ap, le-leb}
use Rattle.std.proofs.lemmas.Bool.{lt-leb}
use Rattle.laws.specs.All.{AllOf}
use Rattle.laws.specs.Memory.{outcome, over}
use Rattle.laws.specs.TestLaws.{not_true}
use Rattle.frame.specs.Frame.{Frame}
use Rattle.frame.specs.EndToEnd.{EndToEnd, none, next, behind_each_other, cut_from, cut}
use Rattle.frame.proofs.EndToEndLaws.{cut-next}
use Rattle.energy.specs.Energies.{Rows}
use Rattle.energy.specs.declared.Energies.{Energies}
use Rattle.listing.specs.Lines.{lines_of}
use Rattle.meter.specs.Meter.{within_ranges}
use Rattle.meter.proofs.Ranges.{InRanges, within-ranges}
use Rattle.meter.specs.declared.Meter.{Meter}
use Rattle.replay_frames.specs.Putting.{reply_in, put, reply_to, meter_after, replies_to, refused_put, all_put, frames_put}
use Rattle.replay_frames.proofs.PuttingLaws.{meter-append, replies-append}

module _ (f : List ℕ) (m : Meter) (forward reverse : Rows) where
  -- A silent frame has no reply, and so no line.
  pub silent_no_line : {n : Refusal} → (put f m forward reverse).answer.answer ≡ Err n → reply_to f m forward reverse ≡ []
  silent_no_line e = ap (λ (a : Result ℕ Refusal). reply_in a (put f m forward reverse).memory) e

  -- A frame that is replied to has one reply: what stands at the front of the memory.
  pub replied-line : {n : ℕ} → (put f m forward reverse).answer.answer ≡ Ok n → reply_to f m forward reverse ≡ take n (put f m forward reverse).memory ∷ []
  replied-line e = ap (λ (a : Result ℕ Refusal). reply_in a (put f m forward reverse).memory) e

-- One frame among others: the replies to those before it, its own from the meter that they left, and those to the frames behind it.
pub record AtFrame (fs earlier : List (List ℕ)) (f : List ℕ) (later : List (List ℕ)) (m : Meter) (forward reverse : Rows) : Type 0 where
  pub meter : meter_after fs m forward reverse ≡ meter_after later (put f (meter_after earlier m forward reverse) forward reverse).answer.meter forward reverse
  pub replies : replies_to fs m forward reverse
      ≡ replies_to earlier m forward reverse
      ++ (reply_to f (meter_after earlier m forward reverse) forward reverse
      ++ replies_to later (put f (meter_after earlier m forward reverse) forward reverse).answer.meter forward reverse)

-- So it is for every frame among them.
pub put_in_order : {fs : List (List ℕ)} (earlier : List (List ℕ)) (f : List ℕ) (later : List (List ℕ)) (m : Meter) (forward reverse : Rows)
    → fs ≡ earlier ++ (f ∷ later) → AtFrame fs earlier f later m forward reverse
unfolding meter_after replies_to
put_in_order earlier f later m forward reverse e =
    record {
      meter = rw e (meter-append earlier (f ∷ later) m forward reverse);
      replies = rw e (replies-append earlier (f ∷ later) m forward reverse);
    }

-- Frames put in order, with their replies and the meter afterwards: each to the meter that the one before left, silence giving no reply and a reply
-- what stands at the front of the memory.
pub data InOrder (forward reverse : Rows) : List (List ℕ) → Meter → List (List ℕ) → Meter → Type 0 where
  last : {m : Meter} → InOrder forward reverse [] m [] m
  silent : {f : List ℕ} {fs replies : List (List ℕ)} {m after : Meter} (n : Refusal) → (put f m forward reverse).answer.answer ≡ Err n
      → InOrder forward reverse fs (put f m forward reverse).answer.meter replies after → InOrder forward reverse (f ∷ fs) m replies after
  replied : {f : List ℕ} {fs replies : List (List ℕ)} {m after : Meter} (n : ℕ) → (put f m forward reverse).answer.answer ≡ Ok n
      → InOrder forward reverse fs (put f m forward reverse).answer.meter replies after
      → InOrder forward reverse (f ∷ fs) m (take n (put f m forward reverse).memory ∷ replies) after

-- What the definitions say of frames is so.
in_order : (forward reverse : Rows) (fs : List (List ℕ)) (m : Meter)
    → InOrder forward reverse fs m (replies_to fs m forward reverse) (meter_after fs m forward reverse)
unfolding meter_after replies_to
in_order forward reverse [] m = last
in_order forward reverse (f ∷ fs) m =
    go (put f m forward reverse).answer.answer refl (in_order forward reverse fs (put f m forward reverse).answer.meter)
  where
    go : (answer : Result ℕ Refusal) → (put f m forward reverse).answer.answer ≡ answer → {replies : List (List ℕ)} {after : Meter}
        → InOrder forward reverse fs (put f m forward reverse).answer.meter replies after
        → InOrder forward reverse (f ∷ fs) m (reply_in answer (put f m forward reverse).memory ++ replies) after
    go (Ok n) e rest = replied n e rest
    go (Err n) e rest = silent n e rest

-- Bytes that stand end to end are cut into frames.
cut-frames : {bytes : List ℕ} → EndToEnd bytes → AllOf Frame (cut bytes)
unfolding cut_from
cut-frames none = tt
cut-frames (next {frame} {rest} w more) = rw (cut-next frame rest w) (w, cut-frames more)

-- One behind the other they are the bytes again.
cut-whole : {bytes : List ℕ} → EndToEnd bytes → behind_each_other (cut bytes) ≡ bytes
unfolding cut_from behind_each_other
cut-whole none = refl
cut-whole (next {frame} {rest} w more) = rw (cut-next frame rest w, cut-whole more)

-- All the frames put: the text is the line of each reply, in order, over the front of the memory, and the answer says how many bytes and lines.
pub record AllListed (bytes : List ℕ) (m : Meter) (energies : Energies) (memory : List ℕ) : Type 0 where
  pub replies : List (List ℕ)
  pub after : Meter
  pub order : InOrder energies.forward energies.reverse (cut bytes) m replies after
  pub frames : EndToEnd bytes → AllOf Frame (cut bytes)
  pub whole : EndToEnd bytes → behind_each_other (cut bytes) ≡ bytes
  pub result : frames_put bytes m energies memory
      ≡ outcome (record { meter = after; answer = lines_put (length (lines_of replies)) (length replies) }) (over (lines_of replies) memory)

-- Out of its ranges the meter is refused with 16; then too little memory with 1; else all the frames are put.
pub record FramesPutWords (bytes : List ℕ) (m : Meter) (energies : Energies) (memory : List ℕ) : Type 0 where
  pub out_of_range_lem : (InRanges m energies.forward energies.reverse → ⊥) → frames_put bytes m energies memory ≡ outcome (refused_put OutOfRange m) memory
  pub short-memory : InRanges m energies.forward energies.reverse → length memory < 35 * length bytes
      → frames_put bytes m energies memory ≡ outcome (refused_put ShortMemory m) memory
  pub listed : InRanges m energies.forward energies.reverse → 35 * length bytes ≤ length memory → AllListed bytes m energies memory

-- So it is for all bytes, meters and memory.
pub frames-put-words : (bytes : List ℕ) (m : Meter) (energies : Energies) (memory : List ℕ) → FramesPutWords bytes m energies memory
unfolding frames_put all_put
frames-put-words bytes m energies memory =
    record {
      out_of_range_lem = λ out. rw (not_true (within_ranges m energies.forward energies.reverse) (λ h. out (test.0 h)));
      short-memory = λ ranges short. rw (test.1 ranges, lt-leb _ _ short);
      listed =
          λ ranges room.
          record {
            replies = replies_to (cut bytes) m energies.forward energies.reverse;
            after = meter_after (cut bytes) m energies.forward energies.reverse;
            order = in_order energies.forward energies.reverse (cut bytes) m;
            frames = cut-frames;
            whole = cut-whole;
            result = rw (test.1 ranges, le-leb _ _ room);
          };
    }
  where
    test : (within_ranges m energies.forward energies.reverse ≡ true) ↔ InRanges m energies.forward energies.reverse
    test = within-ranges m energies.forward energies.reverse
