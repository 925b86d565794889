-- Frames put to a meter one after the other: document 02, W1, "sends each frame handed on to the meter, and lists each reply as the listing program
-- does".
use Rattle.std.specs.Prelude.{ℕ, ◌*◌, List, [], ◌∷◌, ◌++◌, length, take, replicate, leb, Err, Ok, Result}
use Rattle.frame.specs.declared.refusal.Refusal.{Refusal}
use Rattle.frame.specs.declared.refusal.Refusal.TheVariants.{OutOfRange, ShortMemory}
use Rattle.replay_frames.specs.PutAnswer.{lines_put}
use Rattle.laws.specs.Memory.{Outcome, outcome, over}
use Rattle.laws.specs.Test.{pick}
use Rattle.frame.specs.Frame.{most_frame}
use Rattle.frame.specs.EndToEnd.{cut}
use Rattle.energy.specs.Energies.{Rows}
use Rattle.energy.specs.declared.Energies.{Energies}
use Rattle.listing.specs.Lines.{lines_of}
use Rattle.meter.specs.Meter.{within_ranges}
use Rattle.meter.specs.Answer.{answered}
use Rattle.meter.specs.declared.Answered.{Answered}
use Rattle.meter.specs.declared.Meter.{Meter}
use Rattle.replay_frames.specs.declared.FramesPut.{FramesPut}
use Rattle.replay_frames.specs.declared.OnePut.{OnePut}

-- The reply that an answer gives, from the front of its memory; silence gives none.
abbrev pub reply_in : Result ℕ Refusal → List ℕ → List (List ℕ)
reply_in (Ok n) memory = take n memory ∷ []
reply_in (Err n) memory = []

-- One frame put to a meter, with 212 bytes for the reply.
unfoldable pub put : List ℕ → Meter → Rows → Rows → Outcome Answered
put frame m forward reverse = answered frame m forward reverse (replicate most_frame 0)

-- Its reply, if there is one.
abbrev pub reply_to : List ℕ → Meter → Rows → Rows → List (List ℕ)
reply_to frame m forward reverse = reply_in (put frame m forward reverse).answer.answer (put frame m forward reverse).memory

-- The meter after frames, each put to the meter that the last one left.
unfoldable pub meter_after : List (List ℕ) → Meter → Rows → Rows → Meter
meter_after [] m forward reverse = m
meter_after (f ∷ fs) m forward reverse = meter_after fs (put f m forward reverse).answer.meter forward reverse

-- Their replies, in order.
unfoldable pub replies_to : List (List ℕ) → Meter → Rows → Rows → List (List ℕ)
replies_to [] m forward reverse = []
replies_to (f ∷ fs) m forward reverse = reply_to f m forward reverse ++ replies_to fs (put f m forward reverse).answer.meter forward reverse

-- One frame: the meter, and the line of the reply over the front of the memory.
unfoldable pub one_put : List ℕ → Meter → Rows → Rows → List ℕ → Outcome OnePut
one_put frame m forward reverse memory =
    outcome
    (record {
      meter = (put frame m forward reverse).answer.meter;
      text = length (lines_of (reply_to frame m forward reverse));
      lines = length (reply_to frame m forward reverse);
    })
    (over (lines_of (reply_to frame m forward reverse)) memory)

-- A refusal, and the meter as before.
abbrev pub refused_put : Refusal → Meter → FramesPut
refused_put n m = record { meter = m; answer = Err n }

-- These frames put to a meter: how many bytes of text and how many lines, and the lines over the front of the memory.
unfoldable pub all_put : List (List ℕ) → Meter → Rows → Rows → List ℕ → Outcome FramesPut
all_put fs m forward reverse memory =
    outcome
    (record {
      meter = meter_after fs m forward reverse;
      answer = lines_put (length (lines_of (replies_to fs m forward reverse))) (length (replies_to fs m forward reverse));
    })
    (over (lines_of (replies_to fs m forward reverse)) memory)

-- The frames that stand end to end in these bytes: 16, then 1 under 35 bytes of memory for each byte, else all of them put, in order.
unfoldable pub frames_put : List ℕ → Meter → Energies → List ℕ → Outcome FramesPut
frames_put bytes m energies memory =
    pick (within_ranges m energies.forward energies.reverse)
    (pick (leb (35 * length bytes) (length memory))
    (all_put (cut bytes) m energies.forward energies.reverse memory)
    (outcome (refused_put ShortMemory m) memory))
    (outcome (refused_put OutOfRange m) memory)
