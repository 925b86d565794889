-- Document 02, W1: a trace played record by record into a fresh receiver and a fresh meter.
use Rattle.std.specs.Prelude.{ℕ, ◌+◌, List, [], ◌∷◌, ◌++◌, Bool, ◌&&◌, length, drop, leb, Err, None, Ok, Option, Result, Some}
use Rattle.frame.specs.declared.refusal.Refusal.{Refusal}
use Rattle.frame.specs.declared.refusal.Refusal.TheVariants.{OutOfRange, ShortMemory}
use Rattle.trace.specs.Front.{found_record}
use Rattle.trace.specs.declared.RecordFound.{RecordFound}
use Rattle.laws.specs.Memory.{Outcome, outcome, over}
use Rattle.laws.specs.Test.{pick}
use Rattle.line_terms.specs.Line.{Symbol, byte, silence}
use Rattle.line_terms.specs.Places.{frames_of}
use Rattle.line.specs.Receiver.{fresh, within_range, reading_with, keeping}
use Rattle.line.specs.declared.Receiver.{Receiver}
use Rattle.listing.specs.Lines.{lines_of}
use Rattle.energy.specs.declared.Energies.{Energies}
use Rattle.meter.specs.Meter.{within_ranges}
use Rattle.meter.specs.Host.{created, key_set, pulsed_by, settled_by}
use Rattle.meter.specs.declared.Meter.{Meter}
use Rattle.meter.specs.declared.Counted.{Counted}
use Rattle.replay_frames.specs.Putting.{meter_after, replies_to}
use Rattle.trace.specs.Trace.{front_of}
use Rattle.trace.specs.declared.TraceRecord.{TraceRecord}
use Rattle.trace.specs.declared.TraceRecord.TheVariants as records
use Rattle.replay.specs.declared.ReplayState.{ReplayState}
use Rattle.replay.specs.declared.Started.{Started}
use Rattle.replay.specs.declared.Stepped.{Stepped}
use Rattle.replay.specs.declared.StepAnswer.{StepAnswer}
use Rattle.replay.specs.declared.StepAnswer.TheVariants.{Done, Refused, BadRecord, Played}

-- A receiver, a meter and its readings together.
abbrev pub state_of : Receiver → Meter → Energies → ReplayState
state_of receiver m energies = record { receiver = receiver; meter = m; energies = energies }

-- The start: a fresh receiver, a fresh meter with its readings, and place 0; 8 for an address that is not good.
unfoldable pub started : List ℕ → Started
started address =
    record {
      state = state_of fresh (created address).meter (created address).energies;
      at = 0;
      answer = (created address).answer;
    }

-- The receiver, and the meter with its readings, are within their ranges.
unfoldable pub is_within : ReplayState → Bool
is_within s = within_range s.receiver && within_ranges s.meter s.energies.forward s.energies.reverse

-- What a record comes to: the state after it, the frames that it put to the meter, and their replies.
pub record Play : Type 0 where
  pub state : ReplayState
  pub frames : List (List ℕ)
  pub replies : List (List ℕ)

-- A symbol heard: the receiver reads it, and each frame that it delivers, in order, is put to the meter that the last one left.
unfoldable pub heard_play : Symbol → ReplayState → Play
heard_play x s =
    let reading = reading_with s.receiver x in
    let delivered = frames_of reading.frames in
    record {
      state = state_of (keeping reading.kept s.receiver) (meter_after delivered s.meter s.energies.forward s.energies.reverse) s.energies;
      frames = delivered;
      replies = replies_to delivered s.meter s.energies.forward s.energies.reverse;
    }

-- The state with the meter and the readings that a call of the host handed back.
abbrev pub counted_in : Receiver → Counted → ReplayState
counted_in receiver c = state_of receiver c.meter c.energies

-- A call of the host: a pulse, the key or a settlement. A byte or a silence is none.
unfoldable pub host_call : TraceRecord → ReplayState → ReplayState
host_call (records.Byte b) s = s
host_call records.Silence s = s
host_call (records.Pulse direction rate amount) s =
    counted_in s.receiver (pulsed_by amount direction rate s.meter s.energies.forward s.energies.reverse)
host_call (records.Key on) s =
    state_of s.receiver (key_set on s.meter s.energies.forward s.energies.reverse).meter s.energies
host_call records.Settle s = counted_in s.receiver (settled_by s.meter s.energies.forward s.energies.reverse)

-- No frame is put, and nothing replied.
abbrev pub host_play : ReplayState → Play
host_play s = record { state = s; frames = []; replies = [] }

-- What each record comes to: a byte or a silence is heard, the others are calls of the host.
unfoldable pub played : TraceRecord → ReplayState → Play
played (records.Byte b) s = heard_play (byte b) s
played records.Silence s = heard_play silence s
played (records.Pulse direction rate amount) s = host_play (host_call (records.Pulse direction rate amount) s)
played (records.Key on) s = host_play (host_call (records.Key on) s)
played records.Settle s = host_play (host_call records.Settle s)

-- Records played one after the other.
unfoldable pub played_all : List TraceRecord → ReplayState → Play
played_all [] s = host_play s
played_all (r ∷ rs) s =
    let p = played r s in
    let q = played_all rs p.state in
    record { state = q.state; frames = p.frames ++ q.frames; replies = p.replies ++ q.replies }

-- A state with a step's answer.
abbrev pub stepped_with : ReplayState → StepAnswer → Stepped
stepped_with s answer = record { state = s; answer = answer }

-- An answer that says that no record was played.
abbrev pub Unplayed : StepAnswer → Type 0
Unplayed Done = Unit
Unplayed (Refused n) = Unit
Unplayed (BadRecord n place) = Unit
Unplayed (Played text lines next) = ⊥

-- A record played: how many bytes of text and how many lines, the next place, and the lines of the replies over the front of the memory.
unfoldable pub played_step : Play → ℕ → List ℕ → Outcome Stepped
played_step p next m =
    outcome (stepped_with p.state (Played (length (lines_of p.replies)) (length p.replies) next)) (over (lines_of p.replies) m)

-- By what stands at the place: done at the end, whatever the memory; else 1 under 8,192 bytes of memory, then 9 or 10 with the place, else the
-- record is played.
abbrev pub at_front : Result (Option RecordFound) Refusal → ℕ → ReplayState → List ℕ → Outcome Stepped
at_front (Ok None) at s m = outcome (stepped_with s Done) m
at_front (Err n) at s m =
    pick (leb 8192 (length m)) (outcome (stepped_with s (BadRecord n at)) m) (outcome (stepped_with s (Refused ShortMemory)) m)
at_front (Ok (Some f)) at s m = pick (leb 8192 (length m)) (played_step (played f.found s) (at + f.length) m) (outcome (stepped_with s (Refused ShortMemory)) m)

-- The outcome of a step at a place of a trace: 16 before anything else.
unfoldable pub stepped : List ℕ → ℕ → ReplayState → List ℕ → Outcome Stepped
stepped trace at s m =
    pick (is_within s) (at_front (front_of (drop at trace)) at s m) (outcome (stepped_with s (Refused OutOfRange)) m)
