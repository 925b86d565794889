-- A state that records have led to: its receiver has heard a line, and its meter is within its ranges. Every record played keeps it so, and what a
-- byte or a silence puts to the meter are the frames that became certain with it.
use Prim.Native.Nat.{ℕ, ◌≤◌}
use Rattle.line.specs.Answer.{handed}
use Rattle.std.specs.Prelude.{◌≡◌, Bool, true, length}
use Rattle.std.proofs.Math.Path.{refl}
use Rattle.std.proofs.Common.{sym, arith, le-leb}
use mathlib.Core.List.{List, [], ◌∷◌, ◌++◌, append-nil, append_assoc}
use Rattle.std.proofs.Math.ListN.{replicate}
use Rattle.std.proofs.lemmas.List.{length-replicate}
use Rattle.laws.specs.Memory.{over}
use Rattle.laws.specs.TestLaws.{pick_cases}
use Rattle.line_terms.specs.Line.{Symbol, byte, silence}
use Rattle.line_terms.specs.Places.{joined, frames_of}
use Rattle.line_terms.specs.Scan.{LineReading, scan}
use Rattle.line_terms.proofs.Turns.{brings-reads}
use Rattle.line.specs.Receiver.{reading_with, keeping, delivered, called}
use Rattle.line.proofs.CallLaws.{HasReceived, fresh-received, received-within, Answers, ignores, delivers, answers}
use Rattle.line.specs.declared.Receiver.{Receiver}
use Rattle.item_address.specs.Address.{Good}
use Rattle.meter.specs.Meter.{MeterSized, within_ranges, fresh_meter}
use Rattle.meter.proofs.Ranges.{InRanges, within-ranges}
use Rattle.meter.specs.Host.{created, key_set}
use Rattle.meter.specs.declared.KeySet.{KeySet}
use Rattle.meter.proofs.Calls as calls
use Rattle.meter.proofs.Calls.{keeps-within, fresh-within}
use Rattle.replay_frames.proofs.PuttingLaws.{after-sized, after-within}
use Rattle.trace.specs.declared.TraceRecord.{TraceRecord}
use Rattle.trace.specs.declared.TraceRecord.TheVariants.{Byte, Silence, Pulse, Key, Settle}
use Rattle.replay.specs.Replay.{started, is_within, heard_play, host_call, played, played_all}
use Rattle.replay.specs.ByHand.{spelled_by, spelled}
use Rattle.replay.specs.declared.ReplayState.{ReplayState}

-- The receiver has heard this line, and the meter is one of its type within its ranges.
pub record Fit (line : List Symbol) (s : ReplayState) : Type 0 where
  pub received : HasReceived line s.receiver
  pub ranges : InRanges s.meter s.energies.forward s.energies.reverse
  pub sized : MeterSized s.meter

-- It is within its ranges.
pub fit-within : {line : List Symbol} {s : ReplayState} → Fit line s → is_within s ≡ true
unfolding is_within
fit-within {s = s} f = rw (received-within f.received, (within-ranges s.meter s.energies.forward s.energies.reverse).1 f.ranges)

-- A start of a good address has heard nothing.
pub start-fit : (address : List ℕ) → length address ≡ 6 → Good address → Fit [] (started address).state
unfolding started created fresh_meter
start-fit address six good =
    record {
      received = fresh-received;
      ranges = fresh-within address good;
      sized = record { address = six; passwords = length-replicate {A = ℕ} 30 0; operator = length-replicate {A = ℕ} 4 0; registers = refl };
    }

-- A receiver that has heard a line, called with memory enough, delivers what it reads.
pub heard-call : {line : List Symbol} {r : Receiver} → HasReceived line r → (x : Symbol) (m : List ℕ) → 212 ≤ length m →
    called x r m ≡ delivered (reading_with r x) r m
unfolding called
heard-call h x m room = rw (received-within h, le-leb 212 (length m) room)

module _ {line : List Symbol} {s : ReplayState} (f : Fit line s) (x : Symbol) where
  -- A symbol heard is one symbol more.
  heard-received : HasReceived (line ++ (x ∷ [])) (keeping (reading_with s.receiver x).kept s.receiver)
  unfolding delivered
  heard-received = go (answers f.received (sym (heard-call f.received x memory room)))
    where
      memory : List ℕ
      memory = replicate 212 0

      room : 212 ≤ length memory
      room = omega (arith, length-replicate {A = ℕ} 212 0)

      reading : LineReading
      reading = reading_with s.receiver x

      go : Answers line x s.receiver memory
          (record {
            receiver = keeping reading.kept s.receiver;
            answer = handed (length (joined reading.frames)) (length reading.frames);
          })
          (over (joined reading.frames) memory) →
          HasReceived (line ++ (x ∷ [])) (keeping reading.kept s.receiver)
      go (ignores short a r m) = absurd (omega (arith, room))
      go (delivers enough a h m) = h

  -- The frames that it puts to the meter are those that the line with it reads as more.
  pub heard-frames : frames_of (scan 0 0 (line ++ (x ∷ []))).frames ≡ frames_of (scan 0 0 line).frames ++ (heard_play x s).frames
  unfolding heard_play reading_with
  heard-frames = (brings-reads line {y = x ∷ []} f.received.bytes (record { found = refl; keeps = refl })).found

  pub heard-fit : Fit (line ++ (x ∷ [])) (heard_play x s).state
  unfolding heard_play
  heard-fit =
      let fs = frames_of (reading_with s.receiver x).frames in
      record {
        received = heard-received;
        ranges = after-within fs s.meter s.energies.forward s.energies.reverse f.ranges;
        sized = after-sized fs s.meter s.energies.forward s.energies.reverse f.sized;
      }

-- A call of the host leaves the line as it was heard, and the meter within its ranges.
module _ {line : List Symbol} {s : ReplayState} (f : Fit line s) where
  kept-ranges : (c : calls.MeterCall) → let t = calls.after c (record { meter = s.meter; forward = s.energies.forward; reverse = s.energies.reverse }) in
      InRanges t.meter t.forward t.reverse
  kept-ranges c = keeps-within c _ f.ranges

  key-sized : (on : Bool) → MeterSized (key_set on s.meter s.energies.forward s.energies.reverse).meter
  unfolding key_set
  key-sized on =
      pick_cases (λ (k : KeySet). MeterSized k.meter) (within_ranges s.meter s.energies.forward s.energies.reverse)
      (λ _. record { address = f.sized.address; passwords = f.sized.passwords; operator = f.sized.operator; registers = f.sized.registers })
      (λ _. f.sized)

  -- Every record played keeps the state fit.
  pub played-fit : (r : TraceRecord) → Fit (line ++ spelled_by r) (played r s).state
  unfolding played host_call calls.after
  played-fit (Byte b) = heard-fit f (byte b)
  played-fit Silence = heard-fit f silence
  played-fit (Pulse direction rate amount) =
      record { received = rw append-nil f.received; ranges = kept-ranges (calls.pulse amount direction rate); sized = f.sized }
  played-fit (Key on) = record { received = rw append-nil f.received; ranges = kept-ranges (calls.key on); sized = key-sized on }
  played-fit Settle = record { received = rw append-nil f.received; ranges = kept-ranges calls.settle; sized = f.sized }

  -- The frames that it puts to the meter are those that the line with it reads as more.
  pub played-frames : (r : TraceRecord) → frames_of (scan 0 0 (line ++ spelled_by r)).frames ≡ frames_of (scan 0 0 line).frames ++ (played r s).frames
  unfolding played
  played-frames (Byte b) = heard-frames f (byte b)
  played-frames Silence = heard-frames f silence
  played-frames (Pulse direction rate amount) = rw (append-nil line, append-nil)
  played-frames (Key on) = rw (append-nil line, append-nil)
  played-frames Settle = rw (append-nil line, append-nil)

-- Records played one after the other keep the state fit, and put to the meter the frames that the line with them reads as more.
pub all_fit : {line : List Symbol} {s : ReplayState} (rs : List TraceRecord) → Fit line s → Fit (line ++ spelled rs) (played_all rs s).state
unfolding played_all
all_fit [] f = rw append-nil f
all_fit {line = line} {s = s} (r ∷ rs) f =
    rw append_assoc at (all_fit {line = line ++ spelled_by r} {s = (played r s).state} rs (played-fit f r))

pub all-frames : {line : List Symbol} {s : ReplayState} (rs : List TraceRecord) → Fit line s →
    frames_of (scan 0 0 (line ++ spelled rs)).frames ≡ frames_of (scan 0 0 line).frames ++ (played_all rs s).frames
unfolding played_all
all-frames {line = line} [] f = rw (append-nil line, append-nil)
all-frames {line = line} {s = s} (r ∷ rs) f =
    let more : frames_of (scan 0 0 (line ++ spelled_by r ++ spelled rs)).frames
    ≡ frames_of (scan 0 0 (line ++ spelled_by r)).frames ++ (played_all rs (played r s).state).frames =
    all-frames {line = line ++ spelled_by r} {s = (played r s).state} rs (played-fit f r) in
    rw (← append_assoc line (spelled_by r) (spelled rs), more, played-frames f r) (append_assoc (frames_of (scan 0 0 line).frames) (played r s).frames _)

-- Records played and then more.
pub record AllThen (rs more : List TraceRecord) (s : ReplayState) : Type 0 where
  pub state : (played_all (rs ++ more) s).state ≡ (played_all more (played_all rs s).state).state
  pub frames : (played_all (rs ++ more) s).frames ≡ (played_all rs s).frames ++ (played_all more (played_all rs s).state).frames
  pub replies : (played_all (rs ++ more) s).replies ≡ (played_all rs s).replies ++ (played_all more (played_all rs s).state).replies

pub all_then : (rs more : List TraceRecord) (s : ReplayState) → AllThen rs more s
unfolding played_all
all_then [] more s = record { state = refl; frames = refl; replies = refl }
all_then (r ∷ rs) more s =
    let then = all_then rs more (played r s).state in
    record {
      state = then.state;
      frames = rw then.frames (sym (append_assoc (played r s).frames _ _));
      replies = rw then.replies (sym (append_assoc (played r s).replies _ _));
    }

-- One record.
pub record AllOne (r : TraceRecord) (s : ReplayState) : Type 0 where
  pub state : (played_all (r ∷ []) s).state ≡ (played r s).state
  pub frames : (played_all (r ∷ []) s).frames ≡ (played r s).frames
  pub replies : (played_all (r ∷ []) s).replies ≡ (played r s).replies

pub all_one : (r : TraceRecord) (s : ReplayState) → AllOne r s
unfolding played_all
all_one r s = record { state = refl; frames = append-nil _; replies = append-nil _ }
