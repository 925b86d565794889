-- Laws of a receiver that hears four FE and a frame, byte by byte: the last byte delivers the frame, and no byte before it delivers anything.
use Prim.Native.Nat.{ℕ, zero, suc, ◌+◌, ◌≤◌, ◌<◌}
use Rattle.std.proofs.Math.Decide.{dec_lt}
use Rattle.std.proofs.Common.{add-one, sym, ap, ◌∙◌, take-append-drop, length-drop, take-suc}
use native.Mathlib.Omega.{arith}
use Rattle.std.specs.Prelude.{◌≡◌, refl, length, get_or, replicate}
use Rattle.std.proofs.Math.Path.{subst}
use Rattle.std.proofs.Math.Bool.{false}
use mathlib.Core.List.{List, [], ◌∷◌, ◌++◌, map, append-nil, map-append}
use Rattle.std.proofs.Math.ListN.{take, drop}
use Rattle.std.proofs.Math.Seq.{take_all, take-length, drop-length}
use Rattle.std.proofs.lemmas.Bool.{lt-leb}
use Rattle.frame.specs.Frame.{Frame}
use Rattle.laws.specs.Memory.{outcome}
use Rattle.laws.specs.MemoryLaws.{over-length}
use Rattle.frame.specs.Recognition.{recognised}
use Rattle.frame.proofs.RecognitionLaws.{frame-most, frame-whole, completes_open}
use Rattle.frame.specs.declared.Recognised.TheVariants.{Whole}
use Rattle.line_terms.specs.Line.{byte}
use Rattle.line_terms.specs.Places.{Found, joined}
use Rattle.line_terms.specs.Scan.{LineReading, before_silence, before, scan}
use Rattle.line_block.specs.Drain.{symbols, reading_from}
use Rattle.line_block.proofs.DrainLaws.{reading-end, reading-whole, reading-neither, reading_open}
use Rattle.line.specs.Receiver.{fresh, called}
use Rattle.line_terms.proofs.NewFrames.{new-after}
use Rattle.line.proofs.CallLaws.{new_frames, HasReceived, fresh-received}
use Rattle.line.proofs.DeliversLaws.{Delivers, call-delivers}
use Rattle.line.specs.declared.Receiver.{Receiver}
use Rattle.line.specs.declared.Received.{Received}
use Rattle.reader.specs.Building.{wake_up}
use Rattle.exchange.specs.Exchange.{WakeUpFrame}

-- FE begins no frame, so it is passed over.
passed_over : (place : ℕ) (x : List ℕ) → reading_from place (0xFE ∷ x) false ≡ reading_from (place + 1) x false
unfolding before_silence recognised
passed_over place x = reading-neither place (0xFE ∷ x) false (omega arith) (rw (lt-leb (length (0xFE ∷ x)) 0 (omega arith)))

module _ (frame : List ℕ) (whole : Frame frame) where
  -- A proper beginning of some FE and a frame: no frame is found.
  none_before : (n place i : ℕ) → i < n + length frame → (reading_from place (take i (replicate n 0xFE ++ frame)) false).frames ≡ []
  none_before zero place i below =
      let parts : take i frame ++ drop i frame ≡ frame = take-append-drop i frame in
      ap (λ (r : LineReading). r.frames)
      (reading_open place (take i frame) (completes_open (take i frame) (drop i frame) (rw length-drop (omega arith)) (rw parts whole)))
  none_before (suc n) place zero below = ap (λ (r : LineReading). r.frames) (reading-end place false)
  none_before (suc n) place (suc i) below =
      ap (λ (r : LineReading). r.frames) (passed_over place (take i (replicate n 0xFE ++ frame))) ∙ none_before n (place + 1) i (omega arith)

  -- All of it: that frame, behind them.
  one-behind : (n place : ℕ) → (reading_from place (replicate n 0xFE ++ frame) false).frames ≡ record { place = place + n; frame = frame } ∷ []
  unfolding before
  one-behind zero place =
      let known : recognised frame ≡ Whole (length frame) = rw append-nil at (frame-whole frame [] whole) in
      let none : place + 0 ≡ place = omega arith in
      rw (reading-whole place (length frame) frame false known, take-length, drop-length, reading-end, none)
  one-behind (suc n) place =
      let next : place + suc n ≡ place + 1 + n = omega arith in
      rw next (ap (λ (r : LineReading). r.frames) (passed_over place (replicate n 0xFE ++ frame)) ∙ one-behind n (place + 1))

-- The same of bytes that are four FE and a frame.
module _ {sent : List ℕ} (shape : WakeUpFrame sent) where
  -- Their two parts, and their length.
  shape_parts : wake_up ++ drop 4 sent ≡ sent
  shape_parts = ap (λ (l : List ℕ). l ++ drop 4 sent) (sym shape.waking) ∙ take-append-drop 4 sent

  shape_length : length sent ≡ 4 + length (drop 4 sent)
  shape_length = omega (arith, ap length shape_parts)

  -- The line of a proper beginning of them has no frame, and that of all of them has the frame alone.
  none_found : (i : ℕ) → i < length sent → (scan 0 0 (map byte (take i sent))).frames ≡ []
  unfolding symbols reading_from
  none_found i below =
      subst (λ (l : List ℕ). (scan 0 0 (map byte (take i l))).frames ≡ []) shape_parts
      (none_before (drop 4 sent) shape.frame 4 0 i (omega (arith, shape_length)))

  one_found : (scan 0 0 (map byte sent)).frames ≡ record { place = 4; frame = drop 4 sent } ∷ []
  unfolding symbols reading_from
  one_found =
      subst (λ (l : List ℕ). (scan 0 0 (map byte l)).frames ≡ record { place = 4; frame = drop 4 sent } ∷ []) shape_parts
      (one-behind (drop 4 sent) shape.frame 4 0)

-- The call with the next byte of four FE and a frame, with memory enough.
module _ {sent left : List ℕ} {returned : Received} {r : Receiver} (shape : WakeUpFrame sent) (i : ℕ) (below : i < length sent) (m : List ℕ)
    (roomy : 212 ≤ length m) (h : HasReceived (map byte (take i sent)) r) (e : outcome returned left ≡ called (byte (get_or sent i 0)) r m) where
  -- The bytes heard after it are those before and that byte.
  next : map byte (take i sent) ++ (byte (get_or sent i 0) ∷ []) ≡ map byte (take (i + 1) sent)
  next = rw (add-one, take-suc sent i 0, map-append)

  -- The receiver has heard them.
  pub next-heard : HasReceived (map byte (take (i + 1) sent)) returned.receiver
  next-heard = rw next at (call-delivers (byte (get_or sent i 0)) m h roomy e).1

  -- The frames found after it are all new.
  next-new : new_frames (map byte (take i sent)) (byte (get_or sent i 0)) ≡ (scan 0 0 (map byte (take (i + 1) sent))).frames
  next-new = sym (rw (next, none_found shape i below) at (new-after (map byte (take i sent)) (byte (get_or sent i 0) ∷ [])))

  -- They are delivered.
  next-delivers : {frames : List Found} → (scan 0 0 (map byte (take (i + 1) sent))).frames ≡ frames → Delivers (joined frames) (length frames) m left returned
  next-delivers {frames} found = rw (next-new, found) at (call-delivers (byte (get_or sent i 0)) m h roomy e).0

  -- Before the last byte nothing is delivered.
  pub next-nothing : i + 1 < length sent → Delivers [] 0 m left returned
  unfolding joined
  next-nothing more = next-delivers (none_found shape (i + 1) more)

  -- With the last byte the frame is.
  pub last-delivers : i + 1 ≡ length sent → Delivers (drop 4 sent) 1 m left returned
  unfolding joined
  last-delivers last =
      let all : take (i + 1) sent ≡ sent = take_all (i + 1) sent (omega arith) in
      rw append-nil at (next-delivers (ap (λ (l : List ℕ). (scan 0 0 (map byte l)).frames) all ∙ one_found shape))

-- The first i bytes of four FE and a frame are heard, with one memory lent to all calls: it is as it was, until with the last byte the
-- frame stands over its front.
pub record Hearing (sent : List ℕ) (i : ℕ) (m₀ m : List ℕ) (received : Received) : Type 0 where
  pub passed : i ≤ length sent
  pub heard : HasReceived (map byte (take i sent)) received.receiver
  pub begun : i < length sent → m ≡ m₀
  pub ended : i ≡ length sent → Delivers (drop 4 sent) 1 m₀ m received

-- Before the first byte.
pub hearing_start : {sent : List ℕ} {received : Received} (m : List ℕ) → WakeUpFrame sent → received.receiver ≡ fresh → Hearing sent 0 m m received
hearing_start {sent} m shape e =
    record {
      passed = omega arith;
      heard = rw e fresh-received;
      begun = λ below. refl;
      ended = λ none. absurd (omega (arith, shape_length shape));
    }

-- After the last byte.
pub hearing_end : {sent m₀ m : List ℕ} {i : ℕ} {received : Received} → Hearing sent i m₀ m received → length sent ≤ i →
    Delivers (drop 4 sent) 1 m₀ m received
hearing_end h all = h.ended (omega arith)

-- With 212 bytes of memory.
module _ {sent m₀ m : List ℕ} {i : ℕ} {received : Received} (shape : WakeUpFrame sent) (roomy : 212 ≤ length m₀) (h : Hearing sent i m₀ m received) where
  -- The call with the next byte.
  pub hearing_next : {left : List ℕ} {returned : Received} → i < length sent →
      outcome returned left ≡ called (byte (get_or sent i 0)) received.receiver m → Hearing sent (i + 1) m₀ left returned
  hearing_next {left} {returned} below e =
      let same : m ≡ m₀ = h.begun below in
      let e₀ : outcome returned left ≡ called (byte (get_or sent i 0)) received.receiver m₀ = rw same at e in
      record {
        passed = omega arith;
        heard = next-heard shape i below m₀ roomy h.heard e₀;
        begun = λ more. (next-nothing shape i below m₀ roomy h.heard e₀ more).memory;
        ended = λ last. last-delivers shape i below m₀ roomy h.heard e₀ last;
      }

  -- The memory keeps its length.
  pub hearing_length : length m ≡ length m₀
  hearing_length = elim (dec_lt i (length sent)) [ yes below ↦ ap length (h.begun below) | no all ↦ after (hearing_end h (omega arith)) ]
    where
      after : Delivers (drop 4 sent) 1 m₀ m received → length m ≡ length m₀
      after last = ap length last.memory ∙ over-length (drop 4 sent) m₀ (omega (arith, frame-most shape.frame))
