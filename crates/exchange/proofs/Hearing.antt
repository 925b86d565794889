-- A request heard byte by byte by a fresh receiver: exactly one frame is delivered, with the request's last byte and not before.
use Rattle.std.specs.Prelude.{ℕ, suc, ◌+◌, ◌≤◌, ◌<◌, ◌≡◌, refl, List, [], ◌∷◌, ◌++◌, map, length, take, drop, get_or}
use Rattle.std.proofs.Common.{add-one, arith, ap, length-drop, drop-cons}
use Rattle.frame.specs.Frame.{Frame}
use Rattle.laws.specs.Memory.{outcome}
use Rattle.line_terms.specs.Line.{byte}
use Rattle.line.specs.Receiver.{fresh, called}
use Rattle.line.proofs.CallLaws.{HasReceived, fresh-received}
use Rattle.line.proofs.DeliversLaws.{Delivers}
use Rattle.line.proofs.Demand3.{ReceiverCall, Calls}
use Rattle.line.specs.declared.Receiver.{Receiver}
use Rattle.reader.specs.Building.{wake_up}
use Rattle.exchange.specs.Exchange.{WakeUpFrame}
use Rattle.exchange.proofs.HearingLaws.{next-heard, next-nothing, last-delivers}

-- Calls that bring these bytes, each with at least 212 bytes of memory.
abbrev pub Brings : List ℕ → List ReceiverCall → Type 0
Brings [] [] = Unit
Brings [] (c ∷ calls) = ⊥
Brings (b ∷ bytes) [] = ⊥
Brings (b ∷ bytes) (c ∷ calls) = (c.symbol ≡ byte b) × (212 ≤ length c.lent) × Brings bytes calls

-- A call that delivers these bytes, of so many frames; beyond them the memory is as it was.
abbrev pub DeliversBy : List ℕ → ℕ → ReceiverCall → Type 0
DeliversBy bytes frames c = Delivers bytes frames c.lent c.left c.returned

-- Nothing with any call but the last, and the frame with the last.
abbrev pub DeliveredLast : List ℕ → List ReceiverCall → Type 0
DeliveredLast frame [] = ⊥
DeliveredLast frame (c ∷ []) = DeliversBy frame 1 c
DeliveredLast frame (c ∷ d ∷ calls) = DeliversBy [] 0 c × DeliveredLast frame (d ∷ calls)

-- There are as many calls as bytes.
brings-length : (bytes : List ℕ) (calls : List ReceiverCall) → Brings bytes calls → length bytes ≡ length calls
brings-length [] [] b = refl
brings-length [] (c ∷ calls) b = absurd b
brings-length (x ∷ bytes) [] b = absurd b
brings-length (x ∷ bytes) (c ∷ calls) b = ap suc (brings-length bytes calls b.2)

-- The first of the calls that bring the bytes from place i on brings the byte there, and the others bring those behind it.
brings-first : (sent : List ℕ) (i : ℕ) → i < length sent → (c : ReceiverCall) (calls : List ReceiverCall) → Brings (drop i sent) (c ∷ calls)
    → (c.symbol ≡ byte (get_or sent i 0)) × (212 ≤ length c.lent) × Brings (drop (i + 1) sent) calls
brings-first sent i below c calls brings = rw add-one (rw (drop-cons sent i 0) at brings)

-- The calls from place i on, of a receiver that has heard the bytes before it.
delivered-from : {sent : List ℕ} {r : Receiver} → WakeUpFrame sent → (i : ℕ) → i < length sent → HasReceived (map byte (take i sent)) r → (calls : List ReceiverCall)
    → Brings (drop i sent) calls → Calls r calls → DeliveredLast (drop 4 sent) calls
delivered-from {sent} shape i below h [] brings right =
    absurd (omega (arith, length-drop i sent, brings-length (drop i sent) [] brings))
delivered-from {sent} shape i below h (c ∷ []) brings right =
    let (same, roomy, rest) = brings-first sent i below c [] brings in
    let last : i + 1 ≡ length sent = omega (arith, length-drop (i + 1) sent, brings-length (drop (i + 1) sent) [] rest) in
    last-delivers shape i below c.lent roomy h (rw same at right.0) last
delivered-from {sent} {r} shape i below h (c ∷ d ∷ later) brings right =
    let (same, roomy, rest) = brings-first sent i below c (d ∷ later) brings in
    let e : outcome c.returned c.left ≡ called (byte (get_or sent i 0)) r c.lent = rw same at right.0 in
    let more : i + 1 < length sent = omega (arith, length-drop (i + 1) sent, brings-length (drop (i + 1) sent) (d ∷ later) rest) in (
      next-nothing shape i below c.lent roomy h e more,
      delivered-from shape (i + 1) more (next-heard shape i below c.lent roomy h e) (d ∷ later) rest right.1,
    )

pub delivered-last : (frame : List ℕ) → Frame frame → (calls : List ReceiverCall) → Brings (wake_up ++ frame) calls → Calls fresh calls → DeliveredLast frame calls
delivered-last frame whole calls brings right =
    delivered-from {sent = wake_up ++ frame} (record { waking = refl; frame = whole }) 0 (omega arith) fresh-received calls brings right
