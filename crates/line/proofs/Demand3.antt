-- Demand 3 of the letter: the receiver hears the line neither early nor late. One theorem over every list of calls from a fresh receiver.
use Rattle.std.specs.Prelude.{ℕ, ◌≤◌, ◌<◌, ◌≡◌, ◌↔◌, List, [], ◌∷◌, ◌++◌, length, take, Err, Result, Ok}
use Rattle.frame.specs.declared.refusal.Refusal.{Refusal}
use Rattle.frame.specs.declared.refusal.Refusal.TheVariants.{ShortMemory}
use Rattle.line.specs.Answer.{handed}
use Rattle.line.specs.declared.Delivered.{Delivered}
use Rattle.std.proofs.Common.{arith, sym, subst}
use Rattle.std.proofs.Math.Seq.{take-append_seam}
use Rattle.laws.specs.Memory.{outcome, over, LeftAlone}
use Rattle.line_terms.specs.Line.{Symbol, Certain, Newly}
use Rattle.line_terms.proofs.OneChoice.{OneChoice, one_choice}
use Rattle.line_terms.specs.Rest.{RestOf}
use Rattle.line_terms.proofs.RestLaws.{scan-rest}
use Rattle.line_terms.specs.Places.{joined, Exactly}
use Rattle.line_terms.specs.Scan.{scan}
use Rattle.line_terms.proofs.ScanCertain.{certain-frames}
use Rattle.line_terms.proofs.NewFrames.{newly_found}
use Rattle.line.proofs.CallLaws.{new_frames, HasReceived, received-most, fresh-received, Answers, ignores, delivers, answers, After, after_none, after_then, after_one}
use Rattle.laws.specs.Said.{IsRefusal}
use Rattle.line.proofs.Said.{receiver_said}
use Rattle.line.specs.Receiver.{fresh, kept_bytes, called}
use Rattle.line.specs.declared.Receiver.{Receiver}
use Rattle.line.specs.declared.Received.{Received}

-- A call: the symbol that it brought, the memory lent to it, what it returned, and that memory as it stood then.
pub record ReceiverCall : Type 0 where
  pub symbol : Symbol
  pub lent : List ℕ
  pub returned : Received
  pub left : List ℕ

-- The receiver after a list of calls.
abbrev pub receiver_after : Receiver → List ReceiverCall → Receiver
receiver_after r [] = r
receiver_after r (c ∷ cs) = receiver_after c.returned.receiver cs

-- Of each call, what its `ensures` says, given the receiver that the last one returned.
abbrev pub Calls : Receiver → List ReceiverCall → Type 0
Calls r [] = Unit
Calls r (c ∷ cs) = (outcome c.returned c.left ≡ called c.symbol r c.lent) × Calls c.returned.receiver cs

-- What an answer adds to the line heard: the symbol, unless the call was refused.
abbrev pub received_by : Result Delivered Refusal → Symbol → List Symbol
received_by (Err n) s = []
received_by (Ok d) s = s ∷ []

-- Document 01's line heard: the symbols of all calls not refused.
abbrev pub heard : List ReceiverCall → List Symbol
heard [] = []
heard (c ∷ cs) = received_by c.returned.answer c.symbol ++ heard cs

-- What a call hands on: as many bytes as it says, from the front of its memory as it stands on return; nothing if refused.
abbrev pub delivered_by : Result Delivered Refusal → List ℕ → List ℕ
delivered_by (Err n) left = []
delivered_by (Ok d) left = take d.bytes left

-- All that was handed on, joined.
abbrev pub delivered_bytes : List ReceiverCall → List ℕ
delivered_bytes [] = []
delivered_bytes (c ∷ cs) = delivered_by c.returned.answer c.left ++ delivered_bytes cs

-- A call lent under 212 bytes is refused with 1, and nothing changed.
pub record Ignored (r : Receiver) (c : ReceiverCall) : Type 0 where
  pub answer : c.returned.answer ≡ Err ShortMemory
  pub receiver : LeftAlone r c.returned.receiver
  pub memory : LeftAlone c.lent c.left

-- Any other call gives the numbers of bytes and frames of the frames that became certain with its symbol; they stand end to end at the front
-- of the memory lent, which is as it was beyond them.
pub record Counted (line : List Symbol) (c : ReceiverCall) : Type 1 where
  pub new : Exactly (Newly line (c.symbol ∷ []))
  pub answer : c.returned.answer ≡ handed (length (joined new.frames)) (length new.frames)
  pub memory : c.left ≡ over (joined new.frames) c.lent

-- What holds of a call, by the line heard before it and the receiver given to it.
pub record CallIsRight (line : List Symbol) (r : Receiver) (c : ReceiverCall) : Type 1 where
  pub refused : IsRefusal (receiver_said c.returned.answer) ↔ (length c.lent < 212)
  pub short : length c.lent < 212 → Ignored r c
  pub enough : 212 ≤ length c.lent → Counted line c

-- What holds of a list of calls from a fresh receiver.
pub record ReceivesTheLine (calls : List ReceiverCall) : Type 1 where
  -- exactly one choice of taken frames keeps document 01's rule in the line heard
  pub one : OneChoice (heard calls)
  -- each call of the list
  pub each : (earlier : List ReceiverCall) (c : ReceiverCall) (later : List ReceiverCall) → calls ≡ earlier ++ (c ∷ later) →
      CallIsRight (heard earlier) (receiver_after fresh earlier) c
  -- the frames certain after the line heard, and that all that was handed on, joined, is their bytes joined
  pub certain : Exactly (Certain (heard calls))
  pub delivered : delivered_bytes calls ≡ joined certain.frames
  -- what is kept are the bytes of the line heard from the first place on that may still become a frame and that no taken frame covers, at
  -- most 211
  pub kept : RestOf (heard calls) (kept_bytes (receiver_after fresh calls))
  pub most : (receiver_after fresh calls).count ≤ 211

-- What a call answers, by the line that the receiver given to it has heard.
abbrev AnswersOf : List Symbol → Receiver → ReceiverCall → Type 0
AnswersOf line r c = Answers line c.symbol r c.lent c.returned c.left

-- A call that answers so is right.
call-right : {line : List Symbol} {r : Receiver} {c : ReceiverCall} → AnswersOf line r c → CallIsRight line r c
call-right (ignores l a e m) =
    record {
      refused = (λ w. l, λ h. rw a tt);
      short = λ h. record { answer = a; receiver = e; memory = m };
      enough = λ h. absurd (omega arith);
    }
call-right {line} {c = c} (delivers l a e m) =
    record {
      refused = (λ w. absurd (rw a at w), λ h. absurd (omega arith));
      short = λ h. absurd (omega arith);
      enough = λ h. record { new = newly_found line (c.symbol ∷ []); answer = a; memory = m };
    }

-- After a call, and after a list of calls, the receiver has heard what they heard, and what was found with it was handed on.
call-after : {line : List Symbol} {r : Receiver} {c : ReceiverCall} → HasReceived line r → AnswersOf line r c →
    After line (received_by c.returned.answer c.symbol) (delivered_by c.returned.answer c.left) c.returned.receiver
call-after h (ignores l a e m) = rw (a, e) (after_none h)
call-after {line} {c = c} h (delivers l a e m) =
    rw (a, m, take-append_seam (joined (new_frames line c.symbol)) _) (after_one e)

calls_after : {line : List Symbol} {r : Receiver} (calls : List ReceiverCall) → HasReceived line r → Calls r calls →
    After line (heard calls) (delivered_bytes calls) (receiver_after r calls)
calls_after [] h k = after_none h
calls_after (c ∷ cs) h k =
    let a = call-after {c = c} h (answers h k.0) in
    after_then a (calls_after cs a.heard k.1)

-- Of calls joined, the first are calls, and the others are calls of the receiver that the first return.
calls_split : (r : Receiver) (earlier later : List ReceiverCall) → Calls r (earlier ++ later) →
    Calls r earlier × Calls (receiver_after r earlier) later
calls_split r [] later k = (tt, k)
calls_split r (c ∷ cs) later k = let s = calls_split c.returned.receiver cs later k.1 in ((k.0, s.0), s.1)

-- Demand 3.
pub demand_3 : (calls : List ReceiverCall) → Calls fresh calls → ReceivesTheLine calls
unfolding scan joined
demand_3 calls h =
    let after : After [] (heard calls) (delivered_bytes calls) (receiver_after fresh calls) = calls_after calls fresh-received h in
    record {
      one = one_choice (heard calls);
      each = λ earlier c later e.
          let s = calls_split fresh earlier (c ∷ later) (subst (Calls fresh) e h) in
          call-right (answers (calls_after earlier fresh-received s.0).heard s.1.0);
      certain = certain-frames (heard calls);
      delivered = sym after.frames;
      kept = rw after.heard.bytes (scan-rest (heard calls));
      most = received-most after.heard;
    }
