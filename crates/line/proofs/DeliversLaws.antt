-- A call that delivers: what it answers and leaves, and that a call of a receiver that has heard a line, with memory enough, delivers.
use Rattle.std.specs.Prelude.{ℕ, ◌≤◌, ◌≡◌, List, [], ◌∷◌, ◌++◌, length}
use Rattle.line.specs.Answer.{handed}
use Rattle.std.proofs.Common.{arith}
use Rattle.laws.specs.Memory.{outcome, over}
use Rattle.line_terms.specs.Line.{Symbol}
use Rattle.line_terms.specs.Places.{joined}
use Rattle.line.specs.Receiver.{called}
use Rattle.line.proofs.CallLaws.{new_frames, HasReceived, Answers, ignores, delivers, answers}
use Rattle.line.specs.declared.Receiver.{Receiver}
use Rattle.line.specs.declared.Received.{Received}

-- A call delivers these bytes, of so many frames: they stand over the front of its memory, and beyond them it is as it was.
pub record Delivers (bytes : List ℕ) (frames : ℕ) (m left : List ℕ) (returned : Received) : Type 0 where
  pub answer : returned.answer ≡ handed (length bytes) frames
  pub memory : left ≡ over bytes m

-- A call of a receiver that has heard a line, with memory enough.
module _ {x : List Symbol} {r : Receiver} {left : List ℕ} {returned : Received} (s : Symbol) (m : List ℕ) (h : HasReceived x r)
    (roomy : 212 ≤ length m) (e : outcome returned left ≡ called s r m) where
  -- The new frames are delivered, and the receiver has heard the symbol too.
  pub call-delivers : Delivers (joined (new_frames x s)) (length (new_frames x s)) m left returned × HasReceived (x ++ (s ∷ [])) returned.receiver
  call-delivers = go (answers h e)
    where
      go : Answers x s r m returned left →
          Delivers (joined (new_frames x s)) (length (new_frames x s)) m left returned × HasReceived (x ++ (s ∷ [])) returned.receiver
      go (ignores few answer same memory) = absurd (omega arith)
      go (delivers enough answer heard memory) = (record { answer = answer; memory = memory }, heard)
