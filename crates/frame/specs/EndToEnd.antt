-- Frames that stand end to end, and bytes cut into frames again where their data lengths say that one ends, all or the next one.
use Rattle.std.specs.Prelude.{ℕ, zero, suc, ◌+◌, List, [], ◌∷◌, ◌++◌, length, take, drop, nat_le}
use Rattle.laws.specs.Test.{pick}
use Rattle.frame.specs.Frame.{Frame, length_of}

-- Bytes that are frames, one behind the other.
pub data EndToEnd : List ℕ → Type 0 where
  none : EndToEnd []
  next : {frame rest : List ℕ} → Frame frame → EndToEnd rest → EndToEnd (frame ++ rest)

-- Frames one behind the other.
unfoldable pub behind_each_other : List (List ℕ) → List ℕ
behind_each_other [] = []
behind_each_other (f ∷ fs) = f ++ behind_each_other fs

-- Bytes cut into frames, the first k of which belong to a frame that is cut off already.
unfoldable pub cut_from : ℕ → List ℕ → List (List ℕ)
cut_from k [] = []
cut_from (suc k) (b ∷ bytes) = cut_from k bytes
cut_from zero (b ∷ bytes) = take (12 + length_of (b ∷ bytes)) (b ∷ bytes) ∷ cut_from (11 + length_of (b ∷ bytes)) bytes

-- Bytes cut into frames.
abbrev pub cut : List ℕ → List (List ℕ)
cut bytes = cut_from 0 bytes

-- The end of the frame that begins at a place, as its data length says it, or of the bytes where they are too few for it.
unfoldable pub next_end : List ℕ → ℕ → ℕ
next_end bytes at =
    pick (nat_le (at + 12 + length_of (drop at bytes)) (length bytes)) (at + 12 + length_of (drop at bytes)) (length bytes)
