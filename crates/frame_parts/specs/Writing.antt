-- What the writing of a frame answers, and what it leaves in the output buffer.
use Rattle.std.specs.Prelude.{ℕ, ◌+◌, List, length, nat_le, Err, Ok, Result}
use Rattle.frame_parts.specs.declared.WriteError.{WriteError}
use Rattle.frame_parts.specs.declared.WriteError.TheVariants.{TooLittleMemory, TooMuchData}
use Rattle.laws.specs.Memory.{Outcome, outcome, over}
use Rattle.laws.specs.Part.{part}
use Rattle.laws.specs.Test.{pick}
use Rattle.frame.specs.Frame.{frame_for}

-- More than 200 data bytes, or too little memory: nothing is written. Else the frame, over the front of the memory.
unfoldable pub writing : List ℕ → ℕ → List ℕ → List ℕ → Outcome (Result ℕ WriteError)
writing address control payload m =
    pick (nat_le (length payload) 200)
    (pick (nat_le (12 + length payload) (length m))
    (outcome (Ok (12 + length payload)) (over (frame_for address control payload) m))
    (outcome (Err TooLittleMemory) m))
    (outcome (Err TooMuchData) m)

-- What the writing of a frame in place answers and leaves: the same, of the `count` data bytes that stand, unmasked, from byte 10 on.
unfoldable pub writing_in_place : List ℕ → ℕ → ℕ → List ℕ → Outcome (Result ℕ WriteError)
writing_in_place address control count m =
    pick (nat_le count 200)
    (pick (nat_le (12 + count) (length m))
    (outcome (Ok (12 + count)) (over (frame_for address control (part 10 count m)) m))
    (outcome (Err TooLittleMemory) m))
    (outcome (Err TooMuchData) m)
