-- What the papers say of the answers to the writing of a frame, when it is refused, and that the memory is then as it was.
use Rattle.std.specs.Prelude.{ℕ, ◌+◌, ◌<◌, ◌≤◌, ◌⊎◌, List, [], ◌∷◌, length, nat_le, Err, Ok, Result}
use Rattle.frame.specs.Refusals.{number_of}
use Rattle.frame.specs.declared.refusal.Refusal.TheVariants.{ShortMemory}
use Rattle.frame_parts.specs.declared.WriteError.{WriteError}
use Rattle.frame_parts.specs.declared.WriteError.TheVariants.{TooLittleMemory, TooMuchData}
use Rattle.std.proofs.Common.{inl, inr, arith, leb-true, leb-false}
use Rattle.laws.specs.Memory.{Outcome, outcome, over}
use Rattle.laws.specs.Part.{part}
use Rattle.laws.specs.Said.{Said, values, refusal, unnumbered, Refuses, refuses, answers}
use Rattle.laws.specs.Test.{pick}
use Rattle.laws.specs.TestLaws.{pick_cases}
use Rattle.frame.specs.Frame.{frame_for}
use Rattle.frame_parts.specs.Writing.{writing, writing_in_place}

-- Too little memory is 1. Data of more than 200 bytes have no number: no frame that the papers ask for has them.
abbrev pub written_said : Result ℕ WriteError → Said
written_said (Ok n) = values (n ∷ [])
written_said (Err TooMuchData) = unnumbered
written_said (Err TooLittleMemory) = refusal (number_of ShortMemory)

-- More than 200 data bytes, or memory shorter than the frame.
abbrev pub CannotWrite : ℕ → List ℕ → Type 0
CannotWrite count m = (200 < count) ⊎ (length m < 12 + count)

-- Whatever frame is to be written.
unwritten : (count : ℕ) (frame m : List ℕ)
    → let left = pick (nat_le count 200) (pick (nat_le (12 + count) (length m)) (outcome (Ok (12 + count)) (over frame m)) (outcome (Err TooLittleMemory) m)) (outcome (Err TooMuchData) m) in
    Refuses (written_said left.answer) (CannotWrite count m) m left.memory
unwritten count frame m =
    pick_cases P (nat_le count 200)
    (λ few. pick_cases P (nat_le (12 + count) (length m)) (λ room. answers (λ r. r) (can (leb-true _ _ few) (leb-true _ _ room))) (λ short. refuses (inr (leb-false _ _ short)) tt))
    (λ many. refuses (inl (leb-false _ _ many)) tt)
  where
    P : Outcome (Result ℕ WriteError) → Type 0
    P o = Refuses (written_said o.answer) (CannotWrite count m) m o.memory

    can : count ≤ 200 → 12 + count ≤ length m → CannotWrite count m → ⊥
    can few room (inl many) = omega arith
    can few room (inr short) = omega arith

pub writing-refuses : (address : List ℕ) (control : ℕ) (payload m : List ℕ)
    → let o = writing address control payload m in Refuses (written_said o.answer) (CannotWrite (length payload) m) m o.memory
unfolding writing
writing-refuses address control payload m = unwritten (length payload) (frame_for address control payload) m

pub in_place_refuses : (address : List ℕ) (control count : ℕ) (m : List ℕ)
    → let o = writing_in_place address control count m in Refuses (written_said o.answer) (CannotWrite count m) m o.memory
unfolding writing_in_place
in_place_refuses address control count m = unwritten count (frame_for address control (part 10 count m)) m
