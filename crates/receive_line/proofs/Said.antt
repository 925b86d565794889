-- What the papers say of the number that a whole line is answered with, when it is refused, and that the memory is then as it was.
use Rattle.std.specs.Prelude.{ℕ, ◌-◌, ◌^◌, ◌<◌, List, [], ◌∷◌, ◌++◌, map, length, leb, eqb}
use Rattle.frame.specs.Refusals.{number_of}
use Rattle.frame.specs.declared.refusal.Refusal.TheVariants.{ShortMemory}
use Rattle.std.proofs.Common.{arith, leb-true, leb-false, eqb-true}
use Rattle.laws.specs.Memory.{Outcome}
use Rattle.laws.specs.Said.{Said, values, refusal, IsRefusal, Refuses, refuses, answers}
use Rattle.laws.specs.Test.{pick}
use Rattle.laws.specs.TestLaws.{pick_cases}
use Rattle.line_terms.specs.Line.{byte, silence}
use Rattle.line_terms.proofs.FramesFew.{bytes_in_closed, frames-few}
use Rattle.receive_line.specs.WholeLine.{frames_in, received_line}

-- The largest number is too little memory, 1; any other is how many bytes the frames have.
abbrev pub line_said : ℕ → Said
line_said n = pick (eqb n (2 ^ 64 - 1)) (refusal (number_of ShortMemory)) (values (n ∷ []))

-- A number below the largest is no refusal.
no_refusal : (n : ℕ) → n < 2 ^ 64 - 1 → IsRefusal (line_said n) → ⊥
no_refusal n below = pick_cases (λ said. IsRefusal said → ⊥) (eqb n (2 ^ 64 - 1)) (λ e r. omega (arith, eqb-true n (2 ^ 64 - 1) e)) (λ _ r. r)

-- A line's frames are no longer than the line, so that none shorter than the largest number is answered with it.
pub line-refuses : (input m : List ℕ) → length input < 2 ^ 64 - 1
    → let o = received_line input m in Refuses (line_said o.answer) (length m < length input) m o.memory
unfolding received_line frames_in
line-refuses input m most =
    pick_cases (λ (o : Outcome ℕ). Refuses (line_said o.answer) (length m < length input) m o.memory) (leb (length input) (length m))
    (λ room. answers (no_refusal (length (frames_in input)) (omega (arith, frames-few (map byte input ++ (silence ∷ [])), bytes_in_closed input)))
    (λ short. omega (arith, leb-true (length input) (length m) room)))
    (λ short. refuses (leb-false _ _ short) tt)
