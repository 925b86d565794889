-- What a whole recorded line comes to, in document 01's terms: with its end taken as a silence, the frames taken in it.
use Rattle.std.specs.Prelude.{ℕ, ◌-◌, ◌^◌, ◌≤◌, ◌<◌, ◌≡◌, true, false, List, map, length, leb}
use Rattle.std.proofs.Common.{arith, ap, leb-true, leb-false}
use Rattle.laws.specs.Memory.{Outcome, outcome, over, LeftAlone}
use Rattle.laws.specs.TestLaws.{pick_cases}
use Rattle.line_terms.specs.Line.{byte, Taken}
use Rattle.line_terms.specs.Places.{joined, Exactly}
use Rattle.line_terms.proofs.Closed.{taken-frames}
use Rattle.receive_line.specs.WholeLine.{frames_in, received_line}

-- Memory shorter than the input: the largest number of 64 bits, and nothing is written.
pub record LineRefused (m left : List ℕ) (answer : ℕ) : Type 0 where
  pub number : answer ≡ 2 ^ 64 - 1
  pub memory : LeftAlone m left

-- Else the frames taken in the input, in rising place, stand end to end over the front of the memory, and the answer is how many bytes they have.
pub record Gathered (input m left : List ℕ) (answer : ℕ) : Type 1 where
  pub taken : Exactly (Taken (map byte input))
  pub number : answer ≡ length (joined taken.frames)
  pub memory : left ≡ over (joined taken.frames) m

pub record LineIsRight (input m left : List ℕ) (answer : ℕ) : Type 1 where
  pub short : length m < length input → LineRefused m left answer
  pub enough : length input ≤ length m → Gathered input m left answer

pub line-words : (input m left : List ℕ) (answer : ℕ) → outcome answer left ≡ received_line input m → LineIsRight input m left answer
unfolding received_line frames_in
line-words input m left answer =
    pick_cases (λ (o : Outcome ℕ). outcome answer left ≡ o → LineIsRight input m left answer) (leb (length input) (length m)) enough short
  where
    enough : leb (length input) (length m) ≡ true → outcome answer left ≡ outcome (length (frames_in input)) (over (frames_in input) m) →
        LineIsRight input m left answer
    enough t e =
        let roomy : length input ≤ length m = leb-true _ _ t in
        record {
          short = λ h. absurd (omega arith);
          enough = λ h.
              record {
                taken = taken-frames (map byte input);
                number = ap (λ (o : Outcome ℕ). o.answer) e;
                memory = ap (λ (o : Outcome ℕ). o.memory) e;
              };
        }

    short : leb (length input) (length m) ≡ false → outcome answer left ≡ outcome (2 ^ 64 - 1) m → LineIsRight input m left answer
    short t e =
        let few : length m < length input = leb-false _ _ t in
        record {
          short = λ h. record { number = ap (λ (o : Outcome ℕ). o.answer) e; memory = ap (λ (o : Outcome ℕ). o.memory) e };
          enough = λ h. absurd (omega arith);
        }
