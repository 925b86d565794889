-- What the papers say of the answers of a step, when it is refused, and that buffer and memory are then as they were.
use Rattle.std.specs.Prelude.{ℕ, ◌+◌, ◌≤◌, ◌<◌, List, [], ◌∷◌, Bool, ◌⊎◌, length, leb, Err, Result, Ok}
use Rattle.frame.specs.Refusals.{number_of}
use Rattle.frame.specs.declared.refusal.Refusal.{Refusal}
use Rattle.recording.specs.declared.StepRead.{StepRead}
use Rattle.std.proofs.Common.{inl, inr, arith, leb-true, leb-false}
use Rattle.laws.specs.Said.{Said, values, refusal, Refuses, refuses, answers}
use Rattle.laws.specs.TestLaws.{pick_cases}
use Rattle.recording.specs.Step.{StepOutcome, stepped, step_read}

-- How many bytes and frames, and how many bytes are kept; or a refusal.
abbrev pub step_said : Result StepRead Refusal → Said
step_said (Err n) = refusal (number_of n)
step_said (Ok read) = values (read.bytes ∷ read.frames ∷ read.kept ∷ [])

pub step-refuses : (kept read : ℕ) (ended : Bool) (buffer m : List ℕ)
    → let o = step_read kept read ended buffer m in
    Refuses {S = List ℕ × List ℕ} (step_said o.answer) ((length buffer < kept + read) ⊎ (length m < kept + read)) (buffer, m) (o.buffer, o.memory)
unfolding step_read stepped
step-refuses kept read ended buffer m =
    pick_cases P (leb (kept + read) (length buffer))
    (λ within. pick_cases P (leb (kept + read) (length m)) (λ room. answers (λ r. r) (can (leb-true _ _ within) (leb-true _ _ room)))
    (λ short. refuses (inr (leb-false _ _ short)) tt))
    (λ beyond. refuses (inl (leb-false _ _ beyond)) tt)
  where
    Short : Type 0
    Short = (length buffer < kept + read) ⊎ (length m < kept + read)

    P : StepOutcome → Type 0
    P o = Refuses {S = List ℕ × List ℕ} (step_said o.answer) Short (buffer, m) (o.buffer, o.memory)

    can : kept + read ≤ length buffer → kept + read ≤ length m → Short → ⊥
    can within room (inl beyond) = omega arith
    can within room (inr short) = omega arith
