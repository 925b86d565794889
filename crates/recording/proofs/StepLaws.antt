-- What each way out of a step comes to: a buffer that is too short, a reading that is refused, and a reading whose rest is moved to the front;
-- and what an answer says of the step.
use Rattle.std.specs.Prelude.{ℕ, ◌+◌, ◌-◌, ◌≤◌, ◌<◌, ◌≡◌, ◌⊎◌, Bool, take, leb, Err, Result}
use Rattle.frame.specs.declared.refusal.Refusal.{Refusal}
use Rattle.frame.specs.declared.refusal.Refusal.TheVariants.{ShortMemory}
use Rattle.line_block.specs.Answer.{block_gives}
use Rattle.recording.specs.Answer.{step_gives}
use Rattle.recording.specs.declared.StepRead.{StepRead}
use Rattle.std.proofs.Common.{arith, ◌∙◌, inl, inr, length-drop, length-take-le}
use Rattle.std.proofs.Math.Path.{ap, sym}
use mathlib.Core.List.{List}
use Rattle.std.proofs.Math.ListN.{length}
use borrow.Author.Tests.{le-leb, lt-leb, leb-true, leb-false}
use Rattle.slice_bytes.specs.Place.{slice}
use Rattle.laws.specs.Memory.{outcome, over}
use Rattle.laws.specs.TestLaws.{pick_cases}
use Rattle.line_terms.specs.Places.{joined}
use Rattle.line_block.specs.Block.{block_reading, block_read}
use Rattle.line_block.proofs.BlockLaws.{BlockDelivers, read-declines, read-delivers}
use Rattle.line_block.proofs.RestLaws.{rest-there}
use Rattle.recording.specs.Step.{StepOutcome, step_outcome, step_reading, stepped, step_read}

module _ (kept read : ℕ) (ended : Bool) (buffer m : List ℕ) where
  pub step-beyond : length buffer < kept + read → step_outcome (Err ShortMemory) buffer m ≡ step_read kept read ended buffer m
  unfolding step_read
  step-beyond h = rw (lt-leb _ _ h)

  module _ (fits : kept + read ≤ length buffer) where
    -- The block has as many bytes.
    size : length (take (kept + read) buffer) ≡ kept + read
    size = length-take-le (kept + read) buffer fits

    -- What the reading keeps.
    abbrev kept_bytes : List ℕ
    kept_bytes = (block_reading (take (kept + read) buffer) ended).kept

    pub step-refused : {m₁ : List ℕ} {n : Refusal} → outcome (Err n) m₁ ≡ block_read (take (kept + read) buffer) ended m →
        step_outcome (Err n) buffer m₁ ≡ step_read kept read ended buffer m
    unfolding step_read
    step-refused {m₁} {n} e =
        let d = read-declines (take (kept + read) buffer) ended m m₁ n e in
        let short : length m < kept + read = omega (arith, d.short, size) in
        rw (le-leb _ _ fits, lt-leb _ _ short, d.number, d.memory)

    -- Where the reading is not refused.
    module _ {m₁ : List ℕ} {bytes frames rest : ℕ}
        (e : outcome (block_gives bytes frames rest) m₁ ≡ block_read (take (kept + read) buffer) ended m) where
      has_read : BlockDelivers (take (kept + read) buffer) ended m m₁ bytes frames rest
      has_read = read-delivers (take (kept + read) buffer) ended m m₁ bytes frames rest e

      -- The rest lies within the block.
      pub step-rest : rest ≤ kept + read
      step-rest = omega (arith, has_read.place, size)

      -- What is moved is what the reading keeps, and as many bytes.
      moved : slice rest (kept + read) buffer ≡ kept_bytes
      unfolding slice
      moved = rw has_read.place (rest-there (take (kept + read) buffer) ended)

      many : kept + read - rest ≡ length kept_bytes
      unfolding slice
      many =
          sym (ap (λ (n : ℕ). n - rest) size) ∙ sym (length-drop rest (take (kept + read) buffer)) ∙ ap length moved

      pub step-delivers : {buffer₁ : List ℕ} → buffer₁ ≡ over (slice rest (kept + read) buffer) buffer →
          step_outcome (step_gives bytes frames (kept + read - rest)) buffer₁ m₁ ≡ step_read kept read ended buffer m
      unfolding step_read stepped
      step-delivers {buffer₁} w =
          let room : kept + read ≤ length m = omega (arith, has_read.roomy, size) in
          let front : buffer₁ ≡ over kept_bytes buffer = w ∙ ap (λ (l : List ℕ). over l buffer) moved in
          rw (le-leb _ _ fits, le-leb _ _ room)
          (cc (has_read.memory, has_read.size, has_read.count, many, front))

-- What a step comes to: refused with 1, for one of two reasons, and all as before; else what its bytes read as is delivered and kept.
pub data Stepping (kept read : ℕ) (ended : Bool) (buffer m : List ℕ) (answer : Result StepRead Refusal) (buffer₁ m₁ : List ℕ) : Type 0 where
  ignores : (length buffer < kept + read) ⊎ (length m < kept + read) → answer ≡ Err ShortMemory → buffer₁ ≡ buffer → m₁ ≡ m →
      Stepping kept read ended buffer m answer buffer₁ m₁
  delivers : kept + read ≤ length buffer → kept + read ≤ length m →
      answer ≡ step_gives (length (joined (step_reading kept read ended buffer).frames)) (length (step_reading kept read ended buffer).frames) (length (step_reading kept read ended buffer).kept) →
      buffer₁ ≡ over (step_reading kept read ended buffer).kept buffer → m₁ ≡ over (joined (step_reading kept read ended buffer).frames) m →
      Stepping kept read ended buffer m answer buffer₁ m₁

pub stepping : {kept read : ℕ} {ended : Bool} {buffer m buffer₁ m₁ : List ℕ} {answer : Result StepRead Refusal} →
    step_outcome answer buffer₁ m₁ ≡ step_read kept read ended buffer m → Stepping kept read ended buffer m answer buffer₁ m₁
unfolding step_read stepped
stepping {kept} {read} {ended} {buffer} {m} {buffer₁} {m₁} {answer} =
    pick_cases P (leb (kept + read) (length buffer))
    (λ b. pick_cases P (leb (kept + read) (length m)) (λ w e. good (leb-true _ _ b) (leb-true _ _ w) e) (λ w e. bad (inr (leb-false _ _ w)) e))
    (λ b e. bad (inl (leb-false _ _ b)) e)
  where
    P : StepOutcome → Type 0
    P o = step_outcome answer buffer₁ m₁ ≡ o → Stepping kept read ended buffer m answer buffer₁ m₁

    good : kept + read ≤ length buffer → kept + read ≤ length m → P (stepped (step_reading kept read ended buffer) buffer m)
    good b w e =
        delivers b w (ap (λ (o : StepOutcome). o.answer) e) (ap (λ (o : StepOutcome). o.buffer) e) (ap (λ (o : StepOutcome). o.memory) e)

    bad : (length buffer < kept + read) ⊎ (length m < kept + read) → P (step_outcome (Err ShortMemory) buffer m)
    bad w e =
        ignores w (ap (λ (o : StepOutcome). o.answer) e) (ap (λ (o : StepOutcome). o.buffer) e) (ap (λ (o : StepOutcome). o.memory) e)
