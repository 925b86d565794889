-- What a step of reading a recorded line answers, and what it leaves.
use Rattle.std.specs.Prelude.{ℕ, ◌+◌, List, Bool, length, take, leb, Err, Result}
use Rattle.frame.specs.declared.refusal.Refusal.{Refusal}
use Rattle.frame.specs.declared.refusal.Refusal.TheVariants.{ShortMemory}
use Rattle.recording.specs.Answer.{step_gives}
use Rattle.recording.specs.declared.StepRead.{StepRead}
use Rattle.laws.specs.Memory.{over}
use Rattle.laws.specs.Test.{pick}
use Rattle.line_terms.specs.Places.{joined}
use Rattle.line_terms.specs.Scan.{LineReading}
use Rattle.line_block.specs.Block.{block_reading}

-- An answer together with the line's buffer and the memory lent for the frames, as they stand when the call returns.
pub record StepOutcome : Type 0 where
  pub answer : Result StepRead Refusal
  pub buffer : List ℕ
  pub memory : List ℕ

abbrev pub step_outcome : Result StepRead Refusal → List ℕ → List ℕ → StepOutcome
step_outcome answer buffer m = record { answer = answer; buffer = buffer; memory = m }

-- What so many bytes kept and so many read behind them read as; where the line has ended with them, with a silence behind them.
abbrev pub step_reading : ℕ → ℕ → Bool → List ℕ → LineReading
step_reading kept read ended buffer = block_reading (take (kept + read) buffer) ended

-- The frames of a reading are delivered, end to end and counted, and what it keeps stands over the front of the buffer.
unfoldable pub stepped : LineReading → List ℕ → List ℕ → StepOutcome
stepped d buffer m =
    step_outcome (step_gives (length (joined d.frames)) (length d.frames) (length d.kept)) (over d.kept buffer)
    (over (joined d.frames) m)

-- The outcome of a step over so many bytes kept and so many read behind them: 1 for a buffer shorter than these bytes, then for memory
-- shorter than they, and all as before; else what they read as is delivered and kept.
unfoldable pub step_read : ℕ → ℕ → Bool → List ℕ → List ℕ → StepOutcome
step_read kept read ended buffer m =
    pick (leb (kept + read) (length buffer))
    (pick (leb (kept + read) (length m))
    (stepped (step_reading kept read ended buffer) buffer m)
    (step_outcome (Err ShortMemory) buffer m))
    (step_outcome (Err ShortMemory) buffer m)
