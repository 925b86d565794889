-- A step that gives so many bytes of so many frames, with how many bytes are kept.
use Rattle.std.specs.Prelude.{ℕ, Result, Ok}
use Rattle.frame.specs.declared.refusal.Refusal.{Refusal}
use Rattle.recording.specs.declared.StepRead.{StepRead}

abbrev pub step_gives : ℕ → ℕ → ℕ → Result StepRead Refusal
step_gives bytes frames kept = Ok (record { bytes = bytes; frames = frames; kept = kept })
