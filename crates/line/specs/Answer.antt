-- A call of the receiver that hands on so many bytes of so many frames.
use Rattle.std.specs.Prelude.{ℕ, Result, Ok}
use Rattle.frame.specs.declared.refusal.Refusal.{Refusal}
use Rattle.line.specs.declared.Delivered.{Delivered}

abbrev pub handed : ℕ → ℕ → Result Delivered Refusal
handed bytes frames = Ok (record { bytes = bytes; frames = frames })
