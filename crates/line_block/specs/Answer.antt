-- The reading of a block that gives so many bytes of so many frames, with the place of the rest.
use Rattle.std.specs.Prelude.{ℕ, Result, Ok}
use Rattle.frame.specs.declared.refusal.Refusal.{Refusal}
use Rattle.line_block.specs.declared.BlockRead.{BlockRead}

abbrev pub block_gives : ℕ → ℕ → ℕ → Result BlockRead Refusal
block_gives bytes frames rest = Ok (record { bytes = bytes; frames = frames; rest = rest })
