-- What reading a block of a recorded line answers, and what it leaves.
use Rattle.std.specs.Prelude.{ℕ, ◌-◌, List, Bool, length, leb, Err, Result}
use Rattle.frame.specs.declared.refusal.Refusal.{Refusal}
use Rattle.frame.specs.declared.refusal.Refusal.TheVariants.{ShortMemory}
use Rattle.line_block.specs.Answer.{block_gives}
use Rattle.line_block.specs.declared.BlockRead.{BlockRead}
use Rattle.laws.specs.Memory.{Outcome, outcome, over}
use Rattle.laws.specs.Test.{pick}
use Rattle.line_terms.specs.Places.{joined}
use Rattle.line_terms.specs.Scan.{LineReading}
use Rattle.line_block.specs.Drain.{reading_from}

-- What the bytes of a block read as; where the line has ended with them, with a silence behind them.
unfoldable pub block_reading : List ℕ → Bool → LineReading
block_reading block ended = reading_from 0 block ended

-- The frames of a reading of so many bytes are delivered, end to end and counted; the rest that it keeps are the last of the bytes.
unfoldable pub delivered : LineReading → ℕ → List ℕ → Outcome (Result BlockRead Refusal)
delivered d size m =
    outcome (block_gives (length (joined d.frames)) (length d.frames) (size - length d.kept)) (over (joined d.frames) m)

-- The outcome of reading a block: 1 for memory shorter than the block, and nothing written; else its frames are delivered.
unfoldable pub block_read : List ℕ → Bool → List ℕ → Outcome (Result BlockRead Refusal)
block_read block ended m =
    pick (leb (length block) (length m)) (delivered (block_reading block ended) (length block) m) (outcome (Err ShortMemory) m)
