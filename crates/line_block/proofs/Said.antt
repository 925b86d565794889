-- What the papers say of the answers to the reading of a block, when it is refused, and that the memory is then as it was.
use Rattle.std.specs.Prelude.{ℕ, ◌<◌, List, [], ◌∷◌, Bool, length, leb, Err, Ok, Result}
use Rattle.frame.specs.Refusals.{number_of}
use Rattle.frame.specs.declared.refusal.Refusal.{Refusal}
use Rattle.line_block.specs.declared.BlockRead.{BlockRead}
use Rattle.std.proofs.Common.{arith, leb-true, leb-false}
use Rattle.laws.specs.Memory.{Outcome}
use Rattle.laws.specs.Said.{Said, values, refusal, Refuses, refuses, answers}
use Rattle.laws.specs.TestLaws.{pick_cases}
use Rattle.line_block.specs.Block.{delivered, block_read}

-- How many bytes and frames, and where the rest begins; or a refusal.
abbrev pub block_said : Result BlockRead Refusal → Said
block_said (Err n) = refusal (number_of n)
block_said (Ok read) = values (read.bytes ∷ read.frames ∷ read.rest ∷ [])

pub block-refuses : (block : List ℕ) (ended : Bool) (m : List ℕ)
    → let o = block_read block ended m in Refuses (block_said o.answer) (length m < length block) m o.memory
unfolding block_read delivered
block-refuses block ended m =
    pick_cases (λ (o : Outcome (Result BlockRead Refusal)). Refuses (block_said o.answer) (length m < length block) m o.memory) (leb (length block) (length m))
    (λ room. answers (λ r. r) (λ short. omega (arith, leb-true (length block) (length m) room)))
    (λ short. refuses (leb-false _ _ short) tt)
