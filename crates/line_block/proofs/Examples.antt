-- A worked case that the definitions compute.
use Rattle.std.specs.Prelude.{◌≡◌, refl, false, ◌∷◌, ◌++◌, take, replicate}
use Rattle.line_block.specs.Answer.{block_gives}
use Rattle.laws.specs.Memory.{outcome}
use Rattle.frame.specs.CaseFrames.{case_a}
use Rattle.frame.specs.Frame.{total, checksum_of, length_of}
use Rattle.frame.specs.Recognition.{recognised, recognised_body, recognised_end}
use Rattle.line_terms.specs.Places.{joined}
use Rattle.line_terms.specs.Scan.{scan, reading_by, before, begins, before_silence, broken, bytes_before}
use Rattle.line_block.specs.Drain.{symbols, reading_from}
use Rattle.line_block.specs.Block.{block_reading, delivered, block_read}

-- A, a wake-up byte, and A without its last byte: 16 bytes of one frame, the rest from place 17 on, and the memory behind the frame as it was.
frame-and-rest : block_read (case_a ++ (0xFE ∷ take 15 case_a)) false (replicate 34 7) ≡ outcome (block_gives 16 1 17) (case_a ++ replicate 18 7)
unfolding block_read block_reading delivered reading_from symbols joined scan reading_by before begins before_silence broken bytes_before recognised recognised_body recognised_end checksum_of total length_of
frame-and-rest = refl
