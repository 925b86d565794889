-- What is left where kept bytes that begin no frame are read anew.
use Rattle.std.specs.Prelude.{ℕ, ◌≡◌, List, length}
use Rattle.laws.specs.Memory.{over}
use Rattle.line_terms.specs.Places.{joined}
use Rattle.line_terms.specs.Scan.{LineReading}
use Rattle.line.specs.declared.drain.Rescanned.{Rescanned}

-- What is done with kept bytes, where this is their reading: its frames are delivered and counted, and what it keeps stands over the front
-- of the array.
pub record Rescans (reading : LineReading) (kept₀ kept m₀ m : List ℕ) (r : Rescanned) : Type 0 where
  pub rest : kept ≡ over reading.kept kept₀
  pub count : r.count ≡ length reading.kept
  pub memory : m ≡ over (joined reading.frames) m₀
  pub bytes : r.bytes ≡ length (joined reading.frames)
  pub frames : r.frames ≡ length reading.frames
