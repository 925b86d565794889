-- What a receiver has heard of a line whose frames are gathered in memory.
use Rattle.std.specs.Prelude.{ℕ, List}
use Rattle.laws.specs.Puts.{Puts}
use Rattle.line_terms.specs.Line.{Symbol}
use Rattle.line_terms.specs.Places.{joined}
use Rattle.line_terms.specs.Scan.{scan}
use Rattle.line.proofs.CallLaws.{HasReceived}
use Rattle.line.specs.declared.Receiver.{Receiver}

-- A receiver has heard the symbols, the frames that it delivered stand over the front of the memory, and `at` is where they end.
pub record Receiving (x : List Symbol) (m₀ m : List ℕ) (r : Receiver) (at : ℕ) : Type 0 where
  pub heard : HasReceived x r
  pub gathered : Puts (joined (scan 0 0 x).frames) at m₀ m
