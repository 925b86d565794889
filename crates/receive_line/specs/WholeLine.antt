-- What a whole recorded line comes to, its end taken as a silence.
use Rattle.std.specs.Prelude.{ℕ, ◌-◌, ◌^◌, List, [], ◌∷◌, ◌++◌, map, length, leb}
use Rattle.laws.specs.Memory.{Outcome, outcome, over}
use Rattle.laws.specs.Test.{pick}
use Rattle.line_terms.specs.Line.{byte, silence}
use Rattle.line_terms.specs.Places.{joined}
use Rattle.line_terms.specs.Scan.{scan}

-- The frames of the bytes with a silence behind them, joined.
unfoldable pub frames_in : List ℕ → List ℕ
frames_in input = joined (scan 0 0 (map byte input ++ (silence ∷ []))).frames

-- Memory shorter than the input: the largest number, and nothing written. Else how many bytes the frames have, and they over the front.
unfoldable pub received_line : List ℕ → List ℕ → Outcome ℕ
received_line input m =
    pick (leb (length input) (length m)) (outcome (length (frames_in input)) (over (frames_in input) m)) (outcome (2 ^ 64 - 1) m)
