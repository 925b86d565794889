-- The reading of bytes that stand from a place on, up to the end of what was heard or up to a silence.
use Rattle.std.specs.Prelude.{ℕ, List, [], ◌∷◌, ◌++◌, map, Bool, true, false}
use Rattle.line_terms.specs.Line.{Symbol, byte, silence}
use Rattle.line_terms.specs.Places.{Found}
use Rattle.line_terms.specs.Scan.{LineReading, scan}

-- The symbols of bytes, with a silence behind them or nothing.
unfoldable pub symbols : List ℕ → Bool → List Symbol
symbols bytes true = map byte bytes ++ (silence ∷ [])
symbols bytes false = map byte bytes

-- The reading of bytes from a place on.
unfoldable pub reading_from : ℕ → List ℕ → Bool → LineReading
reading_from place bytes closed = scan place 0 (symbols bytes closed)

-- A reading behind frames found before it.
unfoldable pub behind : List Found → LineReading → LineReading
behind found r = record { frames = found ++ r.frames; kept = r.kept }
