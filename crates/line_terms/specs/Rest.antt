-- Document 01's unfinished frame: what is left of a line for the symbols that come, in the document's terms. Nothing here speaks of a
-- receiver.
use Rattle.std.specs.Prelude.{ℕ, ◌+◌, ◌≤◌, ◌<◌, ◌≡◌, List, map, length, drop}
use Rattle.frame.specs.Frame.{ProperBeginning}
use Rattle.line_terms.specs.Line.{Symbol, byte, Choice, Keeps}

-- A place may still become a frame: the symbols from there on are bytes, with no silence among them, and some bytes more make them a frame.
-- The end of the line is such a place, with no bytes there.
pub record MayBecome (line : List Symbol) (place : ℕ) : Type 0 where
  pub begun : List ℕ
  pub there : drop place line ≡ map byte begun
  pub completes : ProperBeginning begun

-- No taken frame covers the place: what is taken at it or before it ends before it.
abbrev pub CoveredByNone : Choice → ℕ → Type 0
CoveredByNone taken place = (start : ℕ) (frame : List ℕ) → taken start frame → start ≤ place → start + length frame ≤ place

-- The rest of a line: its bytes from the first place on that may still become a frame and that no taken frame covers.
pub record RestOf (line : List Symbol) (kept : List ℕ) : Type 1 where
  pub place : ℕ
  pub there : drop place line ≡ map byte kept
  pub open_place : MayBecome line place
  pub uncovered : (taken : Choice) → Keeps line taken → CoveredByNone taken place
  pub first : (taken : Choice) → Keeps line taken → (earlier : ℕ) → earlier < place → MayBecome line earlier → CoveredByNone taken earlier → ⊥
