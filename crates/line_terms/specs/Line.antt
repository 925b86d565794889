-- Document 01, "Reading of the line": symbols, and the document's terms stands, taken and certain. Nothing here speaks of a receiver.
use Rattle.std.specs.Prelude.{ℕ, ◌+◌, ◌<◌, ◌≡◌, ◌↔◌, List, [], ◌∷◌, ◌++◌, map, length, take, drop}
use Rattle.frame.specs.Frame.{Frame}

-- The line is a list of symbols, each a byte or a silence.
pub data Symbol : Type 0 where
  byte : ℕ → Symbol
  silence : Symbol

-- Every byte among the symbols is below 256.
abbrev pub AllBytes : List Symbol → Type 0
AllBytes [] = Unit
AllBytes (byte b ∷ x) = (b < 256) × AllBytes x
AllBytes (silence ∷ x) = AllBytes x

-- Document 01's term stands: a frame stands at a place if the symbols from there are all the bytes of a frame, with no silence among them.
pub record Stands (line : List Symbol) (place : ℕ) (frame : List ℕ) : Type 0 where
  pub whole : Frame frame
  pub there : take (length frame) (drop place line) ≡ map byte frame

-- A choice says of each place and each frame whether it is taken there.
abbrev pub Choice : Type 1
Choice = ℕ → List ℕ → Type 0

-- Document 01's term covers: a taken frame that began earlier covers the place.
pub record Covered (taken : Choice) (place : ℕ) : Type 0 where
  pub start : ℕ
  pub frame : List ℕ
  pub chosen : taken start frame
  pub earlier : start < place
  pub reaches : place < start + length frame

-- Document 01's rule of its term taken: a frame is taken exactly if it stands at its place and no taken frame that began earlier
-- covers that place. A choice that meets it for every place and frame keeps the rule.
abbrev pub Keeps : List Symbol → Choice → Type 0
Keeps line taken =
    (place : ℕ) (frame : List ℕ) → taken place frame ↔ (Stands line place frame × (Covered taken place → ⊥))

-- Document 01's term taken: a frame is taken in a line by the choice that keeps the rule, of which there is exactly one (`one_choice`).
abbrev pub Taken : List Symbol → ℕ → List ℕ → Type 1
Taken line place frame = (taken : Choice) → Keeps line taken → taken place frame

-- Document 01's term certain: a frame is certain after a list of symbols if it is taken, at the same place, in every list that begins with
-- that one; what comes is bytes, below 256, and silences.
abbrev pub Certain : List Symbol → ℕ → List ℕ → Type 1
Certain line place frame =
    (more : List Symbol) → AllBytes more → (taken : Choice) → Keeps (line ++ more) taken → taken place frame

-- Certain after more symbols and not before them.
abbrev pub Newly : List Symbol → List Symbol → ℕ → List ℕ → Type 1
Newly line more place frame = Certain (line ++ more) place frame × (Certain line place frame → ⊥)
