-- The lines of several frames.
use Rattle.std.specs.Prelude.{ℕ, List, [], ◌∷◌, ◌++◌}
use Rattle.listing.specs.Text.{text_of}

-- The lines of frames, one behind the other.
unfoldable pub lines_of : List (List ℕ) → List ℕ
lines_of [] = []
lines_of (f ∷ fs) = text_of f ++ lines_of fs
