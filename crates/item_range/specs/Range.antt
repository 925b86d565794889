-- A number in a range, both ends of it among it.
use Rattle.std.specs.Prelude.{ℕ, Bool, ◌&&◌, leb}

-- From the least to the most.
unfoldable pub within : ℕ → ℕ → ℕ → Bool
within least most n = leb least n && leb n most
