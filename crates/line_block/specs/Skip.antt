-- Stretches of a line that are passed over, since no frame begins there.
use Rattle.std.specs.Prelude.{ℕ, ◌≤◌, ◌<◌, ◌≡◌, List, length, get_or}

-- No 68 stands at the places from the first on and before the second, which lies within the line.
pub record Passes (line : List ℕ) (from to : ℕ) : Type 0 where
  pub later : from ≤ to
  pub within : to ≤ length line
  pub none : (i : ℕ) → from ≤ i → i < to → get_or line i 0 ≡ 0x68 → ⊥
