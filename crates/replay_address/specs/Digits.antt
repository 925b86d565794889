-- Digits in text, and the number that they spell.
use Rattle.std.specs.Prelude.{ℕ, ◌+◌, ◌-◌, ◌*◌, ◌≤◌, ◌≡◌, List, [], ◌∷◌, Bool, true, ◌&&◌, ◌↔◌, leb}
use Rattle.std.proofs.Math.Bool.{and-eq-true_iff}
use Rattle.std.proofs.Common.{le-leb, leb-true}

-- A byte is the character of a digit, 0 to 9.
unfoldable pub is_digit : ℕ → Bool
is_digit b = leb 48 b && leb b 57

-- The number of a digit's character.
abbrev pub worth : ℕ → ℕ
worth b = b - 48

-- The number that digits spell, the highest first, behind those of another number.
unfoldable pub spelled_from : ℕ → List ℕ → ℕ
spelled_from n [] = n
spelled_from n (b ∷ bs) = spelled_from (10 * n + worth b) bs

-- The number that digits spell, the highest first.
unfoldable pub spelled : List ℕ → ℕ
spelled digits = spelled_from 0 digits

-- A byte is a digit where it is 48 to 57.
abbrev pub IsDigit : ℕ → Type 0
IsDigit b = (48 ≤ b) × (b ≤ 57)

-- The test says so.
pub digit-iff : (b : ℕ) → (is_digit b ≡ true) ↔ IsDigit b
unfolding is_digit
digit-iff b = (
  λ h.
      let both = (and-eq-true_iff (leb 48 b) (leb b 57)).0 h in
      (leb-true 48 b both.0, leb-true b 57 both.1),
  λ h. rw (le-leb 48 b h.0, le-leb b 57 h.1),
)
