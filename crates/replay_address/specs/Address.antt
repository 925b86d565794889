-- The address that the replay program is given: twelve digits, highest first, as the six bytes of an address, low byte first.
use Rattle.std.specs.Prelude.{ℕ, ◌+◌, ◌*◌, ◌%◌, Bool, ◌&&◌, length, get_or, eqb, Option, Some, None}
use mathlib.Core.List.{List, [], ◌∷◌}
use Rattle.laws.specs.All.{all_of}
use Rattle.laws.specs.Test.{pick}
use Rattle.replay_address.specs.Digits.{is_digit}

-- Two digits as one byte, the first in the higher half: the number of a digit is the low half of its character.
unfoldable pub pair_of : ℕ → ℕ → ℕ
pair_of high low = 16 * (high % 16) + low % 16

-- The byte of the two digits from a place on.
abbrev pub pair_at : List ℕ → ℕ → ℕ
pair_at text i = pair_of (get_or text i 0) (get_or text (i + 1) 0)

-- Twelve digits, two by two, the last two first.
unfoldable pub address_bytes : List ℕ → List ℕ
address_bytes text = pair_at text 10 ∷ pair_at text 8 ∷ pair_at text 6 ∷ pair_at text 4 ∷ pair_at text 2 ∷ pair_at text 0 ∷ []

-- A text is twelve bytes, each a digit.
unfoldable pub is_address : List ℕ → Bool
is_address text = eqb (length text) 12 && all_of is_digit text

-- The address of twelve digits; any other text is no address.
unfoldable pub address_read : List ℕ → Option (List ℕ)
address_read text = pick (is_address text) (Some (address_bytes text)) None
