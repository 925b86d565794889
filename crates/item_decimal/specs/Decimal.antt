-- Packed decimal, low byte first: two digits a byte, the higher digit in the higher half byte.
use Rattle.std.specs.Prelude.{ℕ, zero, suc, ◌+◌, ◌*◌, ◌/◌, ◌%◌, ◌^◌, ◌≤◌, List, [], ◌∷◌, Bool, true, false, ◌&&◌, length, take, drop, leb, ltb, Err, None, Ok, Option, Result, Some}
use Rattle.item_decimal.specs.Answers.{too_large}
use Rattle.item_decimal.specs.declared.TooLarge.{TooLarge}
use Rattle.item_decimal.specs.declared.UnpackError.{UnpackError}
use Rattle.item_decimal.specs.declared.UnpackError.TheVariants.{NotDecimal, TooLong}
use Rattle.laws.specs.Memory.{Outcome, outcome}
use Rattle.laws.specs.Test.{pick}

-- Every half byte is 0 to 9.
abbrev pub Decimal : List ℕ → Type 0
Decimal [] = Unit
Decimal (b ∷ bs) = (b % 16 ≤ 9) × (b / 16 ≤ 9) × Decimal bs

-- Both half bytes of a byte are 0 to 9.
unfoldable pub is_decimal : ℕ → Bool
is_decimal b = leb (b % 16) 9 && leb (b / 16) 9

-- The first byte with a half byte above 9, its place counted from `i` on.
unfoldable pub first_bad_from : ℕ → List ℕ → Option ℕ
first_bad_from i [] = None
first_bad_from i (b ∷ bs) = pick (is_decimal b) (first_bad_from (i + 1) bs) (Some i)

unfoldable pub first_bad : List ℕ → Option ℕ
first_bad bytes = first_bad_from 0 bytes

-- A scan that found no such byte.
abbrev pub found_none : Option ℕ → Bool
found_none None = true
found_none (Some i) = false

unfoldable pub all_decimal : List ℕ → Bool
all_decimal bytes = found_none (first_bad bytes)

-- The number of a byte's two digits.
unfoldable pub digits : ℕ → ℕ
digits b = 10 * (b / 16) + b % 16

-- The byte of the two lowest digits of a number.
unfoldable pub low_digits : ℕ → ℕ
low_digits n = 16 * (n / 10 % 10) + n % 10

-- The number of packed bytes.
unfoldable pub unpacked : List ℕ → ℕ
unpacked [] = 0
unpacked (b ∷ bs) = digits b + 100 * unpacked bs

-- So many numbers, of four packed bytes each.
unfoldable pub decoded : ℕ → List ℕ → List ℕ
decoded zero bytes = []
decoded (suc n) bytes = unpacked (take 4 bytes) ∷ decoded n (drop 4 bytes)

-- The lowest digits of a number, in so many bytes.
unfoldable pub packed : ℕ → ℕ → List ℕ
packed zero n = []
packed (suc k) n = low_digits n ∷ packed k (n / 100)

-- What the packing of a number into all of the memory answers and leaves: a number that does not fit leaves it as it was.
unfoldable pub packing : ℕ → List ℕ → Outcome (Result Unit TooLarge)
packing n m = pick (ltb n (100 ^ length m)) (outcome (Ok tt) (packed (length m) n)) (outcome (Err too_large) m)

-- The number, or where the bytes have a half byte above 9. More than nine bytes are too long.
abbrev pub scanned_number : Option ℕ → List ℕ → Result ℕ UnpackError
scanned_number None bytes = Ok (unpacked bytes)
scanned_number (Some i) bytes = Err (NotDecimal i)

unfoldable pub unpacking : List ℕ → Result ℕ UnpackError
unpacking bytes = pick (leb (length bytes) 9) (scanned_number (first_bad bytes) bytes) (Err TooLong)
