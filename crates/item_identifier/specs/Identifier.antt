-- A data identifier in bytes, DI0 first: the number at the front of the data, and the four bytes of a number.
use Rattle.std.specs.Prelude.{ℕ, ◌+◌, ◌*◌, ◌/◌, ◌%◌, List, [], ◌∷◌, get_or}

-- The data identifier at the front of bytes.
unfoldable pub identifier_of : List ℕ → ℕ
identifier_of bytes =
    get_or bytes 0 0 + (256 * get_or bytes 1 0 + (65536 * get_or bytes 2 0 + 16777216 * get_or bytes 3 0))

-- The identifier's four bytes.
unfoldable pub identifier_bytes : ℕ → List ℕ
identifier_bytes identifier =
    identifier % 256 ∷ identifier / 256 % 256 ∷ identifier / 65536 % 256 ∷ identifier / 16777216 % 256 ∷ []
