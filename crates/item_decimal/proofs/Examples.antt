-- A worked case that the definitions compute.
use Rattle.std.specs.Prelude.{◌≡◌, refl, [], ◌∷◌}
use Rattle.item_decimal.specs.Decimal.{digits, unpacked}

-- Case B's four bytes are 123456.78.
reading-unpacked : unpacked (0x78 ∷ 0x56 ∷ 0x34 ∷ 0x12 ∷ []) ≡ 12345678
unfolding unpacked digits
reading-unpacked = refl
