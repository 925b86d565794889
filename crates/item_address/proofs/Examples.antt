-- Worked cases that the definitions compute.
use Rattle.std.specs.Prelude.{◌≡◌, refl, [], ◌∷◌, false, replicate}
use Rattle.item_same.specs.Same.{same}
use Rattle.item_range.specs.Range.{within}
use Rattle.item_address.specs.Address.{low_bytes, has_short_form, short_matches}

-- A byte 00 is no wildcard, and six wildcard bytes are no short address.
wildcard_no_zero : short_matches (0x01 ∷ replicate 5 0x00) (0x01 ∷ 0x02 ∷ 0x03 ∷ 0x00 ∷ 0x00 ∷ 0x00 ∷ []) ≡ false
unfolding short_matches has_short_form within low_bytes same
wildcard_no_zero = refl

all-wildcards : short_matches (replicate 6 0xAA) (0x01 ∷ replicate 5 0x00) ≡ false
unfolding short_matches has_short_form within low_bytes same
all-wildcards = refl
