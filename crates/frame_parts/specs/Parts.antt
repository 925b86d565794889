-- A frame taken apart into arrays: its address field, and its data unmasked.
use Rattle.std.specs.Prelude.{ℕ, ◌+◌, Bool, ◌&&◌, List, length, replicate, nat_le}
use Rattle.laws.specs.Memory.{Outcome, outcome, over}
use Rattle.laws.specs.Test.{pick}
use Rattle.frame.specs.Frame.{address_of, length_of, data_of}

-- The address field; zeros where the bytes are too few to have one.
unfoldable pub address_field : List ℕ → List ℕ
address_field bytes = pick (nat_le 7 (length bytes)) (address_of bytes) (replicate 6 0)

-- The bytes say how long their data are, at most 200, and have so many.
unfoldable pub has_data : List ℕ → Bool
has_data bytes = nat_le 10 (length bytes) && (nat_le (length_of bytes) 200 && nat_le (10 + length_of bytes) (length bytes))

-- How many data the bytes have, and the data over the array; none, and the array as it was, where the bytes have no data field.
unfoldable pub data_unmasked : List ℕ → List ℕ → Outcome ℕ
data_unmasked bytes m = pick (has_data bytes) (outcome (length_of bytes) (over (data_of bytes) m)) (outcome 0 m)
