-- Laws of a reading: its range, its bytes, and its number.
use Rattle.std.specs.Prelude.{ℕ, ◌+◌, ◌%◌, ◌≤◌, ◌≡◌, refl, true, ◌↔◌, length}
use Rattle.std.proofs.Common.{arith, leb-true, le-leb}
use Rattle.item_decimal.specs.Decimal.{Decimal, unpacked}
use Rattle.item_decimal.proofs.DecimalLaws.{packed-length, packed-decimal, unpacked-packed}
use Rattle.energy.specs.Reading.{Reading, zero_reading, no_reading, number_of, reading_of, reading_in_range, reading_bytes, plus_amount}

-- A reading within its range is at most 99,999,999.
pub reading-most : (reading : Reading) → (reading_in_range reading ≡ true) ↔ (number_of reading ≤ 99999999)
unfolding reading_in_range number_of
reading-most reading = (leb-true reading 99999999, le-leb reading 99999999)

-- Zero, what stands for no reading, and every sum are within the range.
pub zero_in_range : reading_in_range zero_reading ≡ true
unfolding reading_in_range
zero_in_range = refl

pub none_in_range : reading_in_range no_reading ≡ true
unfolding reading_in_range
none_in_range = refl

pub plus_in_range : (reading : Reading) (amount : ℕ) → reading_in_range (plus_amount reading amount) ≡ true
unfolding plus_amount number_of
plus_in_range reading amount = (reading-most _).1 (omega arith)

-- What zero is, and what an amount added makes of a reading's number.
pub number-zero : number_of zero_reading ≡ 0
unfolding number_of
number-zero = refl

pub number_plus : (reading : Reading) (amount : ℕ) → number_of (plus_amount reading amount) ≡ (number_of reading + amount) % 100000000
unfolding number_of plus_amount
number_plus reading amount = refl

-- A reading has four bytes.
pub reading-length : (reading : Reading) → length (reading_bytes reading) ≡ 4
unfolding reading_bytes
reading-length reading = packed-length 4 (reading % 100000000)

-- The bytes of a reading within its range are decimal, and its number comes back from them.
module _ (reading : Reading) (ranged : reading_in_range reading ≡ true) where
  pub reading-decimal : Decimal (reading_bytes reading)
  unfolding reading_bytes
  reading-decimal = packed-decimal 4 (reading % 100000000)

  pub reading-back : unpacked (reading_bytes reading) ≡ number_of reading
  unfolding reading_bytes number_of
  reading-back =
      let most : reading ≤ 99999999 = (reading-most reading).0 ranged in
      omega (arith, unpacked-packed 4 (reading % 100000000) (omega arith))

-- A number up to 99,999,999 comes back from its reading.
pub number-back : (number : ℕ) → number ≤ 99999999 → number_of (reading_of number) ≡ number
unfolding number_of reading_of
number-back number most = refl
