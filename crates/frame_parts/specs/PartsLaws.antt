-- Laws of a frame taken apart.
use Rattle.std.specs.Prelude.{◌≡◌, ℕ, ◌+◌, ◌<◌, ◌≤◌, true, false, List, [], ◌∷◌, length, take, drop, slice_index}
use Rattle.std.proofs.Common.{ap, sym, ◌∙◌, arith, length-append, take_at}
use Rattle.std.proofs.Math.ListN.{length-drop, length-map}
use Rattle.std.proofs.Math.Seq.{drop-cons, length-take-le}
use borrow.Author.Tests.{le-leb, lt-leb}
use Rattle.laws.specs.Memory.{Outcome, outcome, over}
use Rattle.frame.specs.Frame.{address_of, length_of, field_of, data_of}
use Rattle.frame_parts.specs.Parts.{address_field, has_data, data_unmasked}
use Rattle.frame.specs.Recognition.{exactly_one}
use Rattle.frame.proofs.RecognitionLaws.{one-frame, frame-spans, frame-most}

-- Bytes that are enough for an address field: that is what is taken, and it is bytes 1 to 6.
module _ (bytes : List ℕ) (seven : 7 ≤ length bytes) where
  pub address-there : address_field bytes ≡ address_of bytes
  unfolding address_field
  address-there = rw (le-leb 7 (length bytes) seven)

  pub address-bytes : address_field bytes
      ≡ slice_index bytes 1 ∷ slice_index bytes 2 ∷ slice_index bytes 3 ∷ slice_index bytes 4 ∷ slice_index bytes 5 ∷ slice_index bytes 6 ∷ []
  unfolding address_of
  address-bytes =
      address-there ∙
      rw (
        drop-cons bytes 1 0 (omega arith),
        drop-cons bytes 2 0 (omega arith),
        drop-cons bytes 3 0 (omega arith),
        drop-cons bytes 4 0 (omega arith),
        drop-cons bytes 5 0 (omega arith),
        drop-cons bytes 6 0 (omega arith),
      )

-- Bytes that are too few for an address field: zeros.
pub address_none : (bytes : List ℕ) → length bytes < 7 → address_field bytes ≡ 0 ∷ 0 ∷ 0 ∷ 0 ∷ 0 ∷ 0 ∷ []
unfolding address_field
address_none bytes few = rw (lt-leb 7 (length bytes) few)

-- The address field as it is read, byte by byte.
pub ruleset address_read = (address-bytes, address_none)

-- Bytes that have as many data as they say: their field is as long as they say, and where that is at most 200 the data are taken.
module _ (bytes : List ℕ) (there : 10 + length_of bytes ≤ length bytes) where
  pub field-length : length (field_of bytes) ≡ length_of bytes
  unfolding field_of
  field-length = length-take-le (length_of bytes) (drop 10 bytes) (rw length-drop (omega arith))

  pub data_there : (m : List ℕ) → length_of bytes ≤ 200 → data_unmasked bytes m ≡ outcome (length_of bytes) (over (data_of bytes) m)
  unfolding data_unmasked has_data
  data_there m most =
      rw (le-leb 10 (length bytes) (omega arith), le-leb (length_of bytes) 200 most, le-leb (10 + length_of bytes) (length bytes) there)

-- Bytes without a data field have no data, and leave the memory as it was.
pub no_data : (bytes m : List ℕ) → has_data bytes ≡ false → data_unmasked bytes m ≡ outcome 0 m
unfolding data_unmasked
no_data bytes m h = rw h

-- The parts of bytes that are exactly one frame.
module _ (bytes : List ℕ) (one : exactly_one bytes ≡ true) where
  -- Twelve bytes and the data, which are as many as the data length says and at most 200.
  pub one-spans : length bytes ≡ 12 + length_of bytes
  one-spans = frame-spans (one-frame bytes one)

  pub one-most : length_of bytes ≤ 200
  one-most = omega (arith, one-spans, frame-most (one-frame bytes one))

  pub data_length : length (data_of bytes) ≡ length_of bytes
  unfolding data_of
  data_length = rw length-map (field-length bytes (omega (arith, one-spans)))

  -- The address field and the data are those of the frame.
  pub address-field : address_field bytes ≡ address_of bytes
  address-field = address-there bytes (omega (arith, one-spans))

  pub data_field : (m : List ℕ) → data_unmasked bytes m ≡ outcome (length_of bytes) (over (data_of bytes) m)
  data_field m = data_there bytes (omega (arith, one-spans)) m one-most

  -- What is taken: so many, and they are read off the front of the array.
  module _ (m : List ℕ) (r : ℕ) (o : List ℕ) (taken : outcome r o ≡ data_unmasked bytes m) where
    pub data_count : r ≡ length_of bytes
    data_count = ap (λ (x : Outcome ℕ). x.answer) (taken ∙ data_field m)

    data_over : o ≡ over (data_of bytes) m
    data_over = ap (λ (x : Outcome ℕ). x.memory) (taken ∙ data_field m)

    pub data_fits : r ≤ length o
    data_fits = rw (data_over, length-append) (omega (arith, data_count, data_length))

    pub data_front : take r o ≡ data_of bytes
    data_front = rw data_over (take_at (data_of bytes) _ r (data_length ∙ sym data_count))
