-- Document 01, "A frame": what bytes are a frame, its parts, the checksum and the masking of data bytes. Lists hold bytes.
use Rattle.std.specs.Prelude.{◌≡◌, ℕ, ◌+◌, ◌-◌, ◌%◌, ◌<◌, ◌≤◌, List, [], ◌∷◌, ◌++◌, map, length, take, drop, slice_index}
use Rattle.laws.specs.Memory.{Bytes}

-- The sum of the bytes.
unfoldable pub total : List ℕ → ℕ
total [] = 0
total (b ∷ bs) = b + total bs

-- The sum of the bytes, wrapping at 256.
unfoldable pub checksum_of : List ℕ → ℕ
checksum_of bytes = total bytes % 256

-- A data byte masked, as it travels, and unmasked: 33H added or taken off, wrapping at 256.
unfoldable pub masked : ℕ → ℕ
masked b = (b + 0x33) % 256

unfoldable pub unmasked : ℕ → ℕ
unmasked b = (b + (256 - 0x33)) % 256

-- From the first 68 to the last data byte: 68, the address field, 68, the control code, the data length, the data field as it travels.
unfoldable pub summed : List ℕ → ℕ → List ℕ → List ℕ
summed address control field = 0x68 ∷ (address ++ (0x68 ∷ control ∷ length field ∷ field))

-- The bytes of a frame: then their checksum, and 16.
unfoldable pub frame_of : List ℕ → ℕ → List ℕ → List ℕ
frame_of address control field =
    summed address control field ++ (checksum_of (summed address control field) ∷ 0x16 ∷ [])

-- The frame of an address, a control code and unmasked data.
unfoldable pub frame_for : List ℕ → ℕ → List ℕ → List ℕ
frame_for address control payload = frame_of address control (map masked payload)

-- Bytes that are a frame: of a six-byte address field and a data field of at most 200 bytes.
pub record Frame (bytes : List ℕ) : Type 0 where
  pub address : List ℕ
  pub control : ℕ
  pub field : List ℕ
  pub six : length address ≡ 6
  pub most : length field ≤ 200
  pub made : bytes ≡ frame_of address control field

-- Document 01's proper beginning of a frame: some bytes more make it a frame. No bytes are one.
pub record ProperBeginning (x : List ℕ) : Type 0 where
  pub more : List ℕ
  pub some : 0 < length more
  pub bytes : Bytes more
  pub whole : Frame (x ++ more)

-- How many bytes the longest frame has.
abbrev pub most_frame : ℕ
most_frame = 212

-- The parts of a frame, read off its bytes.
unfoldable pub address_of : List ℕ → List ℕ
address_of bytes = take 6 (drop 1 bytes)

unfoldable pub control_of : List ℕ → ℕ
control_of bytes = slice_index bytes 8

unfoldable pub length_of : List ℕ → ℕ
length_of bytes = slice_index bytes 9

-- The data field as it travels, and the data unmasked.
unfoldable pub field_of : List ℕ → List ℕ
field_of bytes = take (length_of bytes) (drop 10 bytes)

unfoldable pub data_of : List ℕ → List ℕ
data_of bytes = map unmasked (field_of bytes)
