-- Laws of a frame's bytes taken apart: how many its checksum is taken over, and each part read off them.
use Rattle.std.specs.Prelude.{◌≡◌, ℕ, ◌+◌, List, ◌∷◌, ◌++◌, length, take, drop, slice_index}
use Rattle.std.proofs.Math.Path.{ap}
use Rattle.std.proofs.Common.{sym, ◌∙◌, arith, length-append, take_at, drop_at, get_or-drop, drop-drop}
use mathlib.Core.List.{append_assoc}
use Rattle.std.proofs.Math.Seq.{take-append_seam}
use Rattle.frame.specs.Frame.{checksum_of, summed, frame_of, address_of, control_of, length_of, field_of}

-- What the checksum is taken over is ten bytes longer than the data field.
pub summed-length : (address : List ℕ) (control : ℕ) (field : List ℕ) → length address ≡ 6 → length (summed address control field) ≡ 10 + length field
unfolding summed
summed-length address control field six = rw (length-append, six) (omega arith)

-- A frame, whatever stands behind it, taken apart.
module _ (address : List ℕ) (control : ℕ) (field more : List ℕ) (six : length address ≡ 6) where
  -- From the second 68 on.
  behind : List ℕ
  behind = 0x68 ∷ control ∷ length field ∷ (field ++ (checksum_of (summed address control field) ∷ 0x16 ∷ more))

  -- The frame as the first 68, the address and the rest.
  split : frame_of address control field ++ more ≡ 0x68 ∷ (address ++ behind)
  unfolding frame_of summed behind
  split = simp append_assoc

  -- What stands behind the address.
  after-address : drop 6 (address ++ behind) ≡ behind
  after-address = drop_at address behind 6 six

  -- The address field, off the bytes.
  pub address-part : address_of (frame_of address control field ++ more) ≡ address
  unfolding address_of
  address-part = rw split (take_at address behind 6 six)

  -- The control code, off the bytes.
  pub control-part : control_of (frame_of address control field ++ more) ≡ control
  unfolding control_of behind
  control-part = rw split (sym (get_or-drop 6 (address ++ behind) 1 0) ∙ ap (λ (l : List ℕ). slice_index l 1) after-address)

  -- The data length, off the bytes.
  pub length_part : length_of (frame_of address control field ++ more) ≡ length field
  unfolding length_of behind
  length_part = rw split (sym (get_or-drop 6 (address ++ behind) 2 0) ∙ ap (λ (l : List ℕ). slice_index l 2) after-address)

  -- The data field, off the bytes.
  pub field-part : field_of (frame_of address control field ++ more) ≡ field
  unfolding field_of behind
  field-part =
      rw (length_part, split)
      (ap (λ (l : List ℕ). take (length field) l) (sym (drop-drop 3 6 (address ++ behind)) ∙ ap (λ (l : List ℕ). drop 3 l) after-address)
      ∙ take-append_seam field _)
