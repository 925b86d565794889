-- Laws of a written frame: its length, and that taken apart it gives back what it was made of.
use Rattle.std.specs.Prelude.{◌≡◌, ℕ, ◌+◌, ◌<◌, ◌≤◌, List, [], ◌∷◌, ◌++◌, map, length, refl}
use Rattle.std.proofs.Common.{ap, sym, ◌∙◌, append-nil, length-append, arith}
use Rattle.std.proofs.lemmas.List.{length-map}
use Rattle.frame.specs.Frame.{Frame, masked, unmasked, frame_of, address_of, control_of, data_of, frame_for}
use Rattle.laws.specs.Memory.{Bytes}
use Rattle.frame.proofs.TakenApartLaws.{summed-length, address-part, control-part, field-part}

-- What is masked and unmasked is as it was.
unmasked-masked : (b : ℕ) → b < 256 → unmasked (masked b) ≡ b
unfolding masked unmasked
unmasked-masked b h = omega arith

unmasked-masked-all : (xs : List ℕ) → Bytes xs → map unmasked (map masked xs) ≡ xs
unmasked-masked-all [] h = refl
unmasked-masked-all (x ∷ xs) h = rw (unmasked-masked x h.0, unmasked-masked-all xs h.1)

-- A frame has twelve bytes besides its data field.
pub frame-length : (address : List ℕ) (control : ℕ) (field : List ℕ) → length address ≡ 6 → length (frame_of address control field) ≡ 12 + length field
unfolding frame_of
frame-length address control field h = rw (length-append, summed-length address control field h) (omega arith)

-- The frame of unmasked data has twelve bytes besides them.
pub frame-for-length : (address : List ℕ) (control : ℕ) (payload : List ℕ) → length address ≡ 6 → length (frame_for address control payload) ≡ 12 + length payload
unfolding frame_for
frame-for-length address control payload six = frame-length address control (map masked payload) six ∙ ap (λ (n : ℕ). 12 + n) (length-map payload masked)

-- What is written is a frame.
pub frame-for : (address : List ℕ) (control : ℕ) (payload : List ℕ) → length address ≡ 6 → length payload ≤ 200 → Frame (frame_for address control payload)
unfolding frame_for
frame-for address control payload h k =
    record { address = address; control = control; field = map masked payload; six = h; most = rw length-map k; made = refl }

-- A frame's address field has six bytes.
pub address-six : {f : List ℕ} → Frame f → length (address_of f) ≡ 6
address-six {f} w =
    let whole : f ≡ frame_of w.address w.control w.field ++ [] = w.made ∙ sym (append-nil _) in
    rw (whole, address-part w.address w.control w.field [] w.six) w.six

-- A written frame, whatever stands behind it, taken apart.
module _ (address : List ℕ) (control : ℕ) (payload more : List ℕ) (six : length address ≡ 6) where
  pub address-back : address_of (frame_for address control payload ++ more) ≡ address
  unfolding frame_for
  address-back = address-part address control (map masked payload) more six

  pub control-back : control_of (frame_for address control payload ++ more) ≡ control
  unfolding frame_for
  control-back = control-part address control (map masked payload) more six

  pub data_back : Bytes payload → data_of (frame_for address control payload ++ more) ≡ payload
  unfolding frame_for data_of
  data_back h = rw (field-part address control (map masked payload) more six) (unmasked-masked-all payload h)
