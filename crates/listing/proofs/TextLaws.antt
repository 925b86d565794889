-- Laws of the text of a frame: its length, and that its parts, stored one behind the other, are the text.
use Rattle.std.specs.Prelude.{ℕ, ◌+◌, ◌*◌, ◌≤◌, ◌≡◌, Bool, take, drop, set, eqb}
use Rattle.std.proofs.Common.{◌∙◌, arith, eq-eqb, ne_eqb}
use mathlib.Core.List.{List, [], ◌∷◌, ◌++◌, reverse}
use Rattle.std.proofs.Math.Bool.{true, false}
use Rattle.std.proofs.Math.ListN.{length, length-append, length-map, length-drop, length-reverse}
use Rattle.std.proofs.lemmas.List.Edits.{sets}
use Rattle.std.proofs.Math.Seq.{length-take-le}
use Rattle.laws.specs.Memory.{over}
use Rattle.laws.specs.Test.{pick}
use Rattle.laws.specs.MemoryLaws.{run-from}
use Rattle.frame.specs.Frame.{address_of, control_of, length_of, field_of, data_of}
use Rattle.frame.specs.Recognition.{exactly_one}
use Rattle.frame.proofs.RecognitionLaws.{one-frame, frame-spans as spans}
use Rattle.listing.specs.Text.{Spans, hex_of, hex_all, head_of, tail_of, text_of, text_length}
use Rattle.listing.proofs.DigitLaws.{run_on, hex_length}

-- Bytes that are exactly one frame are as many as their L says.
pub frame-spans : (bytes : List ℕ) → exactly_one bytes ≡ true → Spans bytes
frame-spans bytes e = spans (one-frame bytes e)

-- The text's length where there are no data, and where there are.
pub length_none : (l : ℕ) → l ≡ 0 → text_length l ≡ 16
unfolding text_length
length_none l none = simp (eq-eqb l 0 none)

pub length_some : (l : ℕ) → (l ≡ 0 → ⊥) → text_length l ≡ 17 + 2 * l
unfolding text_length
length_some l some = simp (ne_eqb l 0 some)

-- A text has room for its head and its newline.
pub length-least : (l : ℕ) → 16 ≤ text_length l
unfolding text_length
length-least l = by (eqb l 0)
  where
    by : (t : Bool) → 16 ≤ pick t 16 (17 + 2 * l)
    by true = omega arith
    by false = omega arith

-- A text is at most twice as long as the bytes of its frame.
length_most : (l : ℕ) → text_length l ≤ 2 * (12 + l)
unfolding text_length
length_most l = by (eqb l 0)
  where
    by : (t : Bool) → pick t 16 (17 + 2 * l) ≤ 2 * (12 + l)
    by true = omega arith
    by false = omega arith

-- The parts of bytes as many as their L says.
module _ (frame : List ℕ) (spans : Spans frame) where
  -- Six address bytes have twelve digits.
  pub address-digits : length (hex_all (reverse (address_of frame))) ≡ 12
  unfolding address_of
  address-digits =
      let six : length (take 6 (drop 1 frame)) ≡ 6 = length-take-le 6 (drop 1 frame) (rw length-drop (omega arith)) in
      rw (hex_length, length-reverse, six)

  -- Two digits for each data byte.
  pub data_digits : length (hex_all (data_of frame)) ≡ 2 * length_of frame
  unfolding data_of field_of
  data_digits =
      let all : length (take (length_of frame) (drop 10 frame)) ≡ length_of frame = length-take-le (length_of frame) (drop 10 frame) (rw length-drop (omega arith)) in
      rw (hex_length, length-map, all)

  -- The address, a blank and the control code, stored one behind the other.
  pub head-stored : (m : List ℕ) → sets (set (sets m 0 (hex_all (reverse (address_of frame)))) 12 0x20) 13 (hex_of (control_of frame)) ≡ sets m 0 (head_of frame)
  unfolding head_of
  head-stored m = run_on m (hex_all (reverse (address_of frame))) (0x20 ∷ hex_of (control_of frame)) 0 12 (omega (arith, address-digits))

  -- Twelve digits, a blank and two digits.
  pub head-length : length (head_of frame) ≡ 15
  unfolding head_of hex_of
  head-length = rw (length-append, address-digits)

  -- Where there are no data, the newline alone.
  pub no_data_stored : (m : List ℕ) → length_of frame ≡ 0 → set m 15 0x0A ≡ sets m 15 (tail_of frame ++ (0x0A ∷ []))
  unfolding tail_of
  no_data_stored m none = simp (eq-eqb (length_of frame) 0 none)

  -- Else a blank, the data and the newline, stored one behind the other.
  pub data_stored : (m : List ℕ) → (length_of frame ≡ 0 → ⊥) → set (sets (set m 15 0x20) 16 (hex_all (data_of frame))) (16 + 2 * length_of frame) 0x0A ≡ sets m 15 (tail_of frame ++ (0x0A ∷ []))
  unfolding tail_of
  data_stored m some = simp (ne_eqb (length_of frame) 0 some) (run_on m (0x20 ∷ hex_all (data_of frame)) (0x0A ∷ []) 15 (16 + 2 * length_of frame) (omega (arith, data_digits)))

  -- The whole text, its newline among it.
  pub text-length : length (text_of frame) ≡ text_length (length_of frame)
  unfolding text_of tail_of text_length
  text-length = by (eqb (length_of frame) 0)
    where
      by : (t : Bool) → length (head_of frame ++ (pick t [] (0x20 ∷ hex_all (data_of frame)) ++ (0x0A ∷ []))) ≡ pick t 16 (17 + 2 * length_of frame)
      by true = rw (length-append, head-length)
      by false = simp length-append (omega (arith, head-length, data_digits))

  -- The head and what stands behind it are the text, over the front of the memory.
  pub text-stored : (m : List ℕ) → text_length (length_of frame) ≤ length m → sets (sets m 0 (head_of frame)) 15 (tail_of frame ++ (0x0A ∷ [])) ≡ over (text_of frame) m
  unfolding text_of
  text-stored m fits =
      run_on m (head_of frame) (tail_of frame ++ (0x0A ∷ [])) 0 15 (omega (arith, head-length))
      ∙ run-from (text_of frame) m 0 (omega (arith, text-length))

-- A text is at most twice as long as its frame.
pub text_twice : (frame : List ℕ) → exactly_one frame ≡ true → length (text_of frame) ≤ 2 * length frame
text_twice frame e =
    let spans = frame-spans frame e in
    omega (arith, text-length frame spans, length_most (length_of frame))
