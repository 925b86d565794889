-- Laws of the writing of a frame.
use Rattle.std.specs.Prelude.{◌≡◌, ℕ, ◌+◌, ◌-◌, ◌<◌, ◌≤◌, Bool, true, false, List, [], ◌∷◌, ◌++◌, map, length, take, drop, refl, Result, Ok, Err}
use Rattle.frame_parts.specs.declared.WriteError.{WriteError}
use Rattle.frame_parts.specs.declared.WriteError.TheVariants.{TooLittleMemory, TooMuchData}
use Rattle.std.proofs.Common.{ap, sym, ◌∙◌, append_assoc, length-append, take_at, take-add, drop_at, drop-drop, length-take-le}
use native.Mathlib.Omega.{arith}
use Rattle.std.proofs.lemmas.List.{length-map}
use borrow.Author.Tests.{le-leb, lt-leb}
use Rattle.frame.specs.Frame.{checksum_of, masked, summed, frame_of, frame_for}
use Rattle.frame.proofs.FrameLaws.{frame-length, frame-for-length}
use Rattle.laws.specs.Memory.{outcome, over}
use Rattle.laws.specs.MemoryLaws.{over-length, over-itself, over-over, copied}
use Rattle.laws.specs.Part.{part}
use Rattle.laws.specs.Test.{pick}
use Rattle.laws.specs.PartLaws.{part_length, copied_behind}
use Rattle.frame_parts.specs.Writing.{writing, writing_in_place}

-- With head and end written around a field that stands at its place, the frame stands at the front.
pub around : (address : List ℕ) (control n : ℕ) (m : List ℕ) {o : List ℕ} → length address ≡ 6 → 12 + n ≤ length m
    → o ≡ over (0x68 ∷ (address ++ (0x68 ∷ control ∷ n ∷ []))) m
    → over (take (10 + n) o ++ (checksum_of (take (10 + n) o) ∷ 0x16 ∷ [])) o ≡ over (frame_of address control (part 10 n m)) m
unfolding frame_of summed
around address control n m {o} six room e =
    let head : List ℕ = 0x68 ∷ (address ++ (0x68 ∷ control ∷ n ∷ [])) in
    let field = part 10 n m in
    let ten : length head ≡ 10 = rw (length-append, six) in
    let behind : drop 10 (over head m) ≡ drop 10 m = drop_at head _ 10 ten ∙ ap (λ (k : ℕ). drop k m) ten in
    let joined : head ++ field ≡ summed address control field = rw (append_assoc, part_length 10 n m (omega arith)) in
    let front : take (10 + n) (over head m) ≡ summed address control field =
    take-add 10 n (over head m)
    ∙ ap (λ (l : List ℕ). l ++ part 10 n (over head m)) (take_at head (drop (length head) m) 10 ten)
    ∙ ap (λ (l : List ℕ). head ++ take n l) behind
    ∙ joined in
    let more : length head ≤ length (frame_of address control field) = rw (frame-length address control field six) (omega (arith, ten)) in
    ap (λ (l : List ℕ). over (take (10 + n) l ++ (checksum_of (take (10 + n) l) ∷ 0x16 ∷ [])) l) e
    ∙ ap (λ (l : List ℕ). over (l ++ (checksum_of l ∷ 0x16 ∷ [])) (over head m)) front
    ∙ over-over (frame_of address control field) head m more

-- Data put at their place.
module _ (payload m : List ℕ) (room : 10 + length payload ≤ length m) where
  -- What stands in front of them, and they.
  abbrev pub placed : List ℕ
  placed = take 10 m ++ payload

  ten-long : length (take 10 m) ≡ 10
  ten-long = length-take-le 10 m (omega arith)

  placed-length : length placed ≡ 10 + length payload
  placed-length = length-append (take 10 m) payload ∙ ap (λ (k : ℕ). k + length payload) ten-long

  -- They are read off their place.
  placed-part : part 10 (length payload) (over placed m) ≡ payload
  placed-part =
      ap (λ (l : List ℕ). part 10 (length payload) l) (append_assoc (take 10 m) payload (drop (length placed) m))
      ∙ ap (λ (l : List ℕ). take (length payload) l) (drop_at (take 10 m) _ 10 ten-long)
      ∙ take_at payload _ (length payload) refl

  -- A frame, written over them, hides them.
  placed_hidden : (frame : List ℕ) → length frame ≡ 12 + length payload → over frame (over placed m) ≡ over frame m
  placed_hidden frame e = over-over frame placed m (omega (arith, placed-length))

  -- The part that is lent for them, filled by them, and come back.
  pub placed-lent : (end : ℕ) (y : List ℕ) → 10 + length payload ≡ end → y ≡ payload → take 10 m ++ (y ++ drop (end - 10) (drop 10 m)) ≡ over placed m
  placed-lent end y e h =
      let count : end - 10 ≡ length payload = omega arith in
      rw (h, count, drop-drop, placed-length, append_assoc)

  -- The whole rest that is lent for them, with them at its front, and come back.
  pub placed-front : (y : List ℕ) → y ≡ over payload (take (length m - 10) (drop 10 m))
      → take 10 m ++ (y ++ drop (length m - 10) (drop 10 m)) ≡ over placed m
  placed-front y h =
      copied_behind 10 (take 10 m) payload m ten-long room (sym (over-itself 10 m (omega arith))) (h ∙ sym (copied payload _))

-- A frame around around a masked field that was put at its place is the frame of the data.
pub around-field : (address : List ℕ) (control n : ℕ) (payload m : List ℕ) {o r : List ℕ} → length address ≡ 6 → length payload ≡ n → 12 + n ≤ length m
    → o ≡ over (take 10 m ++ map masked payload) m → r ≡ over (frame_of address control (part 10 n o)) o → r ≡ over (frame_for address control payload) m
unfolding frame_for
around-field address control n payload m {o} six e room p q =
    let field = map masked payload in
    let long : length field ≡ n = length-map payload masked ∙ e in
    let ten : 10 + length field ≤ length m = omega arith in
    let there : part 10 n o ≡ field = rw (p, ← long) (placed-part field m ten) in
    let framed : length (frame_of address control field) ≡ 12 + length field = frame-length address control field six in
    q ∙ rw (there, p) (placed_hidden field m ten (frame_of address control field) framed)

-- A frame for which there is room is written.
pub frame-written : (address : List ℕ) (control : ℕ) (payload m : List ℕ) → length payload ≤ 200 → 12 + length payload ≤ length m
    → writing address control payload m ≡ outcome (Ok (12 + length payload)) (over (frame_for address control payload) m)
unfolding writing
frame-written address control payload m few room = rw (le-leb (length payload) 200 few, le-leb (12 + length payload) (length m) room)

-- Data put at their place, and the frame then written in place: it is the frame of these data.
module _ (address : List ℕ) (control : ℕ) (payload m : List ℕ) (six : length address ≡ 6) (few : length payload ≤ 200)
    (room : 12 + length payload ≤ length m) where
  pub written_in_place : writing_in_place address control (length payload) (over (take 10 m ++ payload) m)
      ≡ outcome (Ok (12 + length payload)) (over (frame_for address control payload) m)
  unfolding writing_in_place
  written_in_place =
      let ten : 10 + length payload ≤ length m = omega arith in
      let kept : length (over (take 10 m ++ payload) m) ≡ length m = over-length (take 10 m ++ payload) m (omega (arith, placed-length payload m ten)) in
      rw (
        le-leb (length payload) 200 few,
        kept,
        le-leb (12 + length payload) (length m) room,
        placed-part payload m ten,
        placed_hidden payload m ten (frame_for address control payload) (frame-for-length address control payload six),
      )

  pub in_place_written : writing_in_place address control (length payload) (over (take 10 m ++ payload) m) ≡ writing address control payload m
  in_place_written = written_in_place ∙ sym (frame-written address control payload m few room)

-- More than 200 data, and then too little memory, are refused, and nothing is written.
module _ (address : List ℕ) (control count : ℕ) (m : List ℕ) where
  pub too_much_in_place : 200 < count → writing_in_place address control count m ≡ outcome (Err TooMuchData) m
  unfolding writing_in_place
  too_much_in_place h = rw (lt-leb count 200 h)

  pub too_little_in_place : count ≤ 200 → length m < 12 + count → writing_in_place address control count m ≡ outcome (Err TooLittleMemory) m
  unfolding writing_in_place
  too_little_in_place h k = rw (le-leb count 200 h, lt-leb (12 + count) (length m) k)

-- A length that the two tests of a frame's length answer passed both.
pub length_allowed : (few room : Bool) (n : ℕ) {r : ℕ}
    → (let answer : Result ℕ WriteError = Ok r in answer ≡ pick few (pick room (Ok n) (Err TooLittleMemory)) (Err TooMuchData))
    → (few ≡ true) × (room ≡ true) × (r ≡ n)
length_allowed true true n e = (refl, refl, cc)
length_allowed true false n e = cc
length_allowed false room n e = cc
