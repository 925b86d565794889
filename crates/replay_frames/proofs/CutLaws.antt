-- Bytes are cut at the next end, whatever they are: bytes too few for the frame that their data length says are cut off whole.
use Rattle.std.specs.Prelude.{ℕ, zero, suc, ◌+◌, ◌-◌, ◌<◌, ◌≡◌, refl, List, [], ◌∷◌, length, take, drop, leb}
use Rattle.std.proofs.Common.{ap, ◌∙◌, not-suc-le-zero, arith, length-drop, drop_of_length-le, take_all, drop-drop, leb-false}
use Rattle.laws.specs.TestLaws.{pick_cases}
use Rattle.frame.specs.Frame.{length_of}
use Rattle.frame.specs.EndToEnd.{cut_from, cut, next_end}

-- Bytes that are cut off already are passed over.
cut-passes : (k : ℕ) (bytes : List ℕ) → cut_from k bytes ≡ cut (drop k bytes)
unfolding cut_from
cut-passes zero bytes = refl
cut-passes (suc k) [] = refl
cut-passes (suc k) (b ∷ bytes) = cut-passes k bytes

-- The first that is cut off is as long as the data length says, and cutting goes on behind it.
cut-front : (bytes : List ℕ) → 0 < length bytes → cut bytes ≡ take (12 + length_of bytes) bytes ∷ cut (drop (12 + length_of bytes) bytes)
unfolding cut_from
cut-front [] h = absurd (not-suc-le-zero h)
cut-front (b ∷ bytes) h =
    let size : suc (11 + length_of (b ∷ bytes)) ≡ 12 + length_of (b ∷ bytes) = omega arith in
    let behind : drop (11 + length_of (b ∷ bytes)) bytes ≡ drop (12 + length_of (b ∷ bytes)) (b ∷ bytes) = ap (λ (k : ℕ). drop k (b ∷ bytes)) size in
    rw (cut-passes (11 + length_of (b ∷ bytes)) bytes, behind)

-- Where there are bytes from a place on, those up to the next end are the first that is cut off, and cutting goes on from there.
pub cut-from : (bytes : List ℕ) (at : ℕ) → at < length bytes
    → cut (drop at bytes) ≡ take (next_end bytes at - at) (drop at bytes) ∷ cut (drop (next_end bytes at) bytes)
unfolding next_end
cut-from bytes at h =
    pick_cases P (leb (at + 12 + length_of (drop at bytes)) (length bytes)) (λ fits. ends) (λ few. short (leb-false _ _ few))
  where
    P : ℕ → Type 0
    P end = cut (drop at bytes) ≡ take (end - at) (drop at bytes) ∷ cut (drop end bytes)

    front : cut (drop at bytes) ≡ take (12 + length_of (drop at bytes)) (drop at bytes) ∷ cut (drop (12 + length_of (drop at bytes)) (drop at bytes))
    front = cut-front (drop at bytes) (rw length-drop (omega arith))

    ends : P (at + 12 + length_of (drop at bytes))
    ends =
        let size : at + 12 + length_of (drop at bytes) - at ≡ 12 + length_of (drop at bytes) = omega arith in
        let on : at + (12 + length_of (drop at bytes)) ≡ at + 12 + length_of (drop at bytes) = omega arith in
        let behind : drop (12 + length_of (drop at bytes)) (drop at bytes) ≡ drop (at + 12 + length_of (drop at bytes)) bytes =
        drop-drop (12 + length_of (drop at bytes)) at bytes ∙ ap (λ (k : ℕ). drop k bytes) on in
        rw (size, ← behind) front

    short : length bytes < at + 12 + length_of (drop at bytes) → P (length bytes)
    short few =
        let left : length (drop at bytes) ≡ length bytes - at = length-drop at bytes in
        let all : take (length bytes - at) (drop at bytes) ≡ drop at bytes = take_all (length bytes - at) (drop at bytes) (omega arith) in
        let more : take (12 + length_of (drop at bytes)) (drop at bytes) ≡ drop at bytes =
        take_all (12 + length_of (drop at bytes)) (drop at bytes) (omega arith) in
        let none : drop (length bytes) bytes ≡ [] = drop_of_length-le bytes {i = length bytes} (omega arith) in
        let behind : drop (12 + length_of (drop at bytes)) (drop at bytes) ≡ [] =
        drop_of_length-le (drop at bytes) {i = 12 + length_of (drop at bytes)} (omega arith) in
        front ∙ rw (all, more, none, behind)
