-- Laws of parts: bytes put in a part's place, and bytes copied over a whole list or over a part that is lent.
use Prim.Native.Nat.{ℕ, ◌+◌, ◌-◌, ◌≤◌}
use Rattle.std.specs.Prelude.{◌≡◌, take}
use Rattle.std.proofs.Math.Path.{sym, ap}
use Rattle.std.proofs.Common.{◌∙◌, length-append, length-take, length-drop, take-append-drop, drop_of_length-le, take_at, drop_at}
use mathlib.Core.List.{List, [], ◌++◌, append-nil, append_assoc}
use native.Mathlib.Omega.{arith}
use Rattle.std.proofs.Math.ListN.{length, drop}
use Rattle.std.proofs.Math.Seq.{length-take-le, take-length, drop-append-add, drop-drop}
use Rattle.std.proofs.lemmas.List.{take-append-le, drop-append-le}
use Rattle.laws.specs.Memory.{over}
use Rattle.laws.specs.MemoryLaws.{over-length, copied, lent-over}
use Rattle.laws.specs.Part.{part, with_part}

-- A part has its length, and a part of what stands in front is the same whatever follows.
pub part_length : (at n : ℕ) (xs : List ℕ) → at + n ≤ length xs → length (part at n xs) ≡ n
part_length at n xs h = length-take-le n (drop at xs) (rw length-drop (omega arith))

part-front : (at n : ℕ) (front rest : List ℕ) → at + n ≤ length front → part at n (front ++ rest) ≡ part at n front
part-front at n front rest h =
    let room : n ≤ length (drop at front) = rw length-drop (omega arith) in
    rw (drop-append-le at front rest (omega arith)) (take-append-le n (drop at front) rest room)

-- Two parts share no byte: the other stands before the first, or behind it.
pub data Apart (at n other k : ℕ) : Type 0 where
  before : other + k ≤ at → Apart at n other k
  behind : at + n ≤ other → Apart at n other k

-- Bytes put in a part's place: they are read back, other parts are as they were, and the length is kept.
module _ (at : ℕ) (value xs : List ℕ) where
  pub put-length : at + length value ≤ length xs → length (with_part at value xs) ≡ length xs
  unfolding with_part
  put-length h = simp (length-append, length-drop) (omega (arith, length-take-le at xs (omega arith)))

  pub put_back : (n : ℕ) → at ≤ length xs → length value ≡ n → part at n (with_part at value xs) ≡ value
  unfolding with_part
  put_back n h e = rw (drop_at (take at xs) _ at (length-take-le at xs h)) (take_at value _ n e)

  pub put-apart : (other k : ℕ) → at ≤ length xs → Apart at (length value) other k → part other k (with_part at value xs) ≡ part other k xs
  unfolding with_part
  put-apart other k h (before a) =
      let front : other + k ≤ length (take at xs) = rw (length-take-le at xs h) a in
      part-front other k (take at xs) _ front
      ∙ sym (part-front other k (take at xs) (drop at xs) front)
      ∙ ap (λ (l : List ℕ). part other k l) (take-append-drop at xs)
  put-apart other k h (behind a) =
      let j : ℕ = other - (at + length value) in
      let front : length (take at xs ++ value) + j ≡ other = rw (length-append, length-take-le at xs h) (omega arith) in
      let same : at + length value + j ≡ other = omega arith in
      let rest : List ℕ = drop (at + length value) xs in
      cc (append_assoc (take at xs) value rest, drop-append-add (take at xs ++ value) rest j, drop-drop j (at + length value) xs)

-- What is copied over no more than its length is all that is left.
pub copied-whole : (value xs : List ℕ) → length xs ≤ length value → take (length value) value ++ drop (length value) xs ≡ value
copied-whole value xs h =
    let none : drop (length value) xs ≡ [] = drop_of_length-le xs {i = length value} h in
    rw (take-length, none) (append-nil value)

-- A part that is lent, copied over and comes back.
pub copied-part : (at end : ℕ) (value xs back : List ℕ) → at + length value ≡ end
    → back ≡ take (length value) value ++ drop (length value) (take (end - at) (drop at xs))
    → take at xs ++ (back ++ drop (end - at) (drop at xs)) ≡ with_part at value xs
unfolding with_part
copied-part at end value xs back e h =
    let count : end - at ≡ length value = omega arith in
    let most : length (take (end - at) (drop at xs)) ≤ length value = rw (length-take, count) (omega arith) in
    let all : back ≡ value = h ∙ copied-whole value (take (end - at) (drop at xs)) most in
    rw (all, count, drop-drop)

-- Bytes copied to a part that is lent from place `n` on, just behind what is written.
pub copied_behind : (n : ℕ) (xs ys m : List ℕ) {o y : List ℕ} → length xs ≡ n → n + length ys ≤ length m → o ≡ over xs m
    → y ≡ take (length ys) ys ++ drop (length ys) (take (length m - n) (drop n o))
    → take n o ++ (y ++ drop (length m - n) (drop n o)) ≡ over (xs ++ ys) m
copied_behind n xs ys m {o} {y} e h p q =
    let same : length o ≡ length m = ap length p ∙ over-length xs m (omega arith) in
    let whole : y ≡ over ys (take (length m - n) (drop n o)) = q ∙ copied ys (take (length m - n) (drop n o)) in
    rw (whole, ← same, p) (lent-over n xs ys m e h)
