-- Laws of memory that is written from the front on: one store, a run of stores, a loop of stores, a part that is lent; and of a test.
use Rattle.std.specs.Prelude.{ℕ, zero, suc, ◌+◌, ◌-◌, ◌≤◌, ◌<◌, ◌≡◌, refl, List, [], ◌∷◌, ◌++◌, map, length, take, drop, get_or, set}
use Rattle.std.proofs.Common.{ap, sym, ◌∙◌, append-nil, append_assoc, le_of_suc-le-suc, not-suc-le-zero, add-one, arith, length-append, length-set, length-drop, take-append-drop, drop_of_length-le, take_all, take-suc, take_at, drop_at, drop-drop, length-take-le}
use Rattle.std.proofs.lemmas.List.{map-append, length-map}
use Rattle.std.proofs.lemmas.List.Edits.{sets}
use Rattle.std.proofs.Math.Seq.{take-length, append_snoc}
use Rattle.laws.specs.Memory.{over}

-- What fits is written without a change of the length.
pub over-length : (xs m : List ℕ) → length xs ≤ length m → length (over xs m) ≡ length m
over-length xs m h = rw (length-append, length-drop) (omega arith)

-- The memory's own front, written over it, changes nothing.
pub over-itself : (n : ℕ) (m : List ℕ) → n ≤ length m → over (take n m) m ≡ m
over-itself n m h = rw length-take-le (take-append-drop n m)

-- What is written over less hides it.
pub over-over : (xs ys m : List ℕ) → length ys ≤ length xs → over xs (over ys m) ≡ over xs m
over-over [] [] m h = refl
over-over [] (y ∷ ys) m h = absurd (not-suc-le-zero h)
over-over (x ∷ xs) [] m h = refl
over-over (x ∷ xs) (y ∷ ys) [] h = ap (λ (l : List ℕ). x ∷ (xs ++ l)) (drop_of_length-le (ys ++ []) {i = length xs} (rw append-nil (le_of_suc-le-suc h)))
over-over (x ∷ xs) (y ∷ ys) (z ∷ m) h = ap (λ (l : List ℕ). x ∷ l) (over-over xs ys m (le_of_suc-le-suc h))

-- What is read behind what is written is as it was.
pub over-behind : (xs m : List ℕ) (i : ℕ) → length xs ≤ i → i < length m → get_or (over xs m) i 0 ≡ get_or m i 0
over-behind [] m i h k = refl
over-behind (x ∷ xs) [] i h k = absurd (not-suc-le-zero k)
over-behind (x ∷ xs) (y ∷ m) zero h k = absurd (not-suc-le-zero h)
over-behind (x ∷ xs) (y ∷ m) (suc i) h k = over-behind xs m i (le_of_suc-le-suc h) (le_of_suc-le-suc k)

-- One store just behind what is written.
pub over-next : (xs m : List ℕ) (i v : ℕ) → length xs ≡ i → i < length m → set (over xs m) i v ≡ over (xs ++ (v ∷ [])) m
over-next xs m i v e h = rw (← e) (at_seam xs m (omega arith))
  where
    at_seam : (xs m : List ℕ) → length xs < length m → set (over xs m) (length xs) v ≡ over (xs ++ (v ∷ [])) m
    at_seam [] [] h = absurd (not-suc-le-zero h)
    at_seam [] (y ∷ m) h = refl
    at_seam (x ∷ xs) [] h = absurd (not-suc-le-zero h)
    at_seam (x ∷ xs) (y ∷ m) h = ap (λ (l : List ℕ). x ∷ l) (at_seam xs m (le_of_suc-le-suc h))

-- A run of stores just behind what is written.
pub over-run : (vs xs m : List ℕ) (i : ℕ) → length xs ≡ i → i + length vs ≤ length m → sets (over xs m) i vs ≡ over (xs ++ vs) m
over-run [] xs m i e h = rw append-nil
over-run (v ∷ vs) xs m i e h =
    let more : length (xs ++ (v ∷ [])) ≡ suc i = rw (length-append, e) (omega arith) in
    rw (over-next xs m i v e (omega arith), over-run vs (xs ++ (v ∷ [])) m (suc i) more (omega arith), append_snoc)

-- A run of stores from place `n` on.
pub run-from : (vs m : List ℕ) (n : ℕ) → n + length vs ≤ length m → sets m n vs ≡ over (take n m ++ vs) m
run-from vs m n h =
    let front : length (take n m) ≡ n = length-take-le n m (omega arith) in
    let itself : over (take n m) m ≡ m = over-itself n m (omega arith) in
    ap (λ (l : List ℕ). sets l n vs) (sym itself) ∙ over-run vs (take n m) m n front h

-- A part from place `n` on that is lent, written at its front and comes back: what is written stands behind what was written before.
pub lent-over : (n : ℕ) (xs ys m : List ℕ) → length xs ≡ n → n + length ys ≤ length m
    → let o = over xs m in take n o ++ (over ys (take (length o - n) (drop n o)) ++ drop (length o - n) (drop n o)) ≡ over (xs ++ ys) m
lent-over n xs ys m e h =
    let same : length (over xs m) ≡ length m = over-length xs m (omega arith) in
    let rest : drop n (over xs m) ≡ drop n m = drop_at xs (drop (length xs) m) n e ∙ ap (λ (k : ℕ). drop k m) e in
    let long : length (drop n m) ≡ length m - n = length-drop n m in
    let whole : take (length m - n) (drop n m) ≡ drop n m = take_all (length m - n) (drop n m) (omega arith) in
    let none : drop (length m - n) (drop n m) ≡ [] = drop_of_length-le (drop n m) {i = length m - n} (omega arith) in
    rw (take_at xs (drop (length xs) m) n e, same, rest, whole, none, append-nil, length-append, e, ← drop-drop, append_assoc)

-- What a copy leaves is what is written over the front.
pub copied : (s m : List ℕ) → take (length s) s ++ drop (length s) m ≡ over s m
copied s m = rw take-length

-- `zs` is `ys`, over whose front the first `i` bytes of `xs` are written, each through `f`.
pub record Mapping (f : ℕ → ℕ) (xs ys : List ℕ) (i : ℕ) (zs : List ℕ) : Type 0 where
  pub passed : i ≤ length xs
  pub room : length xs ≤ length ys
  pub kept : length zs ≡ length ys
  pub so_far : zs ≡ over (map f (take i xs)) ys

-- Before the first store nothing is written.
pub mapping_start : {f : ℕ → ℕ} {xs ys : List ℕ} → length xs ≤ length ys → Mapping f xs ys 0 ys
mapping_start h = record { passed = omega arith; room = h; kept = refl; so_far = refl }

module _ {f : ℕ → ℕ} {xs ys zs : List ℕ} {i : ℕ} where
  -- So many bytes are written.
  mapping_length : Mapping f xs ys i zs → length (map f (take i xs)) ≡ i
  mapping_length m = length-map (take i xs) f ∙ length-take-le i xs m.passed

  -- The store of the next byte.
  pub mapping_next : {v : ℕ} → Mapping f xs ys i zs → i < length xs → v ≡ f (get_or xs i 0) → Mapping f xs ys (i + 1) (set zs i v)
  mapping_next {v} m h e =
      let one_more : map f (take (i + 1) xs) ≡ map f (take i xs) ++ (v ∷ []) = rw (add-one, take-suc xs i 0, map-append, e) in
      record {
        passed = omega arith;
        room = m.room;
        kept = length-set zs i v ∙ m.kept;
        so_far = rw (m.so_far, one_more) (over-next (map f (take i xs)) ys i v (mapping_length m) (omega arith));
      }

  -- After the last store all of `xs` is written.
  pub mapping_end : Mapping f xs ys i zs → length xs ≤ i → zs ≡ over (map f xs) ys
  mapping_end m h = rw (m.so_far, take_all)
