-- Laws of digits that are stored from a place on, one byte's behind another's: the start of such a run, one byte more, and how many
-- bytes are passed.
use Rattle.std.specs.Prelude.{ℕ, suc, ◌+◌, ◌*◌, ◌≤◌, ◌<◌, ◌≡◌, refl, length, take, set, get_or}
use Rattle.std.proofs.Common.{ap, sym, ◌∙◌, add-zero, add-one, arith, length-take-le, take-suc}
use mathlib.Core.List.{List, [], ◌∷◌, ◌++◌, map, append-nil, append_assoc, map-append}
use Rattle.std.proofs.lemmas.List.{length-map}
use Rattle.std.proofs.lemmas.List.Edits.{sets}
use Rattle.std.proofs.Math.Seq.{length-sets}
use Rattle.listing.specs.Text.{hex_of, hex_all}

-- A run of stores just behind another is one run.
pub run_on : (m xs ys : List ℕ) (i j : ℕ) → j ≡ i + length xs → sets (sets m i xs) j ys ≡ sets m i (xs ++ ys)
run_on m [] ys i j e = rw (e, add-zero)
run_on m (x ∷ xs) ys i j e = run_on (set m i x) xs ys (suc i) j (omega arith)

-- The digits of one byte more.
pub hex_next : (xs : List ℕ) (b : ℕ) → hex_all (xs ++ (b ∷ [])) ≡ hex_all xs ++ hex_of b
unfolding hex_all
hex_next [] b = append-nil (hex_of b)
hex_next (x ∷ xs) b = rw (hex_next xs b) (sym (append_assoc (hex_of x) (hex_all xs) (hex_of b)))

-- Two digits for each byte.
pub hex_length : (xs : List ℕ) → length (hex_all xs) ≡ 2 * length xs
unfolding hex_all hex_of
hex_length [] = refl
hex_length (x ∷ xs) = let rest = hex_length xs in omega arith

-- `n` is `m`, with the digits of the bytes passed from place `start` on.
pub record Digits (passed m : List ℕ) (start : ℕ) (n : List ℕ) : Type 0 where
  pub kept : length n ≡ length m
  pub so_far : n ≡ sets m start (hex_all passed)

-- Before the first byte nothing is written.
pub digits-start : (m : List ℕ) (start : ℕ) → Digits [] m start m
unfolding hex_all
digits-start m start = record { kept = refl; so_far = refl }

-- The digits of one byte more go just behind those of the bytes before it.
pub digits-next : {m n n' : List ℕ} {start at : ℕ} {passed passed' : List ℕ} (b : ℕ) → Digits passed m start n → at ≡ start + 2 * length passed → n' ≡ sets n at (hex_of b) → passed ++ (b ∷ []) ≡ passed' → Digits passed' m start n'
digits-next {m} {n} {n'} {start} {at} {passed} {passed'} b d place stored more =
    let behind : at ≡ start + length (hex_all passed) = omega (arith, hex_length passed) in
    record {
      kept = ap length stored ∙ length-sets n at (hex_of b) ∙ d.kept;
      so_far = rw (stored, d.so_far, ← more, hex_next) (run_on m (hex_all passed) (hex_of b) start at behind);
    }

-- From the first byte on: one byte more, through `f`.
pub forward-next : (f : ℕ → ℕ) (xs : List ℕ) (i : ℕ) → i < length xs → map f (take i xs) ++ (f (get_or xs i 0) ∷ []) ≡ map f (take (i + 1) xs)
forward-next f xs i h = rw (add-one, take-suc xs i 0, map-append)

-- So many bytes are passed.
pub forward-length : (f : ℕ → ℕ) (xs : List ℕ) (i : ℕ) → i ≤ length xs → length (map f (take i xs)) ≡ i
forward-length f xs i h = rw (length-map, length-take-le)
