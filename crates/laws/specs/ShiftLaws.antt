-- Laws of a list whose elements shift down by one, the last first.
use Rattle.std.specs.Prelude.{ℕ, zero, suc, ◌-◌, ◌≤◌, ◌<◌, ◌≡◌, refl, List, [], ◌∷◌, ◌++◌, length, take, drop, get_or, set}
use Rattle.std.proofs.Common.{ap, arith}
use Rattle.std.proofs.Math.Numerals.{unary_clauses}

module _ {A : Type 0} where
  -- Of the first `n` elements those from place `i` on stand one place further down; up to that place all is as it was.
  abbrev shifted : ℕ → ℕ → List A → List A
  shifted i n xs = take (suc i) xs ++ drop i (take n xs)

  shifted_start : (n : ℕ) (xs : List A) → length xs ≡ suc n → xs ≡ shifted n n xs
  shifted_start n [] size = absurd (omega arith)
  shifted_start zero (x ∷ []) size = refl
  shifted_start zero (x ∷ y ∷ xs) size = absurd (omega arith)
  shifted_start (suc n) (x ∷ xs) size = ap {B = List A} (◌∷◌ x) (shifted_start n xs (omega arith))

  shifted_one : (k n : ℕ) (xs : List A) (d : A) → k < n → suc k < length xs → set (shifted (suc k) n xs) (suc k) (get_or xs k d) ≡ shifted k n xs
  shifted_one k n [] d below long = absurd (omega arith)
  shifted_one k n (x ∷ []) d below long = absurd (omega arith)
  shifted_one k zero (x ∷ y ∷ xs) d below long = absurd (omega arith)
  shifted_one zero (suc n) (x ∷ y ∷ xs) d below long = refl
  shifted_one (suc k) (suc n) (x ∷ y ∷ xs) d below long = ap {B = List A} (◌∷◌ x) (shifted_one k n (y ∷ xs) d (omega arith) (omega arith))

  -- `ys` is `xs`, a list of one more than `n`, with the elements from place `i` on shifted.
  pub record Shifting (n : ℕ) (xs : List A) (i : ℕ) (ys : List A) : Type 0 where
    pub size : length xs ≡ suc n
    pub passed : i ≤ n
    pub so_far : ys ≡ shifted i n xs

  pub shifting_start : (n : ℕ) (xs : List A) → length xs ≡ suc n → Shifting n xs n xs
  shifting_start n xs size = record { size = size; passed = omega arith; so_far = shifted_start n xs size }

  pub shifting_next : {n : ℕ} {xs : List A} {i : ℕ} {ys : List A} (d : A) → Shifting n xs i ys → 0 < i → Shifting n xs (i - 1) (set ys i (get_or xs (i - 1) d))
  shifting_next {i = zero} d m h = absurd (omega arith)
  shifting_next {n} {xs} {i = suc k} {ys} d m h =
      record {
        size = m.size;
        passed = omega arith;
        so_far = rw m.so_far (simp unary_clauses (shifted_one k n xs d m.passed (omega arith)));
      }

  -- At the end the first element stands twice, and the last is gone.
  pub shifting_end : {n : ℕ} {xs : List A} {i : ℕ} {ys : List A} → Shifting n xs i ys → i ≤ 0 → ys ≡ take 1 xs ++ take n xs
  shifting_end {i = zero} m h = m.so_far
  shifting_end {i = suc k} m h = absurd (omega arith)
