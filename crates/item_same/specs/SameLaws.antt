-- Laws of the comparison: it finds equal exactly what is equal, and goes from byte to byte.
use Rattle.std.specs.Prelude.{ℕ, suc, ◌≤◌, ◌≡◌, refl, List, [], ◌∷◌, Bool, true, false, ◌&&◌, length, drop, get_or, eqb}
use Rattle.std.proofs.lemmas.Bool.{false≢true}
use Rattle.std.proofs.Math.Bool.{and-eq-true_iff}
use Rattle.std.proofs.Common.{add-one, arith, drop-cons, eqb-true, eq-eqb}
use Rattle.std.proofs.Math.Seq.{drop-length}
use Rattle.laws.specs.TestLaws.{and-pick}
use Rattle.laws.specs.Walk.{Walk}
use Rattle.item_same.specs.Same.{same}

-- What is found equal is equal.
pub same-equal : (xs ys : List ℕ) → same xs ys ≡ true → xs ≡ ys
unfolding same
same-equal [] [] h = refl
same-equal [] (y ∷ ys) h = absurd (false≢true h)
same-equal (x ∷ xs) [] h = absurd (false≢true h)
same-equal (x ∷ xs) (y ∷ ys) h =
    let both = (and-eq-true_iff (eqb x y) (same xs ys)).0 h in
    cc (eqb-true x y both.0, same-equal xs ys both.1)

-- A list is equal to itself.
pub same_refl : (xs : List ℕ) → same xs xs ≡ true
unfolding same
same_refl [] = refl
same_refl (x ∷ xs) = rw (eq-eqb x x refl) (same_refl xs)

pub equal-same : (xs ys : List ℕ) → xs ≡ ys → same xs ys ≡ true
equal-same xs ys h = rw h (same_refl ys)

-- Lists of different lengths are not the same.
pub lengths_differ : (xs ys : List ℕ) → (length xs ≡ length ys → ⊥) → same xs ys ≡ false
unfolding same
lengths_differ [] [] h = absurd (h refl)
lengths_differ [] (y ∷ ys) h = refl
lengths_differ (x ∷ xs) [] h = refl
lengths_differ (x ∷ xs) (y ∷ ys) h = rw (lengths_differ xs ys (λ e. h (omega arith))) (neither (eqb x y))
  where
    neither : (t : Bool) → (t && false) ≡ false
    neither true = refl
    neither false = refl

-- The comparison of lists that are as long is a walk that stops at the first two bytes that differ.
pub same-walk : (xs ys : List ℕ) → length xs ≡ length ys
    → Walk (length xs) (λ i. eqb (get_or xs i 0) (get_or ys i 0)) (λ i. false) true (λ i. same (drop i xs) (drop i ys))
unfolding same
same-walk xs ys as_long =
    record {
      last = rw (drop-length, as_long, drop-length);
      next = λ i h. let below : suc i ≤ length ys = omega arith in
          rw (drop-cons xs i 0 h, drop-cons ys i 0 below, add-one) (and-pick (eqb (get_or xs i 0) (get_or ys i 0)) (same (drop (suc i) xs) (drop (suc i) ys)));
    }
