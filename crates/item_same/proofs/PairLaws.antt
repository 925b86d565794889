-- What `==` answers of two lists of bytes is what `same` says of them.
use Rattle.std.proofs.Common.{◌≡◌, ℕ, List, [], ◌∷◌, ◌&&◌, eqb, refl, ap}
use Rattle.std.specs.Cmp.Lexicographic.{pointwise}
use Rattle.item_same.specs.Same.{same}

pub pairwise : (xs ys : List ℕ) → pointwise eqb xs ys ≡ same xs ys
unfolding same
pairwise [] [] = refl
pairwise [] (y ∷ ys) = refl
pairwise (x ∷ xs) [] = refl
pairwise (x ∷ xs) (y ∷ ys) = ap (λ t. eqb x y && t) (pairwise xs ys)
