-- The part of a list between two places, and the first place of a number in a list.
use Rattle.std.specs.Prelude.{ℕ, zero, suc, Bool, true, false, List, [], ◌∷◌, take, drop, eqb}

-- The elements from `from` on and before `to`.
unfoldable pub slice : ℕ → ℕ → List ℕ → List ℕ
slice from to xs = drop from (take to xs)

-- The first place behind an element, which is the one looked for or not.
unfoldable pub index_after : Bool → ℕ → ℕ
index_after true rest = zero
index_after false rest = suc rest

-- How many elements stand before the first that equals a number; where none does, all of them.
unfoldable pub index_of : ℕ → List ℕ → ℕ
index_of b [] = zero
index_of b (x ∷ xs) = index_after (eqb x b) (index_of b xs)
