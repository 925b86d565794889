-- Parts of lists.
use Rattle.std.specs.Prelude.{ℕ, ◌+◌, List, ◌++◌, length, take, drop}

-- A part of a list, and the list with other bytes in a part's place.
abbrev pub part : ℕ → ℕ → List ℕ → List ℕ
part at n xs = take n (drop at xs)

unfoldable pub with_part : ℕ → List ℕ → List ℕ → List ℕ
with_part at value xs = take at xs ++ (value ++ drop (at + length value) xs)
