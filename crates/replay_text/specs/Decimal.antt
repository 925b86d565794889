-- A number in decimal.
use Rattle.std.specs.Prelude.{ℕ, zero, suc, ◌+◌, ◌/◌, ◌%◌, List, [], ◌∷◌, ◌++◌, ltb}
use Rattle.laws.specs.Test.{pick}

-- The digits of a number that has at most so many, the highest first.
unfoldable pub decimal_within : ℕ → ℕ → List ℕ
decimal_within zero n = []
decimal_within (suc k) n = pick (ltb n 10) ((48 + n) ∷ []) (decimal_within k (n / 10) ++ ((48 + n % 10) ∷ []))

-- A number in decimal: no zeros in front, and one zero for zero. No number has more digits than one more than itself.
unfoldable pub decimal : ℕ → List ℕ
decimal n = decimal_within (suc n) n
