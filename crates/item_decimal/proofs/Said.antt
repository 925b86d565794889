-- What the papers say of the answers of packed decimal: they number none of its refusals. When a number is not packed, and that the memory is then as it was.
use Rattle.std.specs.Prelude.{ℕ, ◌^◌, ◌≤◌, List, [], ◌∷◌, length, ltb, Err, Ok, Result}
use Rattle.item_decimal.specs.Answers.{too_large}
use Rattle.item_decimal.specs.declared.TooLarge.{TooLarge}
use Rattle.item_decimal.specs.declared.UnpackError.{UnpackError}
use Rattle.item_decimal.specs.declared.UnpackError.TheVariants.{NotDecimal, TooLong}
use Rattle.std.proofs.Common.{arith, ltb-true, ltb-false}
use Rattle.laws.specs.Memory.{Outcome}
use Rattle.laws.specs.Said.{Said, values, unnumbered, Refuses, refuses, answers}
use Rattle.laws.specs.TestLaws.{pick_cases}
use Rattle.item_decimal.specs.Decimal.{packing}

-- A number that does not fit its bytes.
abbrev pub packed_said : Result Unit TooLarge → Said
packed_said (Ok tt) = values []
packed_said (Err e) = unnumbered

-- Bytes whose number might not fit, and a half byte above 9.
abbrev pub unpacked_said : Result ℕ UnpackError → Said
unpacked_said (Ok n) = values (n ∷ [])
unpacked_said (Err TooLong) = unnumbered
unpacked_said (Err (NotDecimal i)) = unnumbered

pub packing-refuses : (n : ℕ) (m : List ℕ) → let o = packing n m in Refuses (packed_said o.answer) (100 ^ length m ≤ n) m o.memory
unfolding packing
packing-refuses n m =
    pick_cases (λ (o : Outcome (Result Unit TooLarge)). Refuses (packed_said o.answer) (100 ^ length m ≤ n) m o.memory) (ltb n (100 ^ length m))
    (λ fits. answers (λ r. r) (λ large. omega (arith, ltb-true n (100 ^ length m) fits)))
    (λ large. refuses (ltb-false n (100 ^ length m) large) tt)
