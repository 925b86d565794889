-- Checks in document 01's order: the first failing check answers.
use Rattle.std.specs.Prelude.{List, [], ◌∷◌, Bool}
use Rattle.laws.specs.Test.{pick}

-- A check, and what it fails with.
pub record Check (A : Type 0) : Type 0 where
  pub holds : Bool
  pub failure : A

abbrev pub check : {A : Type 0} → Bool → A → Check A
check holds failure = record { holds = holds; failure = failure }

-- The first failing check answers, by what it fails with; where none fails, the answer is the one passed.
unfoldable pub first_failing : {A B : Type 0} → (A → B) → List (Check A) → B → B
first_failing fail [] passed = passed
first_failing fail (c ∷ checks) passed = pick c.holds (first_failing fail checks passed) (fail c.failure)
