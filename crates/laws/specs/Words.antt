-- Checks in the papers' words: what each says, and what it fails with. The first that does not hold answers.
use Rattle.std.specs.Prelude.{◌≡◌, List, [], ◌∷◌, true, ◌↔◌, ◌⊎◌}
use Rattle.laws.specs.Checks.{Check}

-- What a check says, what it fails with, and the checks behind it, which may speak of what it found.
pub data Words (A : Type 0) : Type 1 where
  done : Words A
  says : (P : Type 0) → A → (P → Words A) → Words A

-- Every check holds.
abbrev pub Every : {A : Type 0} → Words A → Type 0
Every done = Unit
Every (says P a behind) = (p : P) × Every (behind p)

-- A check fails with `failure`, and every check before it holds.
abbrev pub FirstFails : {A : Type 0} → Words A → A → Type 0
FirstFails done failure = ⊥
FirstFails (says P a behind) failure = ((P → ⊥) × (a ≡ failure)) ⊎ ((p : P) × FirstFails (behind p) failure)

-- Checks of definitions say these words: where those before it hold, each holds exactly where its words do, and fails with the same.
abbrev pub Say : {A : Type 0} → List (Check A) → Words A → Type 0
Say [] done = Unit
Say [] (says P a behind) = ⊥
Say (c ∷ checks) done = ⊥
Say (c ∷ checks) (says P a behind) = ((c.holds ≡ true) ↔ P) × (c.failure ≡ a) × ((p : P) → Say checks (behind p))
