-- How every operation speaks of memory lent to it: its answer is paired with the memory as it stands on return.
use Rattle.std.specs.Prelude.{ℕ, ◌<◌, ◌≡◌, List, ◌++◌, length, drop}
use Rattle.laws.specs.All.{AllOf}

-- An answer together with the lent memory as it stands when the call returns.
pub record Outcome (A : Type 0) : Type 0 where
  pub answer : A
  pub memory : List ℕ

abbrev pub outcome : {A : Type 0} → A → List ℕ → Outcome A
outcome a m = record { answer = a; memory = m }

-- `written` at the front, and beyond it the memory as it was.
abbrev pub over : List ℕ → List ℕ → List ℕ
over written m = written ++ drop (length written) m

-- What a refusal, a silence or a call leaves alone is as it was.
abbrev pub LeftAlone : {A : Type 0} → A → A → Type 0
LeftAlone before after = after ≡ before

-- A number is a byte, and every number of a list is one.
abbrev pub IsByte : ℕ → Type 0
IsByte b = b < 256

abbrev pub Bytes : List ℕ → Type 0
Bytes bytes = AllOf IsByte bytes
