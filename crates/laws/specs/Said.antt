-- What the papers say of an answer. Each type that an operation answers with has one definition, its name ending in `_said`, that gives
-- the papers' number and values for each of its cases; promises about refusals are made by it.
use Rattle.std.specs.Prelude.{ℕ, refl, List, ◌↔◌}
use Rattle.laws.specs.Memory.{LeftAlone}

pub data Said : Type 0 where
  -- No refusal, with these values.
  values : List ℕ → Said
  -- An error reply, with its byte.
  error_byte : ℕ → Said
  -- Silence of a meter that a request was sent to, by the number of its refusal.
  silence : ℕ → Said
  -- A refusal, by the papers' number.
  refusal : ℕ → Said
  -- A refusal with the place that it is about.
  refusal_at : ℕ → ℕ → Said
  -- A refusal that the papers give no number.
  unnumbered : Said

-- An answer that is a refusal.
abbrev pub IsRefusal : Said → Type 0
IsRefusal (values numbers) = ⊥
IsRefusal (error_byte byte) = ⊥
IsRefusal (silence n) = ⊥
IsRefusal (refusal n) = Unit
IsRefusal (refusal_at n place) = Unit
IsRefusal unnumbered = Unit

-- On a refusal all is as before: stated over any answer, by what it says, and over whatever is given or lent.
abbrev pub AsBefore : {S : Type 0} → Said → S → S → Type 0
AsBefore said before after = IsRefusal said → LeftAlone before after

-- What demand 1 asks of an operation: its answer is a refusal exactly where the papers say so, and then all is as before.
pub record Refuses {S : Type 0} (said : Said) (When : Type 0) (before after : S) : Type 0 where
  pub exactly : IsRefusal said ↔ When
  pub as_before : AsBefore said before after

-- An answer that is a refusal, and one that is none.
pub refuses : {S : Type 0} {said : Said} {When : Type 0} {before : S} → When → IsRefusal said → Refuses said When before before
refuses when is = record { exactly = (λ r. when, λ w. is); as_before = λ r. refl }

pub answers : {S : Type 0} {said : Said} {When : Type 0} {before after : S} → (IsRefusal said → ⊥) → (When → ⊥) → Refuses said When before after
answers none never = record { exactly = (λ r. absurd (none r), λ w. absurd (never w)); as_before = λ r. absurd (none r) }
