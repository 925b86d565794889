-- Laws of what a test picks.
use Rattle.std.specs.Prelude.{◌≡◌, refl, Bool, true, false, ◌&&◌, ◌||◌, ◌⊎◌}
use Rattle.std.proofs.lemmas.Bool.{false≢true}
use Rattle.std.proofs.Common.{inl, inr}
use Rattle.laws.specs.Test.{pick}

-- What holds of both ways out of a test holds of what it picks.
pub pick_cases {ℓ} : {A : Type 0} (P : A → Type ℓ) (t : Bool) {a b : A} → (t ≡ true → P a) → (t ≡ false → P b) → P (pick t a b)
pick_cases P true first second = first refl
pick_cases P false first second = second refl

-- What is picked where both are the same.
pub pick_same : {A : Type 0} (t : Bool) {a : A} → pick t a a ≡ a
pick_same true = refl
pick_same false = refl

-- A test that does not hold.
pub not_true : (t : Bool) → (t ≡ true → ⊥) → t ≡ false
not_true true h = absurd (h refl)
not_true false h = refl

-- Which of two that differ was picked says what the test gave.
pub picked_first : {A : Type 0} (t : Bool) {a b x : A} → (b ≡ x → false ≡ true) → pick t a b ≡ x → (t ≡ true) × (a ≡ x)
picked_first true differ h = (refl, h)
picked_first false differ h = absurd (false≢true (differ h))

pub picked_second : {A : Type 0} (t : Bool) {a b : A} → (a ≡ b → true ≡ false) → pick t a b ≡ b → t ≡ false
picked_second true differ h = differ h
picked_second false differ h = refl

-- Two tests that both have to hold: the second is picked where the first holds.
pub and-pick : (t u : Bool) → (t && u) ≡ pick t u false
and-pick true u = refl
and-pick false u = refl

-- Of two tests of which one has to hold, one does.
pub either : (t u : Bool) → (t || u) ≡ true → (t ≡ true) ⊎ (u ≡ true)
either true u h = inl refl
either false u h = inr h
