-- Laws of checks in their order: when all are passed, what answers otherwise, and checks gone through one after the other.
use Rattle.std.specs.Prelude.{ℕ, ◌≡◌, Bool, true, false, drop}
use Rattle.std.proofs.Math.Path.{refl, sym}
use Rattle.std.proofs.Common.{◌∙◌}
use mathlib.Core.List.{List, [], ◌∷◌}
use Rattle.laws.specs.Test.{pick}
use Rattle.laws.specs.TestLaws.{pick_cases}
use Rattle.laws.specs.Checks.{Check, first_failing}

-- Every check of a list holds.
abbrev pub AllHold : {A : Type 0} → List (Check A) → Type 0
AllHold [] = Unit
AllHold (c ∷ checks) = (c.holds ≡ true) × AllHold checks

-- What holds of the failure of every check.
abbrev pub EachFailure : {A : Type 0} → (A → Type 0) → List (Check A) → Type 0
EachFailure P [] = Unit
EachFailure P (c ∷ checks) = P c.failure × EachFailure P checks

-- The checks are passed where every one holds; else the failure of one of them answers.
module _ {A B : Type 0} (fail : A → B) (passed : B) where
  pub all_pass : (checks : List (Check A)) → AllHold checks → first_failing fail checks passed ≡ passed
  unfolding first_failing
  all_pass [] h = refl
  all_pass (c ∷ checks) h = rw h.0 (all_pass checks h.1)

  pub pass_or_fail : (P : B → Type 0) (Q : A → Type 0) (checks : List (Check A)) → EachFailure Q checks
      → (AllHold checks → P passed) → ((a : A) → Q a → P (fail a)) → P (first_failing fail checks passed)
  unfolding first_failing
  pass_or_fail P Q [] h pass failing = pass tt
  pass_or_fail P Q (c ∷ checks) h pass failing =
      pick_cases P c.holds (λ e. pass_or_fail P Q checks h.1 (λ all. pass (e, all)) failing) (λ e. failing c.failure h.0)

-- The same where nothing is asked of the failures.
pub pass_or_any : {A B : Type 0} (fail : A → B) (passed : B) (P : B → Type 0) (checks : List (Check A)) → (AllHold checks → P passed)
    → ((a : A) → P (fail a)) → P (first_failing fail checks passed)
pass_or_any {A} fail passed P checks pass failing = pass_or_fail fail passed P (λ a. Unit) checks (nothing checks) pass (λ a u. failing a)
  where
    nothing : (checks : List (Check A)) → EachFailure (λ a. Unit) checks
    nothing [] = tt
    nothing (c ∷ checks) = (tt, nothing checks)

-- What is made of an answer is made of each failure and of the one passed.
pub first-failing-through : {A B C : Type 0} (g : B → C) (fail : A → B) (through : A → C) → ((a : A) → g (fail a) ≡ through a) → (passed : B)
    (checks : List (Check A)) → g (first_failing fail checks passed) ≡ first_failing through checks (g passed)
unfolding first_failing
first-failing-through g fail through h passed [] = refl
first-failing-through g fail through h passed (c ∷ checks) =
    go c.holds (first-failing-through g fail through h passed checks)
  where
    go : (t : Bool) → g (first_failing fail checks passed) ≡ first_failing through checks (g passed)
        → g (pick t (first_failing fail checks passed) (fail c.failure)) ≡ pick t (first_failing through checks (g passed)) (through c.failure)
    go true rest = rest
    go false rest = h c.failure

-- The checks from these on decide on an answer: those before them hold.
pub record Left {A B : Type 0} (fail : A → B) (answer passed : B) (checks : List (Check A)) : Type 0 where
  pub decides : answer ≡ first_failing fail checks passed

-- The first `k` of the checks hold.
abbrev pub Held : {A B : Type 0} → (A → B) → List (Check A) → B → ℕ → Type 0
Held fail checks passed k = Left fail (first_failing fail checks passed) passed (drop k checks)

-- Before the first check all are left.
pub all_left : {A B : Type 0} {fail : A → B} {checks : List (Check A)} {passed : B} → Left fail (first_failing fail checks passed) passed checks
all_left = record { decides = refl }

module _ {A B : Type 0} {fail : A → B} {answer passed : B} where
  module _ {c : Check A} {checks : List (Check A)} (left : Left fail answer passed (c ∷ checks)) where
    -- A check that holds is passed over.
    pub check-holds : c.holds ≡ true → Left fail answer passed checks
    unfolding first_failing
    check-holds h = record { decides = left.decides ∙ rw h }

    -- A check that fails answers.
    pub check-fails : c.holds ≡ false → fail c.failure ≡ answer
    unfolding first_failing
    check-fails h = sym (left.decides ∙ rw h)

  -- Where no check is left, the answer is the one passed.
  pub no_check_left : Left fail answer passed [] → passed ≡ answer
  unfolding first_failing
  no_check_left left = sym left.decides
