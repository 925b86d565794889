-- Laws of checks that say words: all hold exactly where every word does, and the first word that does not hold answers.
use Rattle.std.specs.Prelude.{◌≡◌, ◌↔◌}
use Rattle.std.proofs.Math.Path.{sym, ap}
use Rattle.std.proofs.Common.{◌∙◌, inl, inr}
use mathlib.Core.List.{List, [], ◌∷◌}
use Rattle.std.proofs.Math.Bool.{true≢false}
use Rattle.laws.specs.TestLaws.{pick_cases}
use Rattle.laws.specs.Checks.{Check, first_failing}
use Rattle.laws.specs.ChecksLaws.{AllHold, all_pass}
use Rattle.laws.specs.Words.{Words, done, says, Every, FirstFails, Say}

-- All checks hold exactly where every word does.
module _ {A : Type 0} where
  hold_every : (checks : List (Check A)) (words : Words A) → Say checks words → AllHold checks → Every words
  hold_every [] done s h = tt
  hold_every [] (says P a behind) s h = absurd s
  hold_every (c ∷ checks) done s h = absurd s
  hold_every (c ∷ checks) (says P a behind) s h =
      let p : P = s.0.0 h.0 in
      (p, hold_every checks (behind p) (s.2 p) h.1)

  every_hold : (checks : List (Check A)) (words : Words A) → Say checks words → Every words → AllHold checks
  every_hold [] done s h = tt
  every_hold [] (says P a behind) s h = absurd s
  every_hold (c ∷ checks) done s h = absurd s
  every_hold (c ∷ checks) (says P a behind) s h = (s.0.1 h.0, every_hold checks (behind h.0) (s.2 h.0) h.1)

  pub all_every : (checks : List (Check A)) (words : Words A) → Say checks words → AllHold checks ↔ Every words
  all_every checks words s = (hold_every checks words s, every_hold checks words s)

-- The answer of the first failing check, by its words.
module _ {A B : Type 0} (fail : A → B) (passed : B) where
  -- The first word that does not hold answers.
  pub first-answers : (checks : List (Check A)) (words : Words A) → Say checks words → (failure : A) → FirstFails words failure
      → first_failing fail checks passed ≡ fail failure
  unfolding first_failing
  first-answers [] done s failure f = absurd f
  first-answers [] (says P a behind) s failure f = absurd s
  first-answers (c ∷ checks) done s failure f = absurd s
  first-answers (c ∷ checks) (says P a behind) s failure (inl (not, e)) =
      pick_cases (λ o. o ≡ fail failure) c.holds (λ h. absurd (not (s.0.0 h))) (λ h. ap fail (s.1 ∙ e))
  first-answers (c ∷ checks) (says P a behind) s failure (inr (p, f)) =
      rw (s.0.1 p) (first-answers checks (behind p) (s.2 p) failure f)

  -- Every word holds, or one is the first that does not.
  pub every_or_first : (Q : B → Type 0) (checks : List (Check A)) (words : Words A) → Say checks words → (Every words → Q passed)
      → ((failure : A) → FirstFails words failure → Q (fail failure)) → Q (first_failing fail checks passed)
  unfolding first_failing
  every_or_first Q [] done s pass failing = pass tt
  every_or_first Q [] (says P a behind) s pass failing = absurd s
  every_or_first Q (c ∷ checks) done s pass failing = absurd s
  every_or_first Q (c ∷ checks) (says P a behind) s pass failing =
      pick_cases Q c.holds
      (λ h. let p : P = s.0.0 h in
      every_or_first Q checks (behind p) (s.2 p) (λ all. pass (p, all)) (λ failure f. failing failure (inr (p, f))))
      (λ h. failing c.failure (inl (λ p. true≢false (sym (s.0.1 p) ∙ h), sym s.1)))

  -- The answer is a failure exactly where its word is the first that does not hold, and the one passed exactly where every word does: where
  -- failures differ by what they are, and none is the one passed.
  module _ (apart : (a : A) → fail a ≡ passed → ⊥) (one : (a b : A) → fail a ≡ fail b → a ≡ b) (checks : List (Check A)) (words : Words A)
      (say : Say checks words) where
    pub passed-iff : (first_failing fail checks passed ≡ passed) ↔ Every words
    passed-iff = (
      every_or_first (λ o. o ≡ passed → Every words) checks words say (λ all e. all) (λ failure f e. absurd (apart failure e)),
      λ all. all_pass fail passed checks ((all_every checks words say).1 all),
    )

    pub failed-iff : (failure : A) → (first_failing fail checks passed ≡ fail failure) ↔ FirstFails words failure
    failed-iff failure = (
      every_or_first (λ o. o ≡ fail failure → FirstFails words failure) checks words say (λ all e. absurd (apart failure (sym e)))
          (λ other f e. rw (one other failure e) at f),
      first-answers checks words say failure,
    )
