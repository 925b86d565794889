-- Words behind words, and the laws of checks whose answer, where all hold, may itself be a failure of checks behind them.
use Rattle.std.specs.Prelude.{◌≡◌, List, ◌↔◌}
use Rattle.std.proofs.Common.{◌∙◌, inl, inr}
use Rattle.laws.specs.Checks.{Check, first_failing}
use Rattle.laws.specs.ChecksLaws.{all_pass}
use Rattle.laws.specs.Words.{Words, done, says, Every, FirstFails, Say}
use Rattle.laws.specs.WordsLaws.{all_every, first-answers, every_or_first}

-- Words, and others behind them, which may speak of what those found.
abbrev pub and_then : {A : Type 0} (words : Words A) → (Every words → Words A) → Words A
and_then done more = more tt
and_then (says P a behind) more = says P a (λ p. and_then (behind p) (λ all. more (p, all)))

-- What fails first fails among the first words, or behind them where every one of them holds.
module _ {A : Type 0} where
  pub then-first : (words : Words A) (more : Every words → Words A) (failure : A) → FirstFails words failure → FirstFails (and_then words more) failure
  then-first done more failure f = absurd f
  then-first (says P a behind) more failure (inl f) = inl f
  then-first (says P a behind) more failure (inr (p, f)) = inr (p, then-first (behind p) (λ all. more (p, all)) failure f)

  pub then-behind : (words : Words A) (more : Every words → Words A) (failure : A) (all : Every words) → FirstFails (more all) failure
      → FirstFails (and_then words more) failure
  then-behind done more failure all f = f
  then-behind (says P a behind) more failure all f = inr (all.0, then-behind (behind all.0) (λ rest. more (all.0, rest)) failure all.1 f)

  -- One of the two.
  pub then_cases : {Q : Type 0} (words : Words A) (more : Every words → Words A) (failure : A) → FirstFails (and_then words more) failure
      → (FirstFails words failure → Q) → ((all : Every words) → FirstFails (more all) failure → Q) → Q
  then_cases done more failure f first second = second tt f
  then_cases (says P a behind) more failure (inl f) first second = first (inl f)
  then_cases (says P a behind) more failure (inr (p, f)) first second =
      then_cases (behind p) (λ all. more (p, all)) failure f (λ g. first (inr (p, g))) (λ all g. second (p, all) g)

module _ {A B : Type 0} (fail : A → B) (passed : B) (checks : List (Check A)) (words : Words A) (say : Say checks words) where
  -- An answer that no check fails with is given exactly where every word holds and it is the one passed.
  pub answered-iff : (answer : B) → ((failure : A) → fail failure ≡ answer → ⊥) → (first_failing fail checks passed ≡ answer) ↔ (Every words × (passed ≡ answer))
  answered-iff answer apart = (
    every_or_first fail passed (λ o. o ≡ answer → Every words × (passed ≡ answer)) checks words say (λ all e. (all, e))
        (λ failure f e. absurd (apart failure e)),
    λ w. all_pass fail passed checks ((all_every checks words say).1 w.0) ∙ w.1,
  )

  -- A failure is the answer exactly where its word is the first that does not hold, among these or behind them: where failures differ by what
  -- they are, and the one passed is a failure as the words behind say.
  pub failed-then-iff : ((a b : A) → fail a ≡ fail b → a ≡ b) → (more : Every words → Words A)
      → ((all : Every words) (failure : A) → (passed ≡ fail failure) ↔ FirstFails (more all) failure)
      → (failure : A) → (first_failing fail checks passed ≡ fail failure) ↔ FirstFails (and_then words more) failure
  failed-then-iff one more behind failure = (
    every_or_first fail passed (λ o. o ≡ fail failure → FirstFails (and_then words more) failure) checks words say
        (λ all e. then-behind words more failure all ((behind all failure).0 e))
        (λ other f e. then-first words more failure (rw (one other failure e) at f)),
    λ f. then_cases words more failure f (first-answers fail passed checks words say failure)
        (λ all g. all_pass fail passed checks ((all_every checks words say).1 all) ∙ (behind all failure).1 g),
  )
