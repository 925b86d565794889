-- Laws of a pass over every place of a list: a flag tells whether all tests so far held, and there is no way out before the end.
use Rattle.std.specs.Prelude.{ℕ, suc, ◌+◌, ◌≤◌, ◌<◌, ◌≡◌, refl, List, Bool, true, ◌&&◌, drop, get_or}
use Rattle.std.proofs.Math.Path.{sym}
use Rattle.std.proofs.Common.{◌∙◌, add-one, arith, drop-cons}
use Rattle.std.proofs.Math.Bool.{and_assoc, and-true}
use Rattle.std.proofs.Math.ListN.{length}
use Rattle.std.proofs.Math.Seq.{drop-length}
use Rattle.laws.specs.All.{all_of}

-- All tests hold exactly where the flag says so of those before place `i`, and those from there on hold.
pub record Passing {A : Type 0} (test : A → Bool) (xs : List A) (i : ℕ) (flag : Bool) : Type 0 where
  pub passed : i ≤ length xs
  pub so_far : all_of test xs ≡ (flag && all_of test (drop i xs))

module _ {A : Type 0} {test : A → Bool} {xs : List A} where
  pub passing_start : Passing test xs 0 true
  passing_start = record { passed = omega arith; so_far = refl }

  -- The test of one place more joins the flag.
  pub passing_next : {i : ℕ} {flag : Bool} (d : A) → Passing test xs i flag → i < length xs → Passing test xs (i + 1) (flag && test (get_or xs i d))
  unfolding all_of
  passing_next {i} {flag} d p h =
      record {
        passed = omega arith;
        so_far = p.so_far ∙ rw (drop-cons xs i d h, add-one) (sym (and_assoc flag (test (get_or xs i d)) (all_of test (drop (suc i) xs))));
      }

  -- At the end the flag tells whether all hold.
  pub passing_end : {i : ℕ} {flag : Bool} → Passing test xs i flag → length xs ≤ i → flag ≡ all_of test xs
  unfolding all_of
  passing_end {i} {flag} p h =
      let all : i ≡ length xs = omega (arith, p.passed) in
      sym (p.so_far ∙ rw (all, drop-length) (and-true flag))
