-- Laws of a walk from place to place that stops at the first place whose test fails.
use Rattle.std.specs.Prelude.{ℕ, ◌+◌, ◌≤◌, ◌<◌, ◌≡◌, refl, Bool, true, false}
use Rattle.std.proofs.Common.{◌∙◌, arith}
use Rattle.laws.specs.Test.{pick}

-- `from i` is what the walk from place `i` on gives: what the first place says whose test fails, and `end` where none does.
pub record Walk {R : Type 0} (size : ℕ) (test : ℕ → Bool) (stop : ℕ → R) (end : R) (from : ℕ → R) : Type 0 where
  pub last : from size ≡ end
  pub next : (i : ℕ) → i < size → from i ≡ pick (test i) (from (i + 1)) (stop i)

-- The tests before place `i` hold, so that the walk from there on decides.
pub record Walked {R : Type 0} (size : ℕ) (from : ℕ → R) (i : ℕ) : Type 0 where
  pub passed : i ≤ size
  pub so_far : from 0 ≡ from i

pub walked_start : {R : Type 0} {size : ℕ} {from : ℕ → R} → Walked size from 0
walked_start = record { passed = omega arith; so_far = refl }

module _ {R : Type 0} {size : ℕ} {test : ℕ → Bool} {stop : ℕ → R} {end : R} {from : ℕ → R} (walk : Walk size test stop end from) {i : ℕ}
    (walked : Walked size from i) where
  -- A test that holds is passed over.
  pub walked_next : i < size → test i ≡ true → Walked size from (i + 1)
  walked_next h e = record { passed = omega arith; so_far = walked.so_far ∙ walk.next i h ∙ rw e }

  -- The walk stops where a test fails.
  pub walked_stops : i < size → test i ≡ false → from 0 ≡ stop i
  walked_stops h e = walked.so_far ∙ walk.next i h ∙ rw e

  -- It has come to its end.
  pub walked_end : size ≤ i → from 0 ≡ end
  walked_end h =
      let all : i ≡ size = omega (arith, walked.passed) in
      walked.so_far ∙ rw all walk.last
