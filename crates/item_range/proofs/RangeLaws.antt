-- The test of a range says what it is for: at least the least, and at most the most.
use Rattle.std.specs.Prelude.{ℕ, ◌≤◌, ◌≡◌, true, ◌↔◌, leb}
use Rattle.std.proofs.Math.Bool.{and-eq-true_iff}
use mathlib.Core.Logic.Iff
use Rattle.std.proofs.Common.{leb-true, le-leb}
use Rattle.item_range.specs.Range.{within}

pub leb_iff : (a b : ℕ) → leb a b ≡ true ↔ a ≤ b
leb_iff a b = (leb-true a b, le-leb a b)

pub within-iff : (least most n : ℕ) → within least most n ≡ true ↔ ((least ≤ n) × (n ≤ most))
unfolding within
within-iff least most n = simp (and-eq-true_iff, leb_iff) Iff.rfl
