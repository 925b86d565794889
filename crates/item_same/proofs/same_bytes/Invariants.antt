-- The invariant: the bytes passed are equal, and both slices are as long.
use Rattle.std.proofs.Common.{◌≡◌, length, drop}
use Rattle.laws.specs.Walk.{Walked}
use Rattle.item_same.specs.Same.{same}
use Rattle.item_same.proofs.same_bytes.Given as goal

abbrev pub invariant-loop-i : goal.invariant-loop-i
invariant-loop-i l = Walked (length l.a) (λ k. same (drop k l.a) (drop k l.b)) l.i × (length l.a ≡ length l.b)
