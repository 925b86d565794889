-- The digits of the bytes passed, each through the function, are written.
use Rattle.std.proofs.Common.{◌≡◌, ℕ, map, take}
use Rattle.listing.proofs.DigitLaws.{Digits}
use Rattle.listing.proofs.write_digits.Given as goal

abbrev pub invariant-loop-i : goal.invariant-loop-i
invariant-loop-i g l =
    (f : ℕ → ℕ) → ((b r : ℕ) → goal.F-post g l.through b r → r ≡ f b) → Digits (map f (take l.i l.bytes)) l.initial.out l.start l.out
