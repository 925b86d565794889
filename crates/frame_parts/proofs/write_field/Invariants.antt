-- The invariant, `Mapping`: the bytes passed stand at the front, each through the function, and the rest is as it was.
use Rattle.std.proofs.Common.{◌≡◌, ℕ}
use Rattle.laws.specs.MemoryLaws.{Mapping}
use Rattle.frame_parts.proofs.write_field.Given as goal

abbrev pub invariant-loop-i : goal.invariant-loop-i
invariant-loop-i g l = (f : ℕ → ℕ) → ((b r : ℕ) → goal.F-post g l.through b r → r ≡ f b) → Mapping f l.field l.initial.out l.i l.out
