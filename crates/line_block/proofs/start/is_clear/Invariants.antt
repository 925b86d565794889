-- The invariant: as long as no 68 was seen, none stands at the places looked at.
use Rattle.std.proofs.Common.{ℕ, ◌<◌, ◌≡◌, get_or, true}
use Rattle.line_block.proofs.start.is_clear.Given as goal

abbrev pub invariant-loop-b : goal.invariant-loop-b
invariant-loop-b l = l.clear ≡ true → (k : ℕ) → k < l.b-index → get_or l.stretch k 0 ≡ 0x68 → ⊥
