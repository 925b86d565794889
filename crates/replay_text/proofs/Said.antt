-- When a text is refused, and that the memory is then as it was.
use Rattle.std.specs.Prelude.{ℕ, ◌<◌, List, [], ◌∷◌, length, leb, None, Option, Some}
use Rattle.std.proofs.Common.{arith, leb-true, leb-false}
use Rattle.laws.specs.Memory.{Outcome}
use Rattle.laws.specs.Said.{Said, values, refusal, Refuses, refuses, answers}
use Rattle.laws.specs.TestLaws.{pick_cases}
use Rattle.frame.specs.Refusals.{number_of}
use Rattle.frame.specs.declared.refusal.Refusal.TheVariants.{ShortMemory}
use Rattle.replay_text.specs.Texts.{writing}

-- Too little memory is 1.
abbrev pub written_said : Option ℕ → Said
written_said (Some n) = values (n ∷ [])
written_said None = refusal (number_of ShortMemory)

-- A text is refused exactly where the memory is shorter.
pub writing-refuses : (text m : List ℕ) → let o = writing text m in Refuses (written_said o.answer) (length m < length text) m o.memory
unfolding writing
writing-refuses text m =
    pick_cases P (leb (length text) (length m)) (λ room. answers (λ r. r) (λ short. omega (arith, leb-true (length text) (length m) room)))
    (λ short. refuses (leb-false _ _ short) tt)
  where
    P : Outcome (Option ℕ) → Type 0
    P o = Refuses (written_said o.answer) (length m < length text) m o.memory
