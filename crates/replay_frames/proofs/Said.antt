-- What the papers say of the answer to frames put to a meter, when they are refused, and that meter and memory are then as they were.
use Rattle.std.specs.Prelude.{ℕ, ◌*◌, ◌≤◌, ◌<◌, ◌≡◌, List, [], ◌∷◌, true, ◌↔◌, ◌⊎◌, length, leb, Err, Result, Ok}
use Rattle.frame.specs.Refusals.{number_of}
use Rattle.frame.specs.declared.refusal.Refusal.{Refusal}
use Rattle.replay_frames.specs.PutAnswer.{lines_put}
use Rattle.replay_frames.specs.declared.LinesPut.{LinesPut}
use Rattle.std.proofs.Common.{sym, ◌∙◌, inl, inr, arith, leb-true, leb-false}
use Rattle.std.proofs.lemmas.Bool.{false≢true}
use Rattle.laws.specs.Memory.{Outcome}
use Rattle.laws.specs.Said.{Said, values, refusal, Refuses, refuses, answers}
use Rattle.laws.specs.TestLaws.{pick_cases}
use Rattle.energy.specs.declared.Energies.{Energies}
use Rattle.meter.specs.Meter.{within_ranges}
use Rattle.meter.proofs.Ranges.{InRanges, within-ranges}
use Rattle.meter.specs.declared.Meter.{Meter}
use Rattle.replay_frames.specs.Putting.{all_put, frames_put}
use Rattle.replay_frames.specs.declared.FramesPut.{FramesPut}

-- How many bytes of text and how many lines, or a refusal.
abbrev pub put_said : Result LinesPut Refusal → Said
put_said (Err n) = refusal (number_of n)
put_said (Ok put) = values (put.text ∷ put.lines ∷ [])

-- The meter is not within its ranges, or the memory has under 35 bytes for each byte of the frames.
abbrev pub CannotPut : List ℕ → Meter → Energies → List ℕ → Type 0
CannotPut bytes m energies memory = (InRanges m energies.forward energies.reverse → ⊥) ⊎ (length memory < 35 * length bytes)

-- Frames are refused exactly there, and then meter and memory are as they were.
pub put-refuses : (bytes : List ℕ) (m : Meter) (energies : Energies) (memory : List ℕ)
    → let o = frames_put bytes m energies memory in
    Refuses {S = Meter × List ℕ} (put_said o.answer.answer) (CannotPut bytes m energies memory) (m, memory) (o.answer.meter, o.memory)
unfolding frames_put all_put
put-refuses bytes m energies memory =
    pick_cases P (within_ranges m energies.forward energies.reverse)
    (λ within. pick_cases P (leb (35 * length bytes) (length memory)) (λ room. answers (λ r. r) (can (test.0 within) (leb-true _ _ room)))
    (λ short. refuses (inr (leb-false _ _ short)) tt))
    (λ out. refuses (inl (λ ranges. false≢true (sym out ∙ test.1 ranges))) tt)
  where
    P : Outcome FramesPut → Type 0
    P o = Refuses {S = Meter × List ℕ} (put_said o.answer.answer) (CannotPut bytes m energies memory) (m, memory) (o.answer.meter, o.memory)

    test : (within_ranges m energies.forward energies.reverse ≡ true) ↔ InRanges m energies.forward energies.reverse
    test = within-ranges m energies.forward energies.reverse

    can : InRanges m energies.forward energies.reverse → 35 * length bytes ≤ length memory → CannotPut bytes m energies memory → ⊥
    can within room (inl out) = out within
    can within room (inr short) = omega arith
