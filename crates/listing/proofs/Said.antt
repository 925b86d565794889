-- What the papers say of the answers of the listing, when it refuses, and that buffer and memory are then as they were.
use Rattle.std.specs.Prelude.{ℕ, ◌+◌, ◌*◌, ◌≤◌, ◌<◌, List, [], ◌∷◌, ◌⊎◌, length, leb, Err, Ok, Result}
use Rattle.frame.specs.Refusals.{number_of}
use Rattle.listing.specs.declared.step.StepListed.{StepListed}
use Rattle.frame.specs.declared.refusal.Refusal.{Refusal}
use Rattle.frame.specs.declared.refusal.Refusal.TheVariants.{NotOneFrame, ShortMemory}
use Rattle.listing.specs.declared.ListError.{ListError}
use Rattle.listing.specs.declared.ListError.TheVariants.{NotAFrame, TooLittleMemory}
use Rattle.std.proofs.Common.{sym, ◌∙◌, inl, inr, arith, leb-true, leb-false}
use Rattle.std.proofs.lemmas.Bool.{false≢true}
use Rattle.laws.specs.Memory.{Outcome}
use Rattle.laws.specs.Said.{Said, values, refusal, Refuses, refuses, answers}
use Rattle.laws.specs.TestLaws.{pick_cases}
use Rattle.frame.specs.Frame.{Frame}
use Rattle.frame.specs.Recognition.{exactly_one}
use Rattle.frame.proofs.RecognitionLaws.{one-frame, frame-one}
use Rattle.listing.specs.Text.{text_of, listing}
use Rattle.listing.specs.Step.{ListingOutcome, reading_listed, TooShort, step_listed}

-- Bytes that are not exactly one frame are 2, too little memory is 1.
abbrev pub listed_said : Result ℕ ListError → Said
listed_said (Ok n) = values (n ∷ [])
listed_said (Err NotAFrame) = refusal (number_of NotOneFrame)
listed_said (Err TooLittleMemory) = refusal (number_of ShortMemory)

-- How many bytes of text, and how many bytes are kept; or a refusal.
abbrev pub step_listed_said : Result StepListed Refusal → Said
step_listed_said (Err n) = refusal (number_of n)
step_listed_said (Ok listed) = values (listed.text ∷ listed.kept ∷ [])

-- The bytes are not exactly one frame, or the memory is shorter than its line.
abbrev pub CannotList : List ℕ → List ℕ → Type 0
CannotList frame m = (Frame frame → ⊥) ⊎ (length m < length (text_of frame))

pub listing-refuses : (frame m : List ℕ) → let o = listing frame m in Refuses (listed_said o.answer) (CannotList frame m) m o.memory
unfolding listing
listing-refuses frame m =
    pick_cases P (exactly_one frame)
    (λ one. pick_cases P (leb (length (text_of frame)) (length m)) (λ room. answers (λ r. r) (can (one-frame frame one) (leb-true _ _ room)))
    (λ short. refuses (inr (leb-false _ _ short)) tt))
    (λ none. refuses (inl (λ w. false≢true (sym none ∙ frame-one frame w))) tt)
  where
    P : Outcome (Result ℕ ListError) → Type 0
    P o = Refuses (listed_said o.answer) (CannotList frame m) m o.memory

    can : Frame frame → length (text_of frame) ≤ length m → CannotList frame m → ⊥
    can w room (inl none) = none w
    can w room (inr short) = omega arith

pub list_step_refuses : (kept read : ℕ) (buffer frames text : List ℕ)
    → let o = step_listed kept read buffer frames text in
    Refuses {S = List ℕ × List ℕ × List ℕ} (step_listed_said o.answer) (TooShort (kept + read) buffer frames text) (buffer, frames, text) (o.buffer, o.frames, o.text)
unfolding step_listed reading_listed
list_step_refuses kept read buffer frames text =
    pick_cases P (leb (2 * (kept + read)) (length text))
    (λ a. pick_cases P (leb (kept + read) (length buffer))
    (λ b. pick_cases P (leb (kept + read) (length frames)) (λ c. answers (λ r. r) (can (leb-true _ _ a) (leb-true _ _ b) (leb-true _ _ c)))
    (λ c. refuses (inr (inr (leb-false _ _ c))) tt))
    (λ b. refuses (inr (inl (leb-false _ _ b))) tt))
    (λ a. refuses (inl (leb-false _ _ a)) tt)
  where
    P : ListingOutcome → Type 0
    P o = Refuses {S = List ℕ × List ℕ × List ℕ} (step_listed_said o.answer) (TooShort (kept + read) buffer frames text) (buffer, frames, text) (o.buffer, o.frames, o.text)

    can : 2 * (kept + read) ≤ length text → kept + read ≤ length buffer → kept + read ≤ length frames → TooShort (kept + read) buffer frames text → ⊥
    can a b c (inl short) = omega arith
    can a b c (inr (inl short)) = omega arith
    can a b c (inr (inr short)) = omega arith
