-- What a step of the listing answers, and what it leaves: document 01, "The listing program".
use Rattle.std.specs.Prelude.{ℕ, ◌+◌, ◌*◌, ◌<◌, ◌⊎◌, List, Bool, length, leb, eqb, Err, Result}
use Rattle.listing.specs.declared.step.StepListed.{StepListed}
use Rattle.frame.specs.declared.refusal.Refusal.{Refusal}
use Rattle.frame.specs.declared.refusal.Refusal.TheVariants.{ShortMemory}
use Rattle.listing.specs.StepListed.{step_lists}
use Rattle.laws.specs.Memory.{over}
use Rattle.laws.specs.Test.{pick}
use Rattle.line_terms.specs.Places.{joined, frames_of}
use Rattle.line_terms.specs.Scan.{LineReading}
use Rattle.recording.specs.Step.{step_reading}
use Rattle.listing.specs.Lines.{lines_of}

-- An answer together with the line's buffer and the memory lent for the frames and for the text, as they stand when the call returns.
pub record ListingOutcome : Type 0 where
  pub answer : Result StepListed Refusal
  pub buffer : List ℕ
  pub frames : List ℕ
  pub text : List ℕ

abbrev pub listing_outcome : Result StepListed Refusal → List ℕ → List ℕ → List ℕ → ListingOutcome
listing_outcome answer buffer frames text = record { answer = answer; buffer = buffer; frames = frames; text = text }

-- A read that brought no bytes is at the end of the input.
unfoldable pub is_end : ℕ → Bool
is_end read = eqb read 0

-- What a reading keeps stands over the front of the buffer, its frames end to end in the one memory and their lines in the other.
unfoldable pub reading_listed : LineReading → List ℕ → List ℕ → List ℕ → ListingOutcome
reading_listed d buffer frames text =
    listing_outcome (step_lists (length (lines_of (frames_of d.frames))) (length d.kept)) (over d.kept buffer)
    (over (joined d.frames) frames) (over (lines_of (frames_of d.frames)) text)

-- The memory is too short: the text's is shorter than twice the bytes of the step, or the buffer or the frames' shorter than they.
abbrev pub TooShort : ℕ → List ℕ → List ℕ → List ℕ → Type 0
TooShort n buffer frames text = (length text < 2 * n) ⊎ ((length buffer < n) ⊎ (length frames < n))

-- The outcome of a step over so many bytes kept and so many read behind them: 1 for a text memory shorter than twice these bytes, then for
-- a buffer and for a frames memory shorter than they, and all as before; else what they read as is listed. The end of the input is taken as a
-- silence.
unfoldable pub step_listed : ℕ → ℕ → List ℕ → List ℕ → List ℕ → ListingOutcome
step_listed kept read buffer frames text =
    pick (leb (2 * (kept + read)) (length text))
    (pick (leb (kept + read) (length buffer))
    (pick (leb (kept + read) (length frames))
    (reading_listed (step_reading kept read (is_end read) buffer) buffer frames text)
    (listing_outcome (Err ShortMemory) buffer frames text))
    (listing_outcome (Err ShortMemory) buffer frames text))
    (listing_outcome (Err ShortMemory) buffer frames text)
