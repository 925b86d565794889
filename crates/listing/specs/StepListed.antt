-- A step of the listing that gives so many bytes of text, with how many bytes are kept.
use Rattle.std.specs.Prelude.{ℕ, Result, Ok}
use Rattle.listing.specs.declared.step.StepListed.{StepListed}
use Rattle.frame.specs.declared.refusal.Refusal.{Refusal}

abbrev pub step_lists : ℕ → ℕ → Result StepListed Refusal
step_lists text kept = Ok (record { text = text; kept = kept })
