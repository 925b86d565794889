-- A receiver's call with a byte refuses exactly where the verdict on its kept bytes does, and says what the papers say of that verdict.
use Rattle.frame.specs.declared.refusal.Refusal.TheVariants.{ShortMemory, OutOfRange}
use Rattle.std.specs.Prelude.{ℕ, ◌≡◌, List, Bool, length, leb, eqb}
use Rattle.std.proofs.Math.Path.{refl}
use Rattle.std.proofs.Math.Bool.{true, false}
use Rattle.laws.specs.Said.{Said, IsRefusal}
use Rattle.laws.specs.Test.{pick}
use Rattle.laws.specs.TestLaws.{pick_cases}
use Rattle.frame.specs.Recognition.{recognised}
use Rattle.frame.specs.declared.Recognised.{Recognised}
use Rattle.frame.specs.declared.Recognised.TheVariants as found
use Rattle.line_verdict.specs.Verdict.{kept_with, verdict_for, verdict_on}
use Rattle.line_verdict.specs.Said.{verdict_said}
use Rattle.line_verdict.specs.declared.Verdict.{Verdict}
use Rattle.line_verdict.specs.declared.Verdict.TheVariants.{Bad, Short}
use Rattle.line_terms.specs.Line.{byte}
use Rattle.line.specs.Receiver.{within_range, refused, reading_with, delivered, called}
use Rattle.line.proofs.Said.{receiver_said}
use Rattle.line.specs.declared.Receiver.{Receiver}

-- What kept bytes come to with a byte is no refusal.
comes_to_none : (count : ℕ) (v : Recognised) → IsRefusal (verdict_said (verdict_for count v)) → ⊥
comes_to_none count (found.Whole n) h = h
comes_to_none count found.Open h = h
comes_to_none count found.Neither h =
    pick_cases (λ (v : Verdict). IsRefusal (verdict_said v) → ⊥) (eqb count 0) (λ _ r. r) (λ _ r. r) h

module _ (b : ℕ) (r : Receiver) (m : List ℕ) where
  -- What the verdict and the call say, by the tests of range and memory.
  abbrev verdict_by : Bool → Bool → Said
  verdict_by good roomy = verdict_said (pick good (pick roomy (verdict_for r.count (recognised (kept_with r.kept r.count b))) Short) Bad)

  abbrev call_by : Bool → Bool → Said
  call_by good roomy =
      receiver_said (pick good (pick roomy (delivered (reading_with r (byte b)) r m) (refused ShortMemory r m)) (refused OutOfRange r m)).answer.answer

  -- Where the verdict refuses, the call says it.
  pub verdict-says : let verdict = verdict_on r.kept r.count b (length m) in
      IsRefusal (verdict_said verdict) → receiver_said (called (byte b) r m).answer.answer ≡ verdict_said verdict
  unfolding called refused delivered verdict_on
  verdict-says = go (within_range r) (leb 212 (length m))
    where
      go : (good roomy : Bool) → IsRefusal (verdict_by good roomy) → call_by good roomy ≡ verdict_by good roomy
      go true true h = absurd (comes_to_none r.count (recognised (kept_with r.kept r.count b)) h)
      go true false h = refl
      go false roomy h = refl

  -- Where the call refuses, the verdict does.
  pub refused_by_verdict : let verdict = verdict_on r.kept r.count b (length m) in
      IsRefusal (receiver_said (called (byte b) r m).answer.answer) → receiver_said (called (byte b) r m).answer.answer ≡ verdict_said verdict
  unfolding called refused delivered verdict_on
  refused_by_verdict = go (within_range r) (leb 212 (length m))
    where
      go : (good roomy : Bool) → IsRefusal (call_by good roomy) → call_by good roomy ≡ verdict_by good roomy
      go true true h = absurd h
      go true false h = refl
      go false roomy h = refl
