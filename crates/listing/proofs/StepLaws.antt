-- Laws of a step of the listing: what its reading delivers is cut into the frames found again, what each way out comes to, and what an answer
-- says of the step.
use Rattle.recording.specs.declared.StepRead.{StepRead}
use Rattle.listing.specs.declared.step.StepListed.{StepListed}
use Rattle.laws.specs.ResultLaws.{ok_same, err_same}
use Rattle.std.specs.Prelude.{ℕ, ◌+◌, ◌*◌, ◌≤◌, ◌<◌, ◌≡◌, refl, Bool, true, false, take, leb, Err, Result}
use Rattle.frame.specs.declared.refusal.Refusal.{Refusal}
use Rattle.frame.specs.declared.refusal.Refusal.TheVariants.{ShortMemory}
use Rattle.listing.specs.StepListed.{step_lists}
use Rattle.recording.specs.Answer.{step_gives}
use Rattle.std.proofs.Math.Path.{ap}
use Rattle.std.proofs.Common.{sym, subst, ◌∙◌, inl, inr, arith, length-append, take_at, length-take-le}
use mathlib.Core.List.{List}
use Rattle.std.proofs.Math.ListN.{length}
use borrow.Author.Tests.{le-leb, lt-leb, leb-true, leb-false, ne_eqb}
use Rattle.laws.specs.Memory.{Outcome, outcome, over}
use Rattle.laws.specs.MemoryLaws.{over-length}
use Rattle.laws.specs.TestLaws.{pick_cases, pick_same}
use Rattle.frame.specs.EndToEnd.{EndToEnd, cut}
use Rattle.line_terms.specs.Places.{joined, frames_of}
use Rattle.line_terms.proofs.FoundFrames.{AllFrames, scan-frames, joined_end_to_end, cut-joined}
use Rattle.line_block.specs.Drain.{symbols, reading_from}
use Rattle.line_block.specs.Block.{block_reading}
use Rattle.line_block.proofs.BlockLaws.{block-few, rest-most}
use Rattle.recording.specs.Step.{step_outcome, step_reading, step_read}
use Rattle.recording.proofs.StepLaws.{Stepping, ignores, delivers, stepping}
use Rattle.listing.specs.Lines.{lines_of}
use Rattle.listing.proofs.LinesLaws.{lines_twice}
use Rattle.listing.specs.Step.{is_end, TooShort, ListingOutcome, listing_outcome, reading_listed, step_listed}

-- A read that brought no bytes is at the end of the input, and one that brought some is not.
pub none_end : (read : ℕ) → read ≡ 0 → is_end read ≡ true
unfolding is_end
none_end read e = subst (λ (n : ℕ). is_end n ≡ true) (sym e) refl

pub some_no_end : (read : ℕ) → 0 < read → is_end read ≡ false
unfolding is_end
some_no_end read h = ne_eqb read 0 (λ z. omega arith)

-- The frames of a block.
module _ (block : List ℕ) (ended : Bool) where
  block-frames : AllFrames (block_reading block ended).frames
  unfolding block_reading reading_from
  block-frames = scan-frames 0 0 (symbols block ended)

  -- They stand end to end.
  block_end_to_end : EndToEnd (joined (block_reading block ended).frames)
  block_end_to_end = joined_end_to_end _ block-frames

  -- They are cut apart again.
  block-cut : cut (joined (block_reading block ended).frames) ≡ frames_of (block_reading block ended).frames
  block-cut = cut-joined _ block-frames

  -- Their lines are at most twice as long as the block.
  block_twice : length (lines_of (frames_of (block_reading block ended).frames)) ≤ 2 * length block
  block_twice =
      let lines : length (lines_of (frames_of (block_reading block ended).frames)) ≤ 2 * length (joined (block_reading block ended).frames) =
      rw block-cut at (lines_twice block_end_to_end) in
      omega (arith, block-few block ended)

-- Where memory is too short a step is refused.
pub list_short : (kept read : ℕ) (buffer frames text : List ℕ) → TooShort (kept + read) buffer frames text →
    listing_outcome (Err ShortMemory) buffer frames text ≡ step_listed kept read buffer frames text
unfolding step_listed
list_short kept read buffer frames text (inl h) = rw (lt-leb _ _ h)
list_short kept read buffer frames text (inr (inl h)) = rw (lt-leb _ _ h) (sym (pick_same (leb (2 * (kept + read)) (length text))))
list_short kept read buffer frames text (inr (inr h)) =
    rw (lt-leb _ _ h, pick_same (leb (kept + read) (length buffer)) {a = listing_outcome (Err ShortMemory) buffer frames text})
    (sym (pick_same (leb (2 * (kept + read)) (length text))))

module _ (kept read : ℕ) (buffer frames text : List ℕ) {buffer₁ frames₁ : List ℕ} (fits : 2 * (kept + read) ≤ length text) where
  -- A reading that is refused.
  pub list_refused : {n : Refusal} → step_outcome (Err n) buffer₁ frames₁ ≡ step_read kept read (is_end read) buffer frames →
      listing_outcome (Err n) buffer₁ frames₁ text ≡ step_listed kept read buffer frames text
  list_refused {n} e = go (stepping e)
    where
      go : Stepping kept read (is_end read) buffer frames (Err n) buffer₁ frames₁ →
          listing_outcome (Err n) buffer₁ frames₁ text ≡ step_listed kept read buffer frames text
      go (ignores w a b m) =
          let one : n ≡ ShortMemory = err_same a in
          rw (one, b, m) (list_short kept read buffer frames text (inr w))
      go (delivers w v a b m) = let z : ◌≡◌ {A = ℕ} 0 1 = cc in absurd (omega arith)

  -- A reading that is not refused.
  module _ {bytes count left : ℕ} (e : step_outcome (step_gives bytes count left) buffer₁ frames₁ ≡ step_read kept read (is_end read) buffer frames) where
    -- What it has delivered and kept.
    record HasRead : Type 0 where
      here : kept + read ≤ length buffer
      room : kept + read ≤ length frames
      size : bytes ≡ length (joined (step_reading kept read (is_end read) buffer).frames)
      keeps : left ≡ length (step_reading kept read (is_end read) buffer).kept
      front : buffer₁ ≡ over (step_reading kept read (is_end read) buffer).kept buffer
      memory : frames₁ ≡ over (joined (step_reading kept read (is_end read) buffer).frames) frames

    has_read : HasRead
    has_read = go (stepping e)
      where
        go : Stepping kept read (is_end read) buffer frames (step_gives bytes count left) buffer₁ frames₁ → HasRead
        go (ignores w a b m) = let z : ◌≡◌ {A = ℕ} 0 1 = cc in absurd (omega arith)
        go (delivers w v a b m) = record { here = w; room = v; size = ap (λ (step : StepRead). step.bytes) (ok_same a); keeps = ap (λ (step : StepRead). step.kept) (ok_same a); front = b; memory = m }

    block_size : length (take (kept + read) buffer) ≡ kept + read
    block_size = length-take-le (kept + read) buffer has_read.here

    few : length (joined (step_reading kept read (is_end read) buffer).frames) ≤ kept + read
    few = omega (arith, block-few (take (kept + read) buffer) (is_end read), block_size)

    delivered-front : take bytes frames₁ ≡ joined (step_reading kept read (is_end read) buffer).frames
    delivered-front = rw has_read.memory (take_at (joined (step_reading kept read (is_end read) buffer).frames) _ bytes (sym has_read.size))

    -- The frames lie within their memory.
    pub list_within : bytes ≤ length frames₁
    list_within =
        let same : length frames₁ ≡ length frames = ap length has_read.memory ∙ over-length (joined (step_reading kept read (is_end read) buffer).frames) frames (omega (arith, few, has_read.room)) in
        omega (arith, few, has_read.size, has_read.room)

    -- Their lines can be written.
    pub list_asked : EndToEnd (take bytes frames₁) × (2 * length (take bytes frames₁) ≤ length text)
    list_asked = rw delivered-front (block_end_to_end (take (kept + read) buffer) (is_end read), omega (arith, few))

    -- Written, they are what the step comes to.
    pub list_delivers : {text₁ : List ℕ} {used : ℕ} →
        outcome used text₁ ≡ outcome (length (lines_of (cut (take bytes frames₁)))) (over (lines_of (cut (take bytes frames₁))) text) →
        listing_outcome (step_lists used left) buffer₁ frames₁ text₁ ≡ step_listed kept read buffer frames text
    unfolding step_listed reading_listed
    list_delivers {text₁} {used} w =
        let cuts : cut (take bytes frames₁) ≡ frames_of (step_reading kept read (is_end read) buffer).frames = ap cut delivered-front ∙ block-cut (take (kept + read) buffer) (is_end read) in
        let long : used ≡ length (lines_of (frames_of (step_reading kept read (is_end read) buffer).frames)) = ap (λ (o : Outcome ℕ). o.answer) w ∙ ap (λ (l : List (List ℕ)). length (lines_of l)) cuts in
        let lines : text₁ ≡ over (lines_of (frames_of (step_reading kept read (is_end read) buffer).frames)) text = ap (λ (o : Outcome ℕ). o.memory) w ∙ ap (λ (l : List (List ℕ)). over (lines_of l) text) cuts in
        rw (le-leb _ _ fits, le-leb _ _ has_read.here, le-leb _ _ has_read.room) (cc (has_read.front, has_read.memory, has_read.keeps))

-- What a step comes to: refused with 1 where memory is too short, and all as before; else what its bytes read as is listed and kept.
pub data ListStepping (kept read : ℕ) (buffer frames text : List ℕ) (answer : Result StepListed Refusal) (buffer₁ frames₁ text₁ : List ℕ) : Type 0 where
  declines : TooShort (kept + read) buffer frames text → answer ≡ Err ShortMemory → buffer₁ ≡ buffer → frames₁ ≡ frames → text₁ ≡ text →
      ListStepping kept read buffer frames text answer buffer₁ frames₁ text₁
  lists : (TooShort (kept + read) buffer frames text → ⊥) →
      answer ≡ step_lists (length (lines_of (frames_of (step_reading kept read (is_end read) buffer).frames))) (length (step_reading kept read (is_end read) buffer).kept) →
      buffer₁ ≡ over (step_reading kept read (is_end read) buffer).kept buffer →
      frames₁ ≡ over (joined (step_reading kept read (is_end read) buffer).frames) frames →
      text₁ ≡ over (lines_of (frames_of (step_reading kept read (is_end read) buffer).frames)) text →
      ListStepping kept read buffer frames text answer buffer₁ frames₁ text₁

pub list_stepping : {kept read : ℕ} {buffer frames text buffer₁ frames₁ text₁ : List ℕ} {answer : Result StepListed Refusal} →
    listing_outcome answer buffer₁ frames₁ text₁ ≡ step_listed kept read buffer frames text →
    ListStepping kept read buffer frames text answer buffer₁ frames₁ text₁
unfolding step_listed reading_listed
list_stepping {kept} {read} {buffer} {frames} {text} {buffer₁} {frames₁} {text₁} {answer} =
    pick_cases P (leb (2 * (kept + read)) (length text))
    (λ t.
    pick_cases P (leb (kept + read) (length buffer))
    (λ b.
    pick_cases P (leb (kept + read) (length frames))
    (λ f. good (enough (leb-true _ _ t) (leb-true _ _ b) (leb-true _ _ f)))
    (λ f. bad (inr (inr (leb-false _ _ f)))))
    (λ b. bad (inr (inl (leb-false _ _ b)))))
    (λ t. bad (inl (leb-false _ _ t)))
  where
    P : ListingOutcome → Type 0
    P o = listing_outcome answer buffer₁ frames₁ text₁ ≡ o → ListStepping kept read buffer frames text answer buffer₁ frames₁ text₁

    enough : 2 * (kept + read) ≤ length text → kept + read ≤ length buffer → kept + read ≤ length frames → TooShort (kept + read) buffer frames text → ⊥
    enough t b f (inl h) = omega arith
    enough t b f (inr (inl h)) = omega arith
    enough t b f (inr (inr h)) = omega arith

    good : (TooShort (kept + read) buffer frames text → ⊥) → P (reading_listed (step_reading kept read (is_end read) buffer) buffer frames text)
    good w e =
        lists w (ap (λ (o : ListingOutcome). o.answer) e) (ap (λ (o : ListingOutcome). o.buffer) e) (ap (λ (o : ListingOutcome). o.frames) e)
        (ap (λ (o : ListingOutcome). o.text) e)

    bad : TooShort (kept + read) buffer frames text → P (listing_outcome (Err ShortMemory) buffer frames text)
    bad w e =
        declines w (ap (λ (o : ListingOutcome). o.answer) e) (ap (λ (o : ListingOutcome). o.buffer) e) (ap (λ (o : ListingOutcome). o.frames) e)
        (ap (λ (o : ListingOutcome). o.text) e)

-- The text lies within its memory, and at most 211 bytes are kept.
pub record ListedWithin (text : List ℕ) (used left : ℕ) : Type 0 where
  pub memory : used ≤ length text
  pub most : left ≤ 211

pub listed-within : (kept read : ℕ) (buffer frames text : List ℕ) {buffer₁ frames₁ text₁ : List ℕ} {used left : ℕ} →
    listing_outcome (step_lists used left) buffer₁ frames₁ text₁ ≡ step_listed kept read buffer frames text → ListedWithin text₁ used left
listed-within kept read buffer frames text {buffer₁} {frames₁} {text₁} {used} {left} e = go (list_stepping e)
  where
    lines : List ℕ
    lines = lines_of (frames_of (step_reading kept read (is_end read) buffer).frames)

    go : ListStepping kept read buffer frames text (step_lists used left) buffer₁ frames₁ text₁ → ListedWithin text₁ used left
    go (declines w a b f t) = let z : ◌≡◌ {A = ℕ} 0 1 = cc in absurd (omega arith)
    go (lists w a b f t) =
        let long : used ≡ length lines = ap (λ (step : StepListed). step.text) (ok_same a) in
        let keeps : left ≡ length (step_reading kept read (is_end read) buffer).kept = ap (λ (step : StepListed). step.kept) (ok_same a) in
        record {
          memory = rw t (simp length-append (omega arith));
          most = omega (arith, rest-most (take (kept + read) buffer) (is_end read));
        }
