-- Laws of reading a block: what draining it answers, and what an answer says.
use Rattle.std.specs.Prelude.{ℕ, ◌-◌, ◌≤◌, ◌<◌, ◌≡◌, Bool, true, false, leb, Err, Result}
use Rattle.frame.specs.declared.refusal.Refusal.{Refusal}
use Rattle.frame.specs.declared.refusal.Refusal.TheVariants.{ShortMemory}
use Rattle.line_block.specs.Answer.{block_gives}
use Rattle.line_block.specs.declared.BlockRead.{BlockRead}
use native.Mathlib.Omega.{arith}
use Rattle.std.proofs.Math.Path.{ap, sym}
use Rattle.std.proofs.Common.{◌∙◌, length-drop, drop_of_length-le, le-leb, leb-true, leb-false}
use mathlib.Core.List.{List, [], ◌∷◌, ◌++◌, map, append-nil}
use Rattle.std.proofs.Math.ListN.{length, drop}
use Rattle.std.proofs.lemmas.Bool.{lt-leb}
use Rattle.laws.specs.ResultLaws.{ok_same}
use Rattle.laws.specs.Memory.{Outcome, outcome, over}
use Rattle.laws.specs.TestLaws.{pick_cases}
use Rattle.frame.specs.Recognition.{recognised}
use Rattle.frame.proofs.RecognitionLaws.{open_most}
use Rattle.frame.specs.declared.Recognised.TheVariants.{Open}
use Rattle.line_terms.specs.Line.{byte, silence}
use Rattle.line_terms.specs.Places.{Found, joined}
use Rattle.line_terms.specs.Scan.{LineReading}
use Rattle.line_terms.proofs.ScanLaws.{scan_kept_open}
use Rattle.line_terms.proofs.FramesFew.{bytes_in_lem, bytes_in_closed, frames-few}
use Rattle.line_block.specs.Drain.{symbols, reading_from, behind}
use Rattle.line_block.proofs.DrainLaws.{Draining, reading-end, reading_open}
use Rattle.line_block.specs.Block.{block_reading, delivered, block_read}

-- Too little memory is refused with 1.
pub read-refused : (block m : List ℕ) (ended : Bool) → length m < length block → outcome (Err ShortMemory) m ≡ block_read block ended m
unfolding block_read
read-refused block m ended h = rw (lt-leb _ _ h)

-- Else the frames of the reading are delivered.
read-delivered : (block m : List ℕ) (ended : Bool) → length block ≤ length m →
    block_read block ended m ≡ delivered (block_reading block ended) (length block) m
unfolding block_read
read-delivered block m ended h = rw (le-leb _ _ h)

module _ (block : List ℕ) (ended : Bool) (m₀ m : List ℕ) (at written count : ℕ) (d : Draining block ended m₀ m at written count)
    (h : length block ≤ length m₀) where
  -- Where nothing is found from a place on and all from there is kept, draining up to there is what reading the block answers.
  drained_read : reading_from at (drop at block) ended ≡ record { frames = []; kept = drop at block } →
      outcome (block_gives written count at) m ≡ block_read block ended m₀
  unfolding behind block_reading delivered
  drained_read e =
      let s : reading_from 0 block ended ≡ record { frames = d.found ++ []; kept = drop at block } = d.split ∙ ap (behind d.found) e in
      let t : d.found ≡ (reading_from 0 block ended).frames = sym (ap (λ (r : LineReading). r.frames) s ∙ append-nil d.found) in
      let within : at ≤ length block = d.within in
      let long : length block - at ≡ length (reading_from 0 block ended).kept = sym (length-drop at block) ∙ ap (λ (r : LineReading). length r.kept) (sym s) in
      let rest : at ≡ length block - length (reading_from 0 block ended).kept = omega arith in
      let b = d.bytes ∙ ap (λ (l : List Found). length (joined l)) t in
      let f = d.frames ∙ ap (λ (l : List Found). length l) t in
      let o = d.memory ∙ ap (λ (l : List Found). over (joined l) m₀) t in
      (λ i. outcome (block_gives (b i) (f i) (rest i)) (o i)) ∙ sym (read-delivered block m₀ ended h)

  -- At the end of the block.
  pub end_read : length block ≤ at → outcome (block_gives written count at) m ≡ block_read block ended m₀
  end_read l =
      let none : drop at block ≡ [] = drop_of_length-le block l in
      drained_read (rw none (reading-end at ended))

  -- At a place that may still become a frame, with no silence behind the block.
  pub open_read : ended ≡ false → recognised (drop at block) ≡ Open → outcome (block_gives written count at) m ≡ block_read block ended m₀
  open_read f e = drained_read (ap (reading_from at (drop at block)) f ∙ reading_open at (drop at block) e)

-- The frames of a block have no more bytes than the block.
pub block-few : (block : List ℕ) (ended : Bool) → length (joined (block_reading block ended).frames) ≤ length block
unfolding block_reading reading_from symbols
block-few block true = rw bytes_in_closed at (frames-few (map byte block ++ (silence ∷ [])))
block-few block false = rw bytes_in_lem at (frames-few (map byte block))

-- The rest of a block is at most 211 bytes long.
pub rest-most : (block : List ℕ) (ended : Bool) → length (block_reading block ended).kept ≤ 211
unfolding block_reading reading_from
rest-most block ended = open_most _ (scan_kept_open 0 0 (symbols block ended))

-- What the reading of a block has done that is not refused.
pub record BlockDelivers (block : List ℕ) (ended : Bool) (m₀ m : List ℕ) (bytes frames rest : ℕ) : Type 0 where
  pub roomy : length block ≤ length m₀
  pub memory : m ≡ over (joined (block_reading block ended).frames) m₀
  pub size : bytes ≡ length (joined (block_reading block ended).frames)
  pub count : frames ≡ length (block_reading block ended).frames
  pub place : rest ≡ length block - length (block_reading block ended).kept

pub read-delivers : (block : List ℕ) (ended : Bool) (m₀ m : List ℕ) (bytes frames rest : ℕ) →
    outcome (block_gives bytes frames rest) m ≡ block_read block ended m₀ → BlockDelivers block ended m₀ m bytes frames rest
unfolding block_read delivered
read-delivers block ended m₀ m bytes frames rest =
    pick_cases (λ (o : Outcome (Result BlockRead Refusal)). outcome (block_gives bytes frames rest) m ≡ o → BlockDelivers block ended m₀ m bytes frames rest)
    (leb (length block) (length m₀))
    (λ t e.
    let a = ok_same (ap (λ (o : Outcome (Result BlockRead Refusal)). o.answer) e) in
    record {
      roomy = leb-true _ _ t;
      memory = ap (λ (o : Outcome (Result BlockRead Refusal)). o.memory) e;
      size = ap (λ (read : BlockRead). read.bytes) a;
      count = ap (λ (read : BlockRead). read.frames) a;
      place = ap (λ (read : BlockRead). read.rest) a;
    })
    (λ t e. let a = ap (λ (o : Outcome (Result BlockRead Refusal)). o.answer) e in let z : ◌≡◌ {A = ℕ} 0 1 = cc in absurd (omega arith))

-- What the reading of a block has done that is refused.
pub record Declines (block m₀ m : List ℕ) (n : Refusal) : Type 0 where
  pub short : length m₀ < length block
  pub number : n ≡ ShortMemory
  pub memory : m ≡ m₀

pub read-declines : (block : List ℕ) (ended : Bool) (m₀ m : List ℕ) (n : Refusal) → outcome (Err n) m ≡ block_read block ended m₀ → Declines block m₀ m n
unfolding block_read delivered
read-declines block ended m₀ m n =
    pick_cases (λ (o : Outcome (Result BlockRead Refusal)). outcome (Err n) m ≡ o → Declines block m₀ m n)
    (leb (length block) (length m₀))
    (λ t e. let a = ap (λ (o : Outcome (Result BlockRead Refusal)). o.answer) e in let z : ◌≡◌ {A = ℕ} 0 1 = cc in absurd (omega arith))
    (λ t e.
    let a = ap (λ (o : Outcome (Result BlockRead Refusal)). o.answer) e in
    record { short = leb-false _ _ t; number = cc; memory = ap (λ (o : Outcome (Result BlockRead Refusal)). o.memory) e })

-- The rest begins within the block.
pub delivers-place : {block m₀ m : List ℕ} {ended : Bool} {bytes frames rest : ℕ} → BlockDelivers block ended m₀ m bytes frames rest → rest ≤ length block
delivers-place d = omega (arith, d.place)
