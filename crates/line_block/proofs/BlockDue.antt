-- What reading one block comes to, in document 01's terms: it delivers exactly the frames certain after its symbols, in rising place, and what
-- it leaves is the rest of the line. The end of a line is a silence behind its bytes: what is certain then is what is taken in it.
use Rattle.std.specs.Prelude.{ℕ, ◌+◌, ◌-◌, ◌≤◌, ◌<◌, ◌≡◌, ◌↔◌, Bool, true, false, List, map, length, drop, leb, Err, Result}
use Rattle.frame.specs.declared.refusal.Refusal.{Refusal}
use Rattle.frame.specs.declared.refusal.Refusal.TheVariants.{ShortMemory}
use Rattle.line_block.specs.Answer.{block_gives}
use Rattle.line_block.specs.declared.BlockRead.{BlockRead}
use Rattle.std.proofs.Common.{arith, ap, leb-true, leb-false}
use Rattle.laws.specs.Memory.{Outcome, outcome, over, LeftAlone}
use Rattle.laws.specs.TestLaws.{pick_cases}
use Rattle.line_terms.specs.Line.{byte, Taken, Certain}
use Rattle.line_terms.specs.Rest.{RestOf}
use Rattle.line_terms.proofs.RestLaws.{scan-rest}
use Rattle.line_terms.specs.Places.{joined, Exactly}
use Rattle.line_terms.proofs.ScanCertain.{certain-frames}
use Rattle.line_terms.proofs.Closed.{ended-taken}
use Rattle.line_block.specs.Drain.{symbols, reading_from}
use Rattle.laws.specs.Said.{IsRefusal}
use Rattle.line_block.proofs.Said.{block_said}
use Rattle.line_block.specs.Block.{block_reading, delivered, block_read}
use Rattle.line_block.proofs.BlockLaws.{rest-most}
use Rattle.line_block.proofs.RestLaws.{rest-there}

-- A block with memory shorter than it is refused with 1, and nothing is written.
pub record RefusesTheBlock (lent left : List ℕ) (answer : Result BlockRead Refusal) : Type 0 where
  pub number : answer ≡ Err ShortMemory
  pub memory : LeftAlone lent left

-- Any other block is read.
pub record ReadsTheBlock (block : List ℕ) (ended : Bool) (lent left : List ℕ) (answer : Result BlockRead Refusal) : Type 1 where
  -- the frames certain after it, in rising place, stand end to end over the front of the memory, and are counted
  pub certain : Exactly (Certain (symbols block ended))
  pub memory : left ≡ over (joined certain.frames) lent
  pub rest : ℕ
  pub says : answer ≡ block_gives (length (joined certain.frames)) (length certain.frames) rest
  -- the bytes from there on are those from the first place that may still become a frame and that no taken frame covers, at most 211
  pub kept : RestOf (symbols block ended) (drop rest block)
  pub within : rest ≤ length block
  pub most : length block ≤ rest + 211

-- What holds of the reading of a block, whatever memory is lent.
pub record BlockIsRight (block : List ℕ) (ended : Bool) (lent left : List ℕ) (answer : Result BlockRead Refusal) : Type 1 where
  pub refused : IsRefusal (block_said answer) ↔ (length lent < length block)
  pub short : length lent < length block → RefusesTheBlock lent left answer
  pub enough : length block ≤ length lent → ReadsTheBlock block ended lent left answer

-- With memory enough.
reads-block : (block : List ℕ) (ended : Bool) (lent left : List ℕ) (answer : Result BlockRead Refusal) →
    outcome answer left ≡ delivered (block_reading block ended) (length block) lent → ReadsTheBlock block ended lent left answer
unfolding delivered block_reading reading_from
reads-block block ended lent left answer e =
    record {
      certain = certain-frames (symbols block ended);
      memory = ap (λ (o : Outcome (Result BlockRead Refusal)). o.memory) e;
      rest = length block - length (block_reading block ended).kept;
      says = ap (λ (o : Outcome (Result BlockRead Refusal)). o.answer) e;
      kept = rw (rest-there block ended) (scan-rest (symbols block ended));
      within = omega arith;
      most = omega (arith, rest-most block ended);
    }

pub block_due : (block : List ℕ) (ended : Bool) (lent left : List ℕ) (answer : Result BlockRead Refusal) →
    outcome answer left ≡ block_read block ended lent → BlockIsRight block ended lent left answer
unfolding block_read
block_due block ended lent left answer =
    pick_cases (λ (o : Outcome (Result BlockRead Refusal)). outcome answer left ≡ o → BlockIsRight block ended lent left answer)
    (leb (length block) (length lent)) enough short
  where
    enough : leb (length block) (length lent) ≡ true → outcome answer left ≡ delivered (block_reading block ended) (length block) lent →
        BlockIsRight block ended lent left answer
    enough t e =
        let roomy : length block ≤ length lent = leb-true _ _ t in
        let r : ReadsTheBlock block ended lent left answer = reads-block block ended lent left answer e in
        record {
          refused = (λ w. absurd (rw r.says at w), λ h. absurd (omega arith));
          short = λ h. absurd (omega arith);
          enough = λ h. r;
        }

    short : leb (length block) (length lent) ≡ false → outcome answer left ≡ outcome (Err ShortMemory) lent → BlockIsRight block ended lent left answer
    short t e =
        let few : length lent < length block = leb-false _ _ t in
        let number : answer ≡ Err ShortMemory = ap (λ (o : Outcome (Result BlockRead Refusal)). o.answer) e in
        record {
          refused = (λ w. few, λ h. rw number tt);
          short = λ h. record { number = number; memory = ap (λ (o : Outcome (Result BlockRead Refusal)). o.memory) e };
          enough = λ h. absurd (omega arith);
        }

-- Where the line has ended with the block, the frames certain are those taken in it.
pub ended-block : (block : List ℕ) (place : ℕ) (frame : List ℕ) → Certain (symbols block true) place frame ↔ Taken (map byte block) place frame
unfolding symbols
ended-block block place frame = ended-taken (map byte block) place frame
