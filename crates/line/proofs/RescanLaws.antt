-- Reading kept bytes anew: with a byte with which they begin no frame from the second on, and before a silence.
use Rattle.std.specs.Prelude.{ℕ, zero, suc, ◌+◌, ◌-◌, ◌≤◌, ◌<◌, ◌≡◌, refl, true, take}
use Rattle.line_block.specs.Answer.{block_gives}
use Rattle.std.proofs.Math.Path.{ap}
use Rattle.std.proofs.Common.{sym, ◌∙◌, arith, length-drop, drop-drop, length-take-le}
use mathlib.Core.List.{List, [], ◌∷◌, ◌++◌}
use Rattle.std.proofs.Math.Bool.{false}
use Rattle.std.proofs.Math.Nat.{sub-zero, zero-sub, suc-sub-suc}
use Rattle.std.proofs.Math.ListN.{length, drop, length-append}
use Rattle.std.proofs.Math.Seq.{take-nil}
use Rattle.laws.specs.Memory.{outcome, over}
use Rattle.frame.specs.Recognition.{recognised}
use Rattle.frame.specs.declared.Recognised.TheVariants.{Open, Neither}
use Rattle.line_terms.specs.Places.{joined}
use Rattle.line_terms.specs.Scan.{LineReading, before_silence}
use Rattle.line_terms.proofs.ScanLaws.{place-joined, place-count, place_kept}
use Rattle.line_block.specs.Drain.{reading_from}
use Rattle.line_block.proofs.DrainLaws.{reading-neither, reading-closed, draining_start}
use Rattle.line_block.specs.Block.{block_reading, block_read}
use Rattle.line_block.proofs.BlockLaws.{BlockDelivers, open_read, read-delivers}
use Rattle.line_block.proofs.RestLaws.{rest-there}
use Rattle.line.specs.Rescan.{Rescans}
use Rattle.line.specs.declared.drain.Rescanned.{Rescanned}

-- A part between two places, as the front of what follows the first or as what follows the first in a front.
pub part_of_front : (a n : ℕ) (l : List ℕ) → take (n - a) (drop a l) ≡ drop a (take n l)
part_of_front zero n l = rw sub-zero
part_of_front (suc a) zero l = rw zero-sub
part_of_front (suc a) (suc n) [] = rw take-nil
part_of_front (suc a) (suc n) (x ∷ l) = rw suc-sub-suc (part_of_front a n l)

-- What is copied to the front stands over it.
pub put_front : (x y m : List ℕ) (k : ℕ) → x ≡ y → length y ≡ k → x ++ drop k m ≡ over y m
put_front x y m k e l = rw (e, ← l)

-- Bytes that begin no frame, the first of a line: the kept ones and one more.
module _ (kept line : List ℕ) (count b : ℕ) (e : take (count + 1) line ≡ take count kept ++ (b ∷ [])) (h : count + 1 ≤ length line) where
  -- those from the second on
  abbrev pub from_second : List ℕ
  from_second = take (count + 1 - 1) (drop 1 line)

  pub second-size : length from_second ≡ count
  second-size = simp (length-take-le (count + 1 - 1) (drop 1 line) (simp length-drop (omega arith))) (omega arith)

  -- Where they are open, reading them as a block delivers nothing and keeps all.
  pub second_open : (m : List ℕ) → count ≤ length m → recognised from_second ≡ Open → outcome (block_gives 0 0 0) m ≡ block_read from_second false m
  second_open m l o = open_read from_second false m m 0 0 0 (draining_start from_second false m) (omega (arith, second-size)) refl o

  module _ (n : recognised (take count kept ++ (b ∷ [])) ≡ Neither) where
    -- The reading of all is that of those, a place further on.
    on : reading_from 0 (take count kept ++ (b ∷ [])) false ≡ reading_from 1 from_second false
    unfolding before_silence
    on =
        let some : 0 < length (take count kept ++ (b ∷ [])) = simp length-append (omega arith) in
        let same : from_second ≡ drop 1 (take count kept ++ (b ∷ [])) = part_of_front 1 (count + 1) line ∙ ap (drop 1) e in
        reading-neither 0 (take count kept ++ (b ∷ [])) false some (ap (before_silence false) n) ∙ ap (λ (l : List ℕ). reading_from 1 l false) (sym same)

    on_joined : joined (block_reading from_second false).frames ≡ joined (reading_from 0 (take count kept ++ (b ∷ [])) false).frames
    unfolding reading_from block_reading
    on_joined = place-joined 0 1 _ ∙ ap (λ (r : LineReading). joined r.frames) (sym on)

    on_count : length (block_reading from_second false).frames ≡ length (reading_from 0 (take count kept ++ (b ∷ [])) false).frames
    unfolding reading_from block_reading
    on_count = place-count 0 1 _ ∙ ap (λ (r : LineReading). length r.frames) (sym on)

    on_kept : (block_reading from_second false).kept ≡ (reading_from 0 (take count kept ++ (b ∷ [])) false).kept
    unfolding reading_from block_reading
    on_kept = place_kept 0 1 _ ∙ ap (λ (r : LineReading). r.kept) (sym on)

    -- With those read as a block, and the rest of it copied back, the bytes are read anew.
    pub read_rescans : (kept₁ m m₁ : List ℕ) (at bytes frames : ℕ) → 1 ≤ at → outcome (block_gives bytes frames (at - 1)) m₁ ≡ block_read from_second false m →
        kept₁ ≡ over (take (count + 1 - at) (drop at line)) kept →
        Rescans (reading_from 0 (take count kept ++ (b ∷ [])) false) kept kept₁ m m₁ (record { count = count + 1 - at; bytes = bytes; frames = frames })
    read_rescans kept₁ m m₁ at bytes frames l r k =
        let w : BlockDelivers from_second false m m₁ bytes frames (at - 1) = read-delivers from_second false m m₁ bytes frames (at - 1) r in
        let one : at ≡ 1 + (at - 1) = omega arith in
        let rest : take (count + 1 - at) (drop at line) ≡ drop (at - 1) from_second =
        part_of_front at (count + 1) line
        ∙ ap (λ (i : ℕ). drop i (take (count + 1) line)) one
        ∙ sym (drop-drop (at - 1) 1 (take (count + 1) line))
        ∙ ap (drop (at - 1)) (sym (part_of_front 1 (count + 1) line)) in
        let there : drop (at - 1) from_second ≡ (reading_from 0 (take count kept ++ (b ∷ [])) false).kept = ap (λ (i : ℕ). drop i from_second) w.place ∙ rest-there from_second false ∙ on_kept in
        let size : count + 1 - at ≡ length (drop (at - 1) from_second) = omega (arith, length-drop (at - 1) from_second, second-size) in
        record {
          rest = k ∙ ap (λ (x : List ℕ). over x kept) (rest ∙ there);
          count = size ∙ ap length there;
          memory = w.memory ∙ ap (λ (x : List ℕ). over x m) on_joined;
          bytes = w.size ∙ ap length on_joined;
          frames = w.count ∙ on_count;
        }

-- Reading the kept bytes before a silence keeps nothing.
pub silence_rescans : (x kept m m₁ : List ℕ) (bytes frames rest : ℕ) → outcome (block_gives bytes frames rest) m₁ ≡ block_read x true m →
    Rescans (reading_from 0 x true) kept kept m m₁ (record { count = 0; bytes = bytes; frames = frames })
unfolding block_reading
silence_rescans x kept m m₁ bytes frames rest r =
    let none : (reading_from 0 x true).kept ≡ [] = reading-closed 0 x in
    let w : BlockDelivers x true m m₁ bytes frames rest = read-delivers x true m m₁ bytes frames rest r in
    record {
      rest = ap (λ (l : List ℕ). over l kept) (sym none);
      count = ap length (sym none);
      memory = w.memory;
      bytes = w.size;
      frames = w.count;
    }

-- So it does whatever the array is that they stand in.
pub silence_alone : (x : List ℕ) {kept m m₁ : List ℕ} {n : Rescanned} (array : List ℕ) → Rescans (reading_from 0 x true) kept kept m m₁ n →
    Rescans (reading_from 0 x true) array array m m₁ n
silence_alone x array r =
    record {
      rest = ap (λ (l : List ℕ). over l array) (sym (reading-closed 0 x));
      count = r.count;
      memory = r.memory;
      bytes = r.bytes;
      frames = r.frames;
    }
