-- Bytes put over the front of a memory, with their count.
use Rattle.std.specs.Prelude.{ℕ, ◌+◌, ◌≤◌, ◌<◌, ◌≡◌, List, [], ◌∷◌, ◌++◌, length, take, drop, set}
use Rattle.std.proofs.Common.{ap, sym, ◌∙◌, arith, length-append, take_at}
use Rattle.laws.specs.Memory.{over}
use Rattle.laws.specs.MemoryLaws.{over-length, over-over, over-next}

-- Bytes are put over the front of a memory, and they are `n`.
pub record Puts (bytes : List ℕ) (n : ℕ) (m left : List ℕ) : Type 0 where
  pub count : n ≡ length bytes
  pub memory : left ≡ over bytes m

-- They lie within the memory, and are its front.
module _ {bytes : List ℕ} {n : ℕ} {m left : List ℕ} (puts : Puts bytes n m left) where
  pub front-within : n ≤ length left
  front-within = rw (puts.memory, length-append) (omega (arith, puts.count))

  pub front-put : take n left ≡ bytes
  front-put = rw puts.memory (take_at bytes (drop (length bytes) m) n (sym puts.count))

  -- The memory keeps its length.
  pub puts-kept : n ≤ length m → length left ≡ length m
  puts-kept h = ap length puts.memory ∙ over-length bytes m (omega (arith, puts.count))

  -- One byte more is stored behind them.
  pub puts_store : (v : ℕ) → n < length m → Puts (bytes ++ (v ∷ [])) (n + 1) m (set left n v)
  puts_store v h =
      record {
        count = rw length-append (omega (arith, puts.count));
        memory = ap (λ (l : List ℕ). set l n v) puts.memory ∙ over-next bytes m n v (sym puts.count) h;
      }

  -- A part more is put behind them.
  pub puts-part : {r : List ℕ} (part : List ℕ) (k : ℕ) → n + length part ≡ k → r ≡ over (take n left ++ part) left → Puts (bytes ++ part) k m r
  puts-part part k e h =
      let more : length bytes ≤ length (bytes ++ part) = rw length-append (omega arith) in
      record {
        count = rw length-append (omega (arith, puts.count));
        memory = h ∙ rw (front-put, puts.memory) (over-over (bytes ++ part) bytes m more);
      }
