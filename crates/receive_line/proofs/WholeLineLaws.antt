-- Laws of a receiver that is fed a line while the frames it delivers are gathered in memory.
use Rattle.line.proofs.AnswerLaws.{handed_same}
use Rattle.line.specs.declared.Delivered.{Delivered}
use Rattle.std.specs.Prelude.{ℕ, ◌+◌, ◌-◌, ◌≤◌, ◌<◌, ◌^◌, ◌≡◌, refl, List, [], ◌∷◌, ◌++◌, map, length, get_or, leb, Bool, true, false, Err, Result, Ok}
use Rattle.frame.specs.declared.refusal.Refusal.{Refusal}
use Rattle.frame.specs.declared.refusal.Refusal.TheVariants.{ShortMemory}
use Rattle.line.specs.Answer.{handed}
use Rattle.line_block.specs.declared.BlockRead.{BlockRead}
use Rattle.std.proofs.Common.{add-one, arith, ap, sym, ◌∙◌, append-nil, length-append, length-take, take_all, take-suc, length-take-le, le-leb}
use Rattle.std.proofs.lemmas.List.{map-append}
use Rattle.std.proofs.Math.ListN.{take}
use Rattle.std.proofs.lemmas.Bool.{lt-leb}
use Rattle.laws.specs.Memory.{Outcome, outcome, over}
use Rattle.laws.specs.Test.{pick}
use Rattle.laws.specs.Puts.{Puts, front-within, front-put}
use Rattle.laws.specs.MemoryLaws.{over-length, over-over, over-itself}
use Rattle.line_terms.specs.Line.{Symbol, byte, silence}
use Rattle.line_terms.specs.Places.{joined}
use Rattle.line_terms.specs.Scan.{scan}
use Rattle.line_terms.proofs.FramesFew.{bytes_in, bytes_in_lem, bytes_in_closed, frames-few}
use Rattle.line.specs.Receiver.{fresh, called}
use Rattle.line.proofs.CallLaws.{HasReceived, fresh-received, new_frames, after_one}
use Rattle.line.proofs.DeliversLaws.{Delivers, call-delivers}
use Rattle.line.specs.declared.Receiver.{Receiver}
use Rattle.line.specs.declared.Received.{Received}
use Rattle.line_block.specs.Drain.{symbols, reading_from}
use Rattle.line_block.specs.Block.{block_reading, delivered, block_read}
use Rattle.receive_line.specs.WholeLine.{frames_in, received_line}
use Rattle.receive_line.specs.Receiving.{Receiving}

-- Where no bytes are gathered behind the first `at` of memory, it is as it was.
pub gathered_none : (at count : ℕ) (ys m : List ℕ) → at + count ≤ length m → count ≡ 0 → m ≡ over (take at m ++ take count ys) m
gathered_none at count ys m h e = rw (e, append-nil) (sym (over-itself at m (omega arith)))

-- Before the first symbol nothing is delivered.
receiving_start : (m : List ℕ) → Receiving [] m m fresh 0
unfolding scan joined
receiving_start m = record { heard = fresh-received; gathered = record { count = refl; memory = refl } }

-- A call of a receiver that has heard a line, with memory enough, is not refused.
pub never-refused : {x : List Symbol} {r : Receiver} {returned : Received} {left : List ℕ} {n : Refusal} (s : Symbol) (m : List ℕ) → HasReceived x r →
    212 ≤ length m → outcome returned left ≡ called s r m → returned.answer ≡ Err n → ⊥
never-refused s m h l e a = let d = (call-delivers s m h l e).0.answer in let z : ◌≡◌ {A = ℕ} 0 1 = cc in omega arith

-- A call with a symbol, with memory enough, of a receiver whose frames are gathered, where the line's bytes are no more than the memory.
module _ {x : List Symbol} {m₀ m left : List ℕ} {r : Receiver} {returned : Received} {at count frames : ℕ} (s : Symbol) (scratch : List ℕ)
    (h : Receiving x m₀ m r at) (enough : 212 ≤ length scratch) (e : outcome returned left ≡ called s r scratch) (a : returned.answer ≡ handed count frames)
    (fits : bytes_in (x ++ (s ∷ [])) ≤ length m₀) where
  -- It delivers the new frames, and has then heard the symbol.
  delivered-new : Delivers (joined (new_frames x s)) (length (new_frames x s)) scratch left returned
  delivered-new = (call-delivers s scratch h.heard enough e).0

  now-heard : HasReceived (x ++ (s ∷ [])) returned.receiver
  now-heard = (call-delivers s scratch h.heard enough e).1

  -- It counts their bytes, which stand at the front of its memory.
  new-put : Puts (joined (new_frames x s)) count scratch left
  new-put = record { count = (handed_same (sym a ∙ delivered-new.answer)).0; memory = delivered-new.memory }

  -- The frames delivered with one symbol more are those before and those that the call delivers.
  more : joined (scan 0 0 (x ++ (s ∷ []))).frames ≡ joined (scan 0 0 x).frames ++ joined (new_frames x s)
  more = (after_one now-heard).frames

  -- They fit.
  more-fits : length (joined (scan 0 0 x).frames) + length (joined (new_frames x s)) ≤ length m₀
  more-fits = omega (arith, frames-few (x ++ (s ∷ [])), ap length more ∙ length-append (joined (scan 0 0 x).frames) (joined (new_frames x s)))

  -- What the call delivers stands within its memory.
  count-within : count ≤ length left
  count-within = front-within new-put

  -- There is room for it.
  count_fits : at + count ≤ length m
  count_fits =
      let f : length (joined (scan 0 0 x).frames) + length (joined (new_frames x s)) ≤ length m₀ = more-fits in
      let l : length m ≡ length m₀ = ap length h.gathered.memory ∙ over-length (joined (scan 0 0 x).frames) m₀ (omega arith) in
      omega (arith, h.gathered.count, new-put.count)

  -- Gathered behind what was delivered before, it makes the receiver's hearing one symbol longer.
  receiving_more : Receiving (x ++ (s ∷ [])) m₀ (over (take at m ++ take count left) m) returned.receiver (at + count)
  receiving_more =
      let old : List ℕ = joined (scan 0 0 x).frames in
      let new : List ℕ = joined (new_frames x s) in
      let front : take at m ≡ old = front-put h.gathered in
      record {
        heard = now-heard;
        gathered =
            record {
              count = rw (more, length-append, h.gathered.count, new-put.count);
              memory = rw (front, front-put new-put, h.gathered.memory, more) (over-over (old ++ new) old m₀ (rw length-append (omega arith)));
            };
      }

-- The first `i` bytes of the input are heard, and the memory lent to a call has its length.
pub record Turning (input : List ℕ) (i : ℕ) (scratch m₀ m : List ℕ) (r : Receiver) (at : ℕ) : Type 0 where
  pub passed : i ≤ length input
  pub enough : length scratch ≡ 212
  pub same : length m ≡ length m₀
  pub so_far : Receiving (map byte (take i input)) m₀ m r at

-- An answer is a refusal or not.
pub refused_or_not : (a : Result Delivered Refusal) → ((n : Refusal) → a ≡ Err n → ⊥) → ((d : Delivered) → a ≡ Ok d → ⊥) → ⊥
refused_or_not (Err n) r delivers = r n refl
refused_or_not (Ok d) r delivers = delivers d refl

-- Before the first turn.
pub turning_start : {r : Receiver} (input scratch m : List ℕ) → length scratch ≡ 212 → r ≡ fresh → Turning input 0 scratch m m r 0
turning_start input scratch m n e =
    record { passed = omega arith; enough = n; same = refl; so_far = rw e (receiving_start m) }

-- A turn: the call with the next byte.
module _ {input scratch m₀ m left : List ℕ} {i at : ℕ} {r : Receiver} {returned : Received} (t : Turning input i scratch m₀ m r at) (below : i < length input)
    (roomy : length input ≤ length m₀) (e : outcome returned left ≡ called (byte (get_or input i 0)) r scratch) where
  -- It is not refused.
  pub turn-refused : {n : Refusal} → returned.answer ≡ Err n → ⊥
  turn-refused a = never-refused (byte (get_or input i 0)) scratch t.so_far.heard (omega (arith, t.enough)) e a

  -- The bytes heard after it are those before and that byte.
  next : map byte (take (i + 1) input) ≡ map byte (take i input) ++ (byte (get_or input i 0) ∷ [])
  next = rw (add-one, take-suc input i 0, map-append)

  -- They are no more than the memory.
  next_fits : bytes_in (map byte (take i input) ++ (byte (get_or input i 0) ∷ [])) ≤ length m₀
  next_fits = rw (← next, bytes_in_lem, length-take) (omega arith)

  module _ {count frames : ℕ} (a : returned.answer ≡ handed count frames) where
    -- There is memory enough for a frame.
    roomed : 212 ≤ length scratch
    roomed = omega (arith, t.enough)

    -- What it delivers lies within its memory.
    pub turn-within : count ≤ length left
    turn-within = count-within (byte (get_or input i 0)) scratch t.so_far roomed e a next_fits

    -- There is room for it.
    pub turn-fits : at + count ≤ length m
    turn-fits = count_fits (byte (get_or input i 0)) scratch t.so_far roomed e a next_fits

    -- Where that is gathered, the next turn may begin.
    pub turning_more : {m' : List ℕ} {at' : ℕ} → length left ≡ 212 → at' ≡ at + count → m' ≡ over (take at m ++ take count left) m →
        Turning input (i + 1) left m₀ m' returned.receiver at'
    turning_more n p q =
        let f : at + count ≤ length m = turn-fits in
        let old : length (take at m) ≡ at = length-take-le at m (omega arith) in
        let new : length (take count left) ≡ count = length-take-le count left turn-within in
        record {
          passed = omega arith;
          enough = n;
          same = ap length q ∙ over-length (take at m ++ take count left) m (rw length-append (omega arith)) ∙ t.same;
          so_far = rw (next, p, q) (receiving_more (byte (get_or input i 0)) scratch t.so_far roomed e a next_fits);
        }

-- After the last turn all of the input is heard.
pub turning_end : {input scratch m₀ m : List ℕ} {i at : ℕ} {r : Receiver} → Turning input i scratch m₀ m r at → length input ≤ i →
    Receiving (map byte input) m₀ m r at
turning_end t h = rw take_all at t.so_far

-- Memory shorter than the input: the largest number, and nothing written.
pub too_short : (input m : List ℕ) → length m < length input → outcome (2 ^ 64 - 1) m ≡ received_line input m
unfolding received_line
too_short input m h = rw lt-leb

-- The end: the call with the silence.
module _ {m₀ m left : List ℕ} {at count frames : ℕ} {r : Receiver} {returned : Received} (input scratch : List ℕ) (enough : length scratch ≡ 212)
    (roomy : length input ≤ length m₀) (h : Receiving (map byte input) m₀ m r at) (e : outcome returned left ≡ called silence r scratch)
    (a : returned.answer ≡ handed count frames) where
  -- The line's bytes are no more than the memory.
  last_fits : bytes_in (map byte input ++ (silence ∷ [])) ≤ length m₀
  last_fits = rw bytes_in_closed roomy

  -- What it delivers lies within its memory.
  pub end-within : count ≤ length left
  end-within = count-within silence scratch h (omega arith) e a last_fits

  -- There is room for it.
  pub end_fits : at + count ≤ length m
  end_fits = count_fits silence scratch h (omega arith) e a last_fits

  -- Where that is gathered, the whole line is heard.
  pub line-received : {m' : List ℕ} {at' : ℕ} → at' ≡ at + count → m' ≡ over (take at m ++ take count left) m → outcome at' m' ≡ received_line input m₀
  unfolding received_line frames_in
  line-received p q =
      let all : Receiving (map byte input ++ (silence ∷ [])) m₀ (over (take at m ++ take count left) m) returned.receiver (at + count) =
      receiving_more silence scratch h (omega arith) e a last_fits in
      rw (le-leb (length input) (length m₀) roomy, p, q, all.gathered.memory, all.gathered.count)

-- An answer to the reading of a block as one number.
abbrev pub number_returned : Result BlockRead Refusal → ℕ
number_returned (Err n) = 2 ^ 64 - 1
number_returned (Ok read) = read.bytes

abbrev numbered : Outcome (Result BlockRead Refusal) → Outcome ℕ
numbered o = outcome (number_returned o.answer) o.memory

-- The line read straight, as one block with which it has ended.
pub line_read : (input m₀ m : List ℕ) (answer : Result BlockRead Refusal) → outcome answer m ≡ block_read input true m₀ → outcome (number_returned answer) m ≡ received_line input m₀
unfolding received_line frames_in block_read block_reading reading_from symbols delivered
line_read input m₀ m answer e = ap numbered e ∙ by (leb (length input) (length m₀))
  where
    by : (t : Bool) → numbered (pick t (delivered (block_reading input true) (length input) m₀) (outcome (Err ShortMemory) m₀)) ≡
        pick t (outcome (length (frames_in input)) (over (frames_in input) m₀)) (outcome (2 ^ 64 - 1) m₀)
    by true = refl
    by false = refl
