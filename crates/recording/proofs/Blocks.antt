-- A line read in blocks, cut anywhere: one theorem over every list of steps from a buffer that keeps nothing. In all they deliver exactly the frames
-- certain after the line that they bring, each step those that became certain with it, and keep the rest of the line. The end of a line is a
-- silence, so that what is certain behind it is what is taken in the line (`ended-taken`).
use Rattle.std.specs.Prelude.{ℕ, ◌+◌, ◌≤◌, ◌<◌, ◌≡◌, refl, ◌↔◌, ◌⊎◌, Bool, true, false, length, take, drop, Err, Result, Ok}
use Rattle.frame.specs.declared.refusal.Refusal.{Refusal}
use Rattle.frame.specs.declared.refusal.Refusal.TheVariants.{ShortMemory}
use Rattle.recording.specs.Answer.{step_gives}
use Rattle.recording.specs.declared.StepRead.{StepRead}
use Rattle.std.proofs.Common.{arith, ap, sym, subst, ◌∙◌, ⊎_elim, length-append, take-add}
use mathlib.Core.List.{List, [], ◌∷◌, ◌++◌, map, map-append, append_assoc, flatten}
use Rattle.std.proofs.Math.Seq.{take-append_seam}
use Rattle.laws.specs.All.{AllOf}
use Rattle.laws.specs.AllLaws.{all_at, all-follow, all_mapped}
use Rattle.laws.specs.Memory.{over, LeftAlone}
use Rattle.line_terms.specs.Line.{Symbol, byte, Certain, Newly}
use Rattle.line_terms.specs.Rest.{RestOf}
use Rattle.line_terms.specs.Places.{joined, frames_of, Exactly}
use Rattle.line_terms.proofs.PlaceLaws.{joined-frames, count-frames, joined_same, count_same}
use Rattle.line_terms.specs.Scan.{LineReading, scan}
use Rattle.line_terms.proofs.ScanCertain.{certain-frames}
use Rattle.line_block.specs.Drain.{symbols, reading_from}
use Rattle.line_block.specs.Block.{block_reading}
use Rattle.line_block.proofs.BlockLaws.{rest-most}
use Rattle.recording.specs.Step.{step_outcome, step_reading, step_read}
use Rattle.recording.proofs.StepLaws.{Stepping, ignores, delivers, stepping}
use Rattle.recording.specs.Chain.{Says, refuses, keeps, IsRefused, BufferCall, kept_after, Chain, heard}
use Rattle.recording.proofs.ChainLaws.{reading_of, Answers, refused, reads, found_by, found_in, chain_finds, chain_keeps, NewlyRead, chain_each}

-- A call of the step: how many bytes it was told are kept, how many are read behind them and whether a silence follows; the line's buffer and
-- the memory lent, what it answered, and both as they stood then.
pub record StepCall : Type 0 where
  pub kept : ℕ
  pub read : ℕ
  pub ended : Bool
  pub buffer : List ℕ
  pub lent : List ℕ
  pub answer : Result StepRead Refusal
  pub left_buffer : List ℕ
  pub left : List ℕ

-- It answers what its `ensures` says.
abbrev pub IsStep : StepCall → Type 0
IsStep c = step_outcome c.answer c.left_buffer c.left ≡ step_read c.kept c.read c.ended c.buffer c.lent

-- The bytes that stand behind those kept, as many as were read where the buffer has them.
abbrev pub new_bytes : ℕ → ℕ → List ℕ → List ℕ
new_bytes kept read buffer = take read (drop kept buffer)

-- What a call brings: its new bytes, and a silence behind them where the line has ended.
abbrev pub brought_by : StepCall → List Symbol
brought_by c = symbols (new_bytes c.kept c.read c.buffer) c.ended

-- What an answer says of the bytes kept.
abbrev pub says_of : Result StepRead Refusal → Says
says_of (Err n) = refuses
says_of (Ok read) = keeps read.kept

-- A step as a call over the line's buffer.
abbrev pub on_buffer : StepCall → BufferCall
on_buffer c = record { kept = c.kept; buffer = c.buffer; brought = brought_by c; says = says_of c.answer; left = c.left_buffer }

-- The line that steps bring, and what is kept after them.
abbrev pub line_of : List StepCall → List Symbol
line_of calls = heard (map on_buffer calls)

abbrev pub kept_of : List StepCall → List ℕ
kept_of calls = kept_after [] (map on_buffer calls)

-- What an answer delivers: as many bytes as it says, from the front of the memory; and the number of frames that it says.
abbrev pub delivered_by : Result StepRead Refusal → List ℕ → List ℕ
delivered_by (Err n) left = []
delivered_by (Ok read) left = take read.bytes left

abbrev pub delivered_bytes : List StepCall → List ℕ
delivered_bytes [] = []
delivered_bytes (c ∷ cs) = delivered_by c.answer c.left ++ delivered_bytes cs

abbrev pub counted_by : Result StepRead Refusal → ℕ
counted_by (Err n) = 0
counted_by (Ok read) = read.frames

abbrev pub counted_frames : List StepCall → ℕ
counted_frames [] = 0
counted_frames (c ∷ cs) = counted_by c.answer + counted_frames cs

-- The buffer, or the memory, is shorter than the bytes that the step was told of.
abbrev pub TooShort : StepCall → Type 0
TooShort c = (length c.buffer < c.kept + c.read) ⊎ (length c.lent < c.kept + c.read)

-- Exactly then it is refused, with 1, and nothing changes.
pub record StepRefusal (c : StepCall) : Type 0 where
  pub refused : IsRefused (says_of c.answer) ↔ TooShort c
  pub number : TooShort c → c.answer ≡ Err ShortMemory
  pub buffer : TooShort c → LeftAlone c.buffer c.left_buffer
  pub memory : TooShort c → LeftAlone c.lent c.left

-- Any other step, by the line before it: the frames that became certain with what it brings stand end to end over the front of the memory, and
-- are as many, of as many bytes, as it says; the rest of the line, at most 211 bytes, stands over the front of the buffer, and is as many bytes
-- as it says.
pub record StepReads (line : List Symbol) (c : StepCall) : Type 1 where
  pub new : Exactly (Newly line (brought_by c))
  pub kept : List ℕ
  pub rest : RestOf (line ++ brought_by c) kept
  pub most : length kept ≤ 211
  pub answer : c.answer ≡ step_gives (length (joined new.frames)) (length new.frames) (length kept)
  pub buffer : c.left_buffer ≡ over kept c.buffer
  pub memory : c.left ≡ over (joined new.frames) c.lent

-- What holds of a list of steps.
pub record ReadsTheLine (calls : List StepCall) : Type 1 where
  -- each step of the list
  pub refusals : AllOf StepRefusal calls
  pub each : (earlier : List StepCall) (c : StepCall) (later : List StepCall) → calls ≡ earlier ++ (c ∷ later) → (TooShort c → ⊥) →
      StepReads (line_of earlier) c
  -- the frames certain after the line, and that all that was delivered, joined, and all that was counted is theirs
  pub certain : Exactly (Certain (line_of calls))
  pub delivered : delivered_bytes calls ≡ joined certain.frames
  pub counted : counted_frames calls ≡ length certain.frames
  -- what is kept are the bytes from the first place on that may still become a frame and that no taken frame covers
  pub kept : RestOf (line_of calls) (kept_of calls)

-- What a step comes to.
abbrev Comes : StepCall → Type 0
Comes c = Stepping c.kept c.read c.ended c.buffer c.lent c.answer c.left_buffer c.left

-- The refusal of any step.
pub step-refusal : (c : StepCall) → IsStep c → StepRefusal c
step-refusal c h = go (stepping h)
  where
    go : Comes c → StepRefusal c
    go (ignores w a b m) = record { refused = (λ r. w, λ v. rw a tt); number = λ v. a; buffer = λ v. b; memory = λ v. m }
    go (delivers b m a f o) =
        record { refused = (λ r. absurd (rw a at r), λ v. absurd (none v)); number = λ v. absurd (none v); buffer = λ v. absurd (none v); memory = λ v. absurd (none v) }
      where
        none : TooShort c → ⊥
        none = ⊎_elim (λ l. omega arith) (λ l. omega arith)

-- The symbols of bytes joined.
symbols-append : (a b : List ℕ) (ended : Bool) → symbols (a ++ b) ended ≡ map byte a ++ symbols b ended
unfolding symbols
symbols-append a b true = rw (map-append, append_assoc)
symbols-append a b false = rw map-append

-- What the bytes of a step read as: those kept, and then the symbols that it brings.
pub step-reading : (kept read : ℕ) (ended : Bool) (buffer : List ℕ) →
    step_reading kept read ended buffer ≡ scan 0 0 (map byte (take kept buffer) ++ symbols (new_bytes kept read buffer) ended)
unfolding block_reading reading_from
step-reading kept read ended buffer =
    ap (λ (l : List ℕ). scan 0 0 (symbols l ended)) (take-add kept read buffer)
    ∙ ap (scan 0 0) (symbols-append (take kept buffer) (new_bytes kept read buffer) ended)

same-reading : (c : StepCall) → step_reading c.kept c.read c.ended c.buffer ≡ reading_of (on_buffer c)
same-reading c = step-reading c.kept c.read c.ended c.buffer

-- So a step is refused, or says and leaves what its reading keeps.
step-answers : (c : StepCall) → IsStep c → Answers (on_buffer c)
step-answers c h = go (stepping h)
  where
    go : Comes c → Answers (on_buffer c)
    go (ignores w a b m) = refused (ap says_of a)
    go (delivers w v a b m) =
        reads (ap says_of a ∙ ap (λ (r : LineReading). keeps (length r.kept)) (same-reading c))
        (b ∙ ap (λ (r : LineReading). over r.kept c.buffer) (same-reading c))

steps_answer : (calls : List StepCall) → AllOf IsStep calls → AllOf Answers (map on_buffer calls)
steps_answer calls h = all_mapped IsStep on_buffer Answers step-answers calls h

-- A step that is not refused, by what it finds behind the line before it.
step-reads : (line : List Symbol) (c : StepCall) → IsStep c → (TooShort c → ⊥) → NewlyRead line (on_buffer c) → StepReads line c
step-reads line c h enough n = go (stepping h)
  where
    found : frames_of (step_reading c.kept c.read c.ended c.buffer).frames ≡ frames_of n.new.frames
    found = ap (λ (r : LineReading). frames_of r.frames) (same-reading c) ∙ sym n.same

    bytes : joined (step_reading c.kept c.read c.ended c.buffer).frames ≡ joined n.new.frames
    bytes = joined_same _ _ found

    count : length (step_reading c.kept c.read c.ended c.buffer).frames ≡ length n.new.frames
    count = count_same _ _ found

    go : Comes c → StepReads line c
    go (ignores w a b m) = absurd (enough w)
    go (delivers w v a b m) =
        record {
          new = n.new;
          kept = (step_reading c.kept c.read c.ended c.buffer).kept;
          rest = rw (same-reading c) n.rest;
          most = rest-most (take (c.kept + c.read) c.buffer) c.ended;
          answer = a ∙ (λ i. step_gives (length (bytes i)) (count i) (length (step_reading c.kept c.read c.ended c.buffer).kept));
          buffer = b;
          memory = m ∙ ap (λ (l : List ℕ). over l c.lent) bytes;
        }

-- What a step delivers and counts is what it finds.
step-finds : (c : StepCall) → IsStep c → let fs : List (List ℕ) = found_by (says_of c.answer) (frames_of (reading_of (on_buffer c)).frames) in
    (delivered_by c.answer c.left ≡ flatten fs) × (counted_by c.answer ≡ length fs)
unfolding flatten
step-finds c h = go (stepping h)
  where
    go : Comes c → let fs : List (List ℕ) = found_by (says_of c.answer) (frames_of (reading_of (on_buffer c)).frames) in
        (delivered_by c.answer c.left ≡ flatten fs) × (counted_by c.answer ≡ length fs)
    go (ignores w a b m) = rw a (refl, refl)
    go (delivers w v a b m) =
        rw (a, m, take-append_seam (joined (step_reading c.kept c.read c.ended c.buffer).frames) _, ← same-reading c)
        (joined-frames (step_reading c.kept c.read c.ended c.buffer).frames, count-frames (step_reading c.kept c.read c.ended c.buffer).frames)

flatten_append : (a b : List (List ℕ)) → flatten (a ++ b) ≡ flatten a ++ flatten b
unfolding flatten
flatten_append [] b = refl
flatten_append (l ∷ a) b = rw (flatten_append a b, append_assoc)

all_find : (calls : List StepCall) → AllOf IsStep calls →
    (delivered_bytes calls ≡ flatten (found_in (map on_buffer calls))) × (counted_frames calls ≡ length (found_in (map on_buffer calls)))
unfolding flatten
all_find [] h = (refl, refl)
all_find (c ∷ cs) h =
    let one = step-finds c h.0 in
    let rest = all_find cs h.1 in
    (rw (one.0, rest.0, flatten_append), rw (one.1, rest.1, length-append))

-- Of every list of steps from a buffer that keeps nothing.
pub blocks_due : (calls : List StepCall) → AllOf IsStep calls → Chain [] (map on_buffer calls) → ReadsTheLine calls
blocks_due calls s h =
    let a : AllOf Answers (map on_buffer calls) = steps_answer calls s in
    let finds : frames_of (scan 0 0 (line_of calls)).frames ≡ found_in (map on_buffer calls) = chain_finds (map on_buffer calls) h a in
    let all = all_find calls s in
    record {
      refusals = all-follow IsStep StepRefusal step-refusal calls s;
      each = each;
      certain = certain-frames (line_of calls);
      delivered = all.0 ∙ ap flatten (sym finds) ∙ sym (joined-frames (scan 0 0 (line_of calls)).frames);
      counted = all.1 ∙ ap length (sym finds) ∙ sym (count-frames (scan 0 0 (line_of calls)).frames);
      kept = chain_keeps (map on_buffer calls) h a;
    }
  where
    each : (earlier : List StepCall) (c : StepCall) (later : List StepCall) → calls ≡ earlier ++ (c ∷ later) → (TooShort c → ⊥) →
        StepReads (line_of earlier) c
    each earlier c later e enough =
        let split : map on_buffer calls ≡ map on_buffer earlier ++ (on_buffer c ∷ map on_buffer later) = ap (map on_buffer) e ∙ map-append on_buffer earlier (c ∷ later) in
        let is : IsStep c = all_at IsStep earlier c later (subst (AllOf IsStep) e s) in
        step-reads (line_of earlier) c is enough
        (chain_each (map on_buffer earlier) (on_buffer c) (map on_buffer later) (subst (Chain []) split h)
        (subst (AllOf Answers) split (steps_answer calls s)) (λ r. enough ((step-refusal c is).refused.0 r)))
