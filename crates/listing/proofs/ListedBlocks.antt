-- A line listed in blocks, cut anywhere: one theorem over every list of steps from a buffer that keeps nothing. In all they write exactly the lines of the
-- frames certain after the line that they bring, in rising place, and each step the lines of those that became certain with it. A step that
-- read nothing is at the end of the input, and the end is a silence.
use Rattle.std.specs.Prelude.{ℕ, ◌+◌, ◌≤◌, ◌≡◌, refl, ◌↔◌, List, [], ◌∷◌, ◌++◌, map, length, take, drop, Err, Result, Ok}
use Rattle.listing.specs.declared.step.StepListed.{StepListed}
use Rattle.frame.specs.declared.refusal.Refusal.{Refusal}
use Rattle.frame.specs.declared.refusal.Refusal.TheVariants.{ShortMemory}
use Rattle.listing.specs.StepListed.{step_lists}
use Rattle.std.proofs.Common.{arith, ap, sym, subst, ◌∙◌, inl, inr, append_assoc, length-drop, length-take-le}
use Rattle.std.proofs.Math.Decide.{dec_lt}
use Rattle.std.proofs.lemmas.List.{map-append}
use Rattle.std.proofs.Math.Seq.{take-append_seam}
use Rattle.laws.specs.All.{AllOf}
use Rattle.laws.specs.AllLaws.{all_at, all-follow, all_mapped}
use Rattle.laws.specs.Memory.{over, LeftAlone}
use Rattle.line_terms.specs.Line.{Symbol, byte, silence, Taken, Certain, Newly}
use Rattle.line_terms.specs.Rest.{RestOf}
use Rattle.line_terms.specs.Places.{joined, frames_of, Exactly}
use Rattle.line_terms.proofs.PlaceLaws.{joined_same}
use Rattle.line_terms.specs.Scan.{LineReading, scan}
use Rattle.line_terms.proofs.ScanCertain.{certain-frames}
use Rattle.line_terms.proofs.Closed.{taken-frames}
use Rattle.line_block.specs.Drain.{symbols}
use Rattle.line_block.proofs.BlockLaws.{rest-most}
use Rattle.recording.specs.Step.{step_reading}
use Rattle.recording.specs.Chain.{Says, refuses, keeps, IsRefused, BufferCall, kept_after, Chain, heard}
use Rattle.recording.proofs.ChainLaws.{reading_of, Answers, refused, reads, found_by, found_in, chain_finds, chain_keeps, NewlyRead, chain_each, chain_anew}
use Rattle.recording.proofs.Blocks.{new_bytes, step-reading}
use Rattle.listing.specs.Lines.{lines_of}
use Rattle.listing.proofs.LinesLaws.{lines-append}
use Rattle.listing.specs.Step.{is_end, TooShort, listing_outcome, step_listed}
use Rattle.listing.proofs.StepLaws.{none_end, some_no_end, ListStepping, declines, lists, list_stepping}

-- A call of the step: how many bytes it was told are kept and how many are read behind them; the line's buffer and both memories lent, what it
-- answered, and all three as they stood then.
pub record ListCall : Type 0 where
  pub kept : ℕ
  pub read : ℕ
  pub buffer : List ℕ
  pub lent_frames : List ℕ
  pub lent_text : List ℕ
  pub answer : Result StepListed Refusal
  pub left_buffer : List ℕ
  pub left_frames : List ℕ
  pub left_text : List ℕ

-- It answers what its `ensures` says.
abbrev pub IsListStep : ListCall → Type 0
IsListStep c =
    listing_outcome c.answer c.left_buffer c.left_frames c.left_text ≡ step_listed c.kept c.read c.buffer c.lent_frames c.lent_text

-- What a read brings: its bytes; and where it brought none, the input has ended, and the end is a silence.
abbrev pub brought : List ℕ → List Symbol
brought [] = silence ∷ []
brought (b ∷ bs) = map byte (b ∷ bs)

abbrev pub brought_by : ListCall → List Symbol
brought_by c = brought (new_bytes c.kept c.read c.buffer)

-- What an answer says of the bytes kept.
abbrev pub says_of : Result StepListed Refusal → Says
says_of (Err n) = refuses
says_of (Ok listed) = keeps listed.kept

-- A step of the listing as a call over the line's buffer.
abbrev pub on_buffer : ListCall → BufferCall
on_buffer c = record { kept = c.kept; buffer = c.buffer; brought = brought_by c; says = says_of c.answer; left = c.left_buffer }

-- The line that steps bring, and what is kept after them.
abbrev pub line_of : List ListCall → List Symbol
line_of calls = heard (map on_buffer calls)

abbrev pub kept_of : List ListCall → List ℕ
kept_of calls = kept_after [] (map on_buffer calls)

-- What an answer lists: as many bytes as it says, from the front of the text memory; nothing if refused.
abbrev pub text_by : Result StepListed Refusal → List ℕ → List ℕ
text_by (Err n) left = []
text_by (Ok listed) left = take listed.text left

-- The whole text.
abbrev pub listed_text : List ListCall → List ℕ
listed_text [] = []
listed_text (c ∷ cs) = text_by c.answer c.left_text ++ listed_text cs

-- The memory lent to a call is too short for the bytes that it was told of.
abbrev pub IsShort : ListCall → Type 0
IsShort c = TooShort (c.kept + c.read) c.buffer c.lent_frames c.lent_text

-- Exactly then it is refused, with 1, and nothing changes.
pub record ListRefusal (c : ListCall) : Type 0 where
  pub refused : IsRefused (says_of c.answer) ↔ IsShort c
  pub number : IsShort c → c.answer ≡ Err ShortMemory
  pub buffer : IsShort c → LeftAlone c.buffer c.left_buffer
  pub frames : IsShort c → LeftAlone c.lent_frames c.left_frames
  pub text : IsShort c → LeftAlone c.lent_text c.left_text

-- Any other step, by the line before it: the frames that became certain with what it brings stand end to end over the front of the one memory,
-- and their lines over the front of the other, which are as many bytes as it says; the rest of the line, at most 211 bytes, stands over the
-- front of the buffer, and is as many bytes as it says.
pub record StepLists (line : List Symbol) (c : ListCall) : Type 1 where
  pub new : Exactly (Newly line (brought_by c))
  pub kept : List ℕ
  pub rest : RestOf (line ++ brought_by c) kept
  pub most : length kept ≤ 211
  pub answer : c.answer ≡ step_lists (length (lines_of (frames_of new.frames))) (length kept)
  pub buffer : c.left_buffer ≡ over kept c.buffer
  pub frames : c.left_frames ≡ over (joined new.frames) c.lent_frames
  pub text : c.left_text ≡ over (lines_of (frames_of new.frames)) c.lent_text

-- What holds of a list of steps.
pub record ListsTheLine (calls : List ListCall) : Type 1 where
  -- each step of the list
  pub refusals : AllOf ListRefusal calls
  pub each : (earlier : List ListCall) (c : ListCall) (later : List ListCall) → calls ≡ earlier ++ (c ∷ later) → (IsShort c → ⊥) →
      StepLists (line_of earlier) c
  -- the frames certain after the line, and that the whole text is their lines
  pub certain : Exactly (Certain (line_of calls))
  pub text : listed_text calls ≡ lines_of (frames_of certain.frames)
  -- what is kept are the bytes from the first place on that may still become a frame and that no taken frame covers
  pub kept : RestOf (line_of calls) (kept_of calls)

-- What a step comes to.
abbrev Comes : ListCall → Type 0
Comes c = ListStepping c.kept c.read c.buffer c.lent_frames c.lent_text c.answer c.left_buffer c.left_frames c.left_text

-- The refusal of any step.
pub list_refusal : (c : ListCall) → IsListStep c → ListRefusal c
list_refusal c h = go (list_stepping h)
  where
    go : Comes c → ListRefusal c
    go (declines w a b f t) = record { refused = (λ r. w, λ v. rw a tt); number = λ v. a; buffer = λ v. b; frames = λ v. f; text = λ v. t }
    go (lists w a b f t) =
        record {
          refused = (λ r. absurd (rw a at r), λ v. absurd (w v));
          number = λ v. absurd (w v);
          buffer = λ v. absurd (w v);
          frames = λ v. absurd (w v);
          text = λ v. absurd (w v);
        }

-- Bytes that are read, as symbols: with a silence behind them exactly where there are none.
brought-symbols : (read : ℕ) (bytes : List ℕ) → length bytes ≡ read → symbols bytes (is_end read) ≡ brought bytes
unfolding symbols
brought-symbols read [] e = rw (none_end read (sym e))
brought-symbols read (b ∷ bs) e = rw (some_no_end read (omega arith))

-- What the bytes of a step that is not refused read as: those kept, and then what it brings.
module _ (c : ListCall) (enough : IsShort c → ⊥) where
  within : c.kept + c.read ≤ length c.buffer
  within = elim (dec_lt (length c.buffer) (c.kept + c.read)) [ yes l ↦ absurd (enough (inr (inl l))) | no l ↦ omega arith ]

  new-length : length (new_bytes c.kept c.read c.buffer) ≡ c.read
  new-length = length-take-le c.read (drop c.kept c.buffer) (omega (arith, within, length-drop c.kept c.buffer))

  same-reading : step_reading c.kept c.read (is_end c.read) c.buffer ≡ reading_of (on_buffer c)
  same-reading =
      step-reading c.kept c.read (is_end c.read) c.buffer
      ∙ ap (λ (l : List Symbol). scan 0 0 (map byte (take c.kept c.buffer) ++ l)) (brought-symbols c.read (new_bytes c.kept c.read c.buffer) new-length)

-- So a step is refused, or says and leaves what its reading keeps.
step-answers : (c : ListCall) → IsListStep c → Answers (on_buffer c)
step-answers c h = go (list_stepping h)
  where
    go : Comes c → Answers (on_buffer c)
    go (declines w a b f t) = refused (ap says_of a)
    go (lists w a b f t) =
        reads (ap says_of a ∙ ap (λ (r : LineReading). keeps (length r.kept)) (same-reading c w))
        (b ∙ ap (λ (r : LineReading). over r.kept c.buffer) (same-reading c w))

steps_answer : (calls : List ListCall) → AllOf IsListStep calls → AllOf Answers (map on_buffer calls)
steps_answer calls h = all_mapped IsListStep on_buffer Answers step-answers calls h

-- A step that is not refused, by what it finds behind the line before it.
step-lists : (line : List Symbol) (c : ListCall) → IsListStep c → (IsShort c → ⊥) → NewlyRead line (on_buffer c) → StepLists line c
step-lists line c h enough n = go (list_stepping h)
  where
    found : frames_of (step_reading c.kept c.read (is_end c.read) c.buffer).frames ≡ frames_of n.new.frames
    found = ap (λ (r : LineReading). frames_of r.frames) (same-reading c enough) ∙ sym n.same

    go : Comes c → StepLists line c
    go (declines w a b f t) = absurd (enough w)
    go (lists w a b f t) =
        record {
          new = n.new;
          kept = (step_reading c.kept c.read (is_end c.read) c.buffer).kept;
          rest = rw (same-reading c enough) n.rest;
          most = rest-most (take (c.kept + c.read) c.buffer) (is_end c.read);
          answer = a ∙ (λ i. step_lists (length (lines_of (found i))) (length (step_reading c.kept c.read (is_end c.read) c.buffer).kept));
          buffer = b;
          frames = f ∙ ap (λ (l : List ℕ). over l c.lent_frames) (joined_same _ _ found);
          text = t ∙ ap (λ (l : List (List ℕ)). over (lines_of l) c.lent_text) found;
        }

-- What a step lists is the lines of what it finds.
step-text : (c : ListCall) → IsListStep c → text_by c.answer c.left_text ≡ lines_of (found_by (says_of c.answer) (frames_of (reading_of (on_buffer c)).frames))
unfolding lines_of
step-text c h = go (list_stepping h)
  where
    go : Comes c → text_by c.answer c.left_text ≡ lines_of (found_by (says_of c.answer) (frames_of (reading_of (on_buffer c)).frames))
    go (declines w a b f t) = rw a
    go (lists w a b f t) =
        rw (a, t, take-append_seam (lines_of (frames_of (step_reading c.kept c.read (is_end c.read) c.buffer).frames)) _)
        (ap (λ (r : LineReading). lines_of (frames_of r.frames)) (same-reading c w))

all-text : (calls : List ListCall) → AllOf IsListStep calls → listed_text calls ≡ lines_of (found_in (map on_buffer calls))
unfolding lines_of
all-text [] h = refl
all-text (c ∷ cs) h = rw (step-text c h.0, all-text cs h.1, lines-append)

-- The whole text is the lines of what the whole line reads as.
pub lines_of_lem : (calls : List ListCall) → AllOf IsListStep calls → Chain [] (map on_buffer calls) →
    listed_text calls ≡ lines_of (frames_of (scan 0 0 (line_of calls)).frames)
lines_of_lem calls s h = all-text calls s ∙ ap lines_of (sym (chain_finds (map on_buffer calls) h (steps_answer calls s)))

-- Of every list of steps from a buffer that keeps nothing.
pub blocks-listed : (calls : List ListCall) → AllOf IsListStep calls → Chain [] (map on_buffer calls) → ListsTheLine calls
blocks-listed calls s h =
    record {
      refusals = all-follow IsListStep ListRefusal list_refusal calls s;
      each = each;
      certain = certain-frames (line_of calls);
      text = lines_of_lem calls s h;
      kept = chain_keeps (map on_buffer calls) h (steps_answer calls s);
    }
  where
    each : (earlier : List ListCall) (c : ListCall) (later : List ListCall) → calls ≡ earlier ++ (c ∷ later) → (IsShort c → ⊥) →
        StepLists (line_of earlier) c
    each earlier c later e enough =
        let split : map on_buffer calls ≡ map on_buffer earlier ++ (on_buffer c ∷ map on_buffer later) = ap (map on_buffer) e ∙ map-append on_buffer earlier (c ∷ later) in
        let is : IsListStep c = all_at IsListStep earlier c later (subst (AllOf IsListStep) e s) in
        step-lists (line_of earlier) c is enough
        (chain_each (map on_buffer earlier) (on_buffer c) (map on_buffer later) (subst (Chain []) split h)
        (subst (AllOf Answers) split (steps_answer calls s)) (λ r. enough ((list_refusal c is).refused.0 r)))

-- What holds where the steps bring this input and then its end: the whole text is the lines of the frames taken in the input.
pub record ListsTheInput (input : List ℕ) (calls : List ListCall) : Type 1 where
  pub taken : Exactly (Taken (map byte input))
  pub text : listed_text calls ≡ lines_of (frames_of taken.frames)

pub input_listed : (input : List ℕ) (calls : List ListCall) → AllOf IsListStep calls → Chain [] (map on_buffer calls) →
    line_of calls ≡ map byte input ++ (silence ∷ []) → ListsTheInput input calls
input_listed input calls s h e = record { taken = taken-frames (map byte input); text = rw e at (lines_of_lem calls s h) }

-- Behind the end of an input the listing begins anew: the text of several inputs, each with its own end, is the text of each, one behind the other.
pub record ListsAnew (first others : List ListCall) : Type 0 where
  pub first_chain : Chain [] (map on_buffer first)
  pub others_chain : Chain [] (map on_buffer others)
  pub text : listed_text (first ++ others) ≡ listed_text first ++ listed_text others

text-append : (a b : List ListCall) → listed_text (a ++ b) ≡ listed_text a ++ listed_text b
text-append [] b = refl
text-append (c ∷ a) b = rw (text-append a b, append_assoc)

pub listed_anew : (first others : List ListCall) (line : List Symbol) → AllOf IsListStep (first ++ others) → Chain [] (map on_buffer (first ++ others)) →
    line_of first ≡ line ++ (silence ∷ []) → ListsAnew first others
listed_anew first others line s h e =
    let split : map on_buffer (first ++ others) ≡ map on_buffer first ++ map on_buffer others = map-append on_buffer first others in
    let both = chain_anew (map on_buffer first) (map on_buffer others) line (subst (Chain []) split h) (subst (AllOf Answers) split (steps_answer (first ++ others) s)) e in
    record { first_chain = both.0; others_chain = both.1; text = text-append first others }
