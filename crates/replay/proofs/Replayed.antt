-- Document 02, W1: "The replies and the meter at the end are those of the calls made by hand." One theorem over every trace, every good address and
-- every list of steps from the start.
use Rattle.std.specs.Prelude.{ℕ, ◌+◌, ◌≤◌, ◌≡◌, refl, List, [], ◌∷◌, ◌++◌, length, take, drop}
use Rattle.frame.specs.declared.refusal.Refusal.TheVariants.{OutOfRange, ShortMemory}
use Rattle.trace.specs.Front.{found_record}
use Rattle.std.proofs.Common.{arith, sym, ap, subst, ◌∙◌, append-nil, append_assoc, length-append, length-drop, take-add}
use Rattle.std.proofs.Math.Seq.{take-append_seam}
use Rattle.laws.specs.All.{AllOf}
use Rattle.laws.specs.AllLaws.{all_drop, all_append}
use Rattle.laws.specs.Memory.{outcome, IsByte, Bytes}
use Rattle.line_terms.specs.Line.{Symbol, Certain}
use Rattle.line_terms.specs.Places.{frames_of, Exactly}
use Rattle.line_terms.specs.Scan.{scan}
use Rattle.line_terms.proofs.ScanCertain.{certain-frames}
use Rattle.item_address.specs.Address.{Good}
use Rattle.listing.specs.Lines.{lines_of}
use Rattle.listing.proofs.LinesLaws.{lines-append}
use Rattle.trace.specs.Records.{FieldsRight, record_bytes, written}
use Rattle.trace.specs.Trace.{front_of}
use Rattle.trace.specs.declared.TraceRecord.{TraceRecord}
use Rattle.trace.proofs.TraceLaws.{good-bytes, good-within, written-append}
use Rattle.replay.specs.Replay.{started, stepped, played, stepped_with, Unplayed, played_all}
use Rattle.replay.specs.ByHand.{HandTurn, ByHand, hand_start, state_left, frames_put_in, replies_given, spelled, SomeHand}
use Rattle.replay.proofs.StateLaws.{Fit, fit-within, start-fit, all_fit, all-frames, all_then, all_one}
use Rattle.replay.proofs.ByHandLaws.{some-hand, hand-same}
use Rattle.replay.proofs.StepLaws.{Stepping, outside, ends, declines, bad, plays, stepping}
use Rattle.replay.proofs.StepWords.{InRanges, within-iff, StepWords, step_words}
use Rattle.replay.specs.declared.ReplayState.{ReplayState}
use Rattle.replay.specs.declared.Stepped.{Stepped}
use Rattle.replay.specs.declared.StepAnswer.{StepAnswer}
use Rattle.replay.specs.declared.StepAnswer.TheVariants.{Done, Refused, BadRecord, Played}

-- A call of the step: the memory lent, what it returned, and that memory as it stood then.
pub record StepCall : Type 0 where
  pub lent : List ℕ
  pub returned : Stepped
  pub left : List ℕ

-- The place that an answer gives: the next one where a record was played, else the same.
abbrev pub place_by : StepAnswer → ℕ → ℕ
place_by Done at = at
place_by (Refused n) at = at
place_by (BadRecord n place) at = at
place_by (Played text lines next) at = next

-- Of each call what its `ensures` says, given the place and the state that the last one gave.
abbrev pub Steps : List ℕ → ℕ → ReplayState → List StepCall → Type 0
Steps trace at s [] = Unit
Steps trace at s (c ∷ cs) =
    (outcome c.returned c.left ≡ stepped trace at s c.lent) × Steps trace (place_by c.returned.answer at) c.returned.state cs

-- The place and the state after a list of calls.
abbrev pub place_after : ℕ → List StepCall → ℕ
place_after at [] = at
place_after at (c ∷ cs) = place_after (place_by c.returned.answer at) cs

abbrev pub state_after : ReplayState → List StepCall → ReplayState
state_after s [] = s
state_after s (c ∷ cs) = state_after c.returned.state cs

-- What an answer lists: as many bytes as it says, from the front of the memory; and all that was listed.
abbrev pub text_by : StepAnswer → List ℕ → List ℕ
text_by Done left = []
text_by (Refused n) left = []
text_by (BadRecord n place) left = []
text_by (Played text lines next) left = take text left

abbrev pub text_after : List StepCall → List ℕ
text_after [] = []
text_after (c ∷ cs) = text_by c.returned.answer c.left ++ text_after cs

-- What holds of these records with this text and this state. There are calls by hand that play them, and whatever memory of at least 212 bytes each is
-- lent, text and state are those of the calls; and the frames put to the meter are exactly those certain after the line that the records spell, in
-- rising place.
pub record PlayedByHand (s : ReplayState) (records : List TraceRecord) (text : List ℕ) (after : ReplayState) : Type 1 where
  pub some : SomeHand s records
  pub text_same : (turns : List HandTurn) → ByHand s records turns → text ≡ lines_of (replies_given turns)
  pub state-same : (turns : List HandTurn) → ByHand s records turns → after ≡ state_left s turns
  pub certain : Exactly (Certain (spelled records))
  pub frames-put : (turns : List HandTurn) → ByHand s records turns → frames_put_in turns ≡ frames_of certain.frames

-- How many lines an answer says; and all of them.
abbrev pub lines_by : StepAnswer → ℕ
lines_by Done = 0
lines_by (Refused n) = 0
lines_by (BadRecord n place) = 0
lines_by (Played text lines next) = lines

abbrev pub lines_after : List StepCall → ℕ
lines_after [] = 0
lines_after (c ∷ cs) = lines_by c.returned.answer + lines_after cs

-- How many records an answer says were played, one or none; and all of them.
abbrev pub plays_by : StepAnswer → ℕ
plays_by Done = 0
plays_by (Refused n) = 0
plays_by (BadRecord n place) = 0
plays_by (Played text lines next) = 1

abbrev pub plays_after : List StepCall → ℕ
plays_after [] = 0
plays_after (c ∷ cs) = plays_by c.returned.answer + plays_after cs

-- What holds of a step at a place of a trace: it is never refused with 16, and says and leaves what document 02's words are for it; one that played no
-- record changed nothing.
pub record StepIsRight (trace : List ℕ) (at : ℕ) (s : ReplayState) (c : StepCall) : Type 0 where
  pub within : c.returned.answer ≡ Refused OutOfRange → ⊥
  pub words : StepWords trace at s c.lent c.returned c.left

-- What holds of a list of steps from the start of an address.
pub record Replays (address trace : List ℕ) (calls : List StepCall) : Type 1 where
  -- the records played, which are those of the trace up to the place, and as many as the answers say
  pub records : List TraceRecord
  pub right : AllOf FieldsRight records
  pub reached : place_after 0 calls ≤ length trace
  pub up_to : take (place_after 0 calls) trace ≡ written records
  pub plays : plays_after calls ≡ length records
  -- all text joined, and the receiver, the meter and the readings, which are within their ranges; and the number of lines
  pub by_hand : PlayedByHand (hand_start address) records (text_after calls) (state_after (hand_start address) calls)
  pub within : InRanges (state_after (hand_start address) calls)
  pub lines : (turns : List HandTurn) → ByHand (hand_start address) records turns → lines_after calls ≡ length (replies_given turns)
  -- each step
  pub each : (earlier : List StepCall) (c : StepCall) (later : List StepCall) → calls ≡ earlier ++ (c ∷ later) →
      StepIsRight trace (place_after 0 earlier) (state_after (hand_start address) earlier) c

-- Records that come to this text and this state come to it by hand.
pub played_by_hand : {s : ReplayState} {text : List ℕ} {after : ReplayState} (records : List TraceRecord) → Fit [] s →
    text ≡ lines_of (played_all records s).replies → after ≡ (played_all records s).state → PlayedByHand s records text after
unfolding scan frames_of
played_by_hand {s} records f text after =
    record {
      some = some-hand records f;
      text_same = λ turns h. text ∙ ap lines_of (sym (hand-same f h).replies);
      state-same = λ turns h. after ∙ sym (hand-same f h).state;
      certain = certain-frames (spelled records);
      frames-put = λ turns h. (hand-same f h).frames ∙ sym (all-frames records f);
    }

-- How far steps have come: from a place on records were played, up to another, so many of them, and came to this text of so many lines and this state.
pub record Came (trace : List ℕ) (at : ℕ) (s : ReplayState) (to : ℕ) (text : List ℕ) (plays lines : ℕ) (after : ReplayState) : Type 0 where
  pub records : List TraceRecord
  pub right : AllOf FieldsRight records
  pub reached : to ≤ length trace
  pub up_to : take to trace ≡ take at trace ++ written records
  pub plays-same : plays ≡ length records
  pub text_same : text ≡ lines_of (played_all records s).replies
  pub state-same : after ≡ (played_all records s).state
  pub lines_same : lines ≡ length (played_all records s).replies

came_nowhere : (trace : List ℕ) (at : ℕ) (s : ReplayState) → at ≤ length trace → Came trace at s at [] 0 0 s
unfolding written lines_of played_all
came_nowhere trace at s within =
    record {
      records = [];
      right = tt;
      reached = within;
      up_to = sym (append-nil (take at trace));
      plays-same = refl;
      text_same = refl;
      state-same = refl;
      lines_same = refl;
    }

came-then : {trace : List ℕ} {at to last : ℕ} {s next after : ReplayState} {text more : List ℕ} {plays others lines further : ℕ} →
    Came trace at s to text plays lines next → Came trace to next last more others further after →
    Came trace at s last (text ++ more) (plays + others) (lines + further) after
came-then {trace} {at} {to} {last} {s} {next} {after} {text} {more} a b =
    let rs = a.records in
    let ss = b.records in
    let then = all_then rs ss s in
    let given : List (List ℕ) = (played_all rs s).replies in
    record {
      records = rs ++ ss;
      right = all_append FieldsRight rs ss a.right b.right;
      reached = b.reached;
      up_to =
          b.up_to ∙ ap (λ (l : List ℕ). l ++ written ss) a.up_to ∙ append_assoc (take at trace) (written rs) (written ss)
          ∙ ap (λ (l : List ℕ). take at trace ++ l) (sym (written-append rs ss));
      plays-same = omega (arith, a.plays-same, b.plays-same, length-append rs ss);
      text_same =
          (λ i. a.text_same i ++ b.text_same i) ∙ (λ i. lines_of given ++ lines_of (played_all ss (a.state-same i)).replies)
          ∙ sym (lines-append given (played_all ss (played_all rs s).state).replies) ∙ ap lines_of (sym then.replies);
      state-same = b.state-same ∙ ap (λ (x : ReplayState). (played_all ss x).state) a.state-same ∙ sym then.state;
      lines_same =
          (λ i. a.lines_same i + b.lines_same i) ∙ (λ i. length given + length (played_all ss (a.state-same i)).replies)
          ∙ sym (length-append given _) ∙ ap length (sym then.replies);
    }

-- A good record at a place, played.
came-one : {r : TraceRecord} {n : ℕ} (trace : List ℕ) (at : ℕ) (s : ReplayState) → Bytes trace → at ≤ length trace →
    front_of (drop at trace) ≡ found_record r n → Came trace at s (at + n) (lines_of (played r s).replies) 1 (length (played r s).replies) (played r s).state
unfolding written
came-one {r} {n} trace at s bytes within there =
    let good = good-bytes (drop at trace) (all_drop IsByte at trace bytes) there in
    let fits : n ≤ length (drop at trace) = good-within (drop at trace) there in
    let one = all_one r s in
    record {
      records = r ∷ [];
      right = (good.fields, tt);
      reached = omega (arith, length-drop at trace);
      up_to = take-add at n trace ∙ ap (λ (l : List ℕ). take at trace ++ l) (good.bytes ∙ sym (append-nil (record_bytes r)));
      plays-same = refl;
      text_same = ap lines_of (sym one.replies);
      state-same = sym one.state;
      lines_same = ap length (sym one.replies);
    }

-- A step from a place within the trace.
module _ {at : ℕ} {line : List Symbol} {s : ReplayState} (trace : List ℕ) (c : StepCall) (bytes : Bytes trace) (within : at ≤ length trace) (f : Fit line s)
    (h : outcome c.returned c.left ≡ stepped trace at s c.lent) where
  abbrev CameBy : Type 0
  CameBy =
      Came trace at s (place_by c.returned.answer at) (text_by c.returned.answer c.left) (plays_by c.returned.answer)
      (lines_by c.returned.answer) c.returned.state

  step-came : CameBy
  step-came = go (stepping h)
    where
      still : (answer : StepAnswer) → Unplayed answer → c.returned ≡ stepped_with s answer → CameBy
      still Done u a = rw a (came_nowhere trace at s within)
      still (Refused n) u a = rw a (came_nowhere trace at s within)
      still (BadRecord n place) u a = rw a (came_nowhere trace at s within)
      still (Played text lines next) u a = absurd u

      go : Stepping trace at s c.lent c.returned c.left → CameBy
      go (outside out a m) = still (Refused OutOfRange) tt a
      go (ends w e a m) = still Done tt a
      go (declines w e short a m) = still (Refused ShortMemory) tt a
      go (bad w e room a m) = still (BadRecord _ at) tt a
      go (plays {r = r} w e room a m) = rw (a, m, take-append_seam (lines_of (played r s).replies) _) (came-one trace at s bytes within e)

  -- It is right by itself.
  step_right : StepIsRight trace at s c
  step_right =
      let words = step_words trace at s c.lent c.returned c.left h in
      record { within = λ r. words.sixteen.0 r ((within-iff s).0 (fit-within f)); words = words }

-- A state that records have led to is fit.
came-fit : {trace : List ℕ} {at to plays lines : ℕ} {line : List Symbol} {s after : ReplayState} {text : List ℕ} → Fit line s →
    (came : Came trace at s to text plays lines after) → Fit (line ++ spelled came.records) after
came-fit f came = subst (Fit _) (sym came.state-same) (all_fit came.records f)

steps_came : {at : ℕ} {line : List Symbol} {s : ReplayState} (trace : List ℕ) (calls : List StepCall) → Bytes trace → at ≤ length trace → Fit line s →
    Steps trace at s calls → Came trace at s (place_after at calls) (text_after calls) (plays_after calls) (lines_after calls) (state_after s calls)
steps_came trace [] bytes within f h = came_nowhere trace _ _ within
steps_came {at = at} {line = line} trace (c ∷ cs) bytes within f h =
    let first = step-came trace c bytes within f h.0 in
    let next : ℕ = place_by c.returned.answer at in
    came-then first (steps_came {at = next} {line = line ++ spelled first.records} trace cs bytes first.reached (came-fit f first) h.1)

-- Of calls joined, the first are calls, and the others go on where they left off.
pub steps_split : (trace : List ℕ) (at : ℕ) (s : ReplayState) (earlier later : List StepCall) → Steps trace at s (earlier ++ later) →
    Steps trace at s earlier × Steps trace (place_after at earlier) (state_after s earlier) later
steps_split trace at s [] later h = (tt, h)
steps_split trace at s (c ∷ cs) later h =
    let more = steps_split trace (place_by c.returned.answer at) c.returned.state cs later h.1 in ((h.0, more.0), more.1)

-- The replies and the meter at the end are those of the calls made by hand.
pub replayed_by_hand : (address trace : List ℕ) (calls : List StepCall) → length address ≡ 6 → Good address → Bytes trace →
    Steps trace (started address).at (started address).state calls → Replays address trace calls
unfolding started
replayed_by_hand address trace calls six good bytes h =
    let f = start-fit address six good in
    let came = steps_came trace calls bytes (omega arith) f h in
    record {
      records = came.records;
      right = came.right;
      reached = came.reached;
      up_to = came.up_to;
      plays = came.plays-same;
      by_hand = played_by_hand came.records f came.text_same came.state-same;
      within = (within-iff _).0 (fit-within (came-fit f came));
      lines = λ turns hand. came.lines_same ∙ ap length (sym (hand-same f hand).replies);
      each = λ earlier c later e.
          let parts = steps_split trace 0 (started address).state earlier (c ∷ later) (subst (Steps trace 0 (started address).state) e h) in
          let before = steps_came trace earlier bytes (omega arith) f parts.0 in
          step_right trace c bytes before.reached (came-fit f before) parts.1.0;
    }
