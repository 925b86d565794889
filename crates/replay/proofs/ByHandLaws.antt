-- Records played by hand: whatever memory is lent, the calls come to what the records come to, and there always are such calls.
use Rattle.std.specs.Prelude.{ℕ, ◌≤◌, ◌≡◌, List, [], ◌∷◌, ◌++◌, Bool, length, replicate}
use Rattle.line.specs.Answer.{handed}
use Rattle.std.proofs.Math.Path.{refl, ap}
use Rattle.std.proofs.Common.{sym, subst, ◌∙◌, arith}
use Rattle.std.proofs.lemmas.List.{length-replicate}
use Rattle.std.proofs.Math.Seq.{take-append_seam}
use Rattle.laws.specs.Memory.{Outcome, outcome, over}
use Rattle.frame.specs.EndToEnd.{cut}
use Rattle.frame.proofs.EndToEndLaws.{cut_again}
use Rattle.line_terms.specs.Line as symbol
use Rattle.line_terms.specs.Line.{Symbol}
use Rattle.line_terms.specs.Places.{joined, frames_of}
use Rattle.line_terms.proofs.FoundFrames.{AllFrames, scan-frames, found-behind, found-frames, cut-joined}
use Rattle.line.specs.Receiver.{reading_with, keeping, delivered, called}
use Rattle.line.proofs.Demand3.{ReceiverCall, delivered_by}
use Rattle.line.specs.declared.Receiver.{Receiver}
use Rattle.line.specs.declared.Received.{Received}
use Rattle.energy.specs.Energies.{Rows}
use Rattle.meter.specs.Meter.{MeterSized}
use Rattle.meter.specs.Answer.{answered}
use Rattle.meter.specs.Host.{key_set, pulsed_by, settled_by}
use Rattle.meter.specs.declared.Answered.{Answered}
use Rattle.meter.specs.declared.Counted.{Counted}
use Rattle.meter.specs.declared.KeySet.{KeySet}
use Rattle.meter.specs.declared.Meter.{Meter}
use Rattle.replay_frames.specs.Putting.{reply_in, put, reply_to, meter_after, replies_to}
use Rattle.replay_frames.proofs.PuttingLaws.{put-sized}
use Rattle.replay_frames.proofs.PutLent.{put-lent}
use Rattle.trace.specs.declared.TraceRecord.{TraceRecord}
use Rattle.trace.specs.declared.TraceRecord.TheVariants.{Byte, Silence, Pulse, Key, Settle}
use Rattle.replay.specs.Replay.{Play, state_of, counted_in, heard_play, host_call, played, played_all}
use Rattle.replay.specs.ByHand.{
  AnswerCall,
  AnswerCalls,
  meter_left,
  frames_in,
  replies_in,
  Hears,
  HandTurn,
  heard,
  counted,
  keyed,
  turned,
  ByHand,
  SomeHand,
  done,
  byte,
  silence,
  pulse,
  key,
  settle,
  state_left,
  frames_of_turn,
  replies_of_turn,
  frames_put_in,
  replies_given,
  spelled_by,
}
use Rattle.replay.proofs.StateLaws.{Fit, heard-call, played-fit}
use Rattle.replay.specs.declared.ReplayState.{ReplayState}

-- What a receiver with one symbol more reads are frames.
pub reading-frames : (r : Receiver) (x : Symbol) → AllFrames (reading_with r x).frames
unfolding reading_with
reading-frames r x = scan-frames 0 0 _

-- Calls of `answer` come to what their frames come to, put one after the other.
pub record SameAnswers (m : Meter) (forward reverse : Rows) (calls : List AnswerCall) : Type 0 where
  pub meter : meter_left m calls ≡ meter_after (frames_in calls) m forward reverse
  pub replies : replies_in calls ≡ replies_to (frames_in calls) m forward reverse

pub answers-same : (m : Meter) (forward reverse : Rows) (calls : List AnswerCall) → MeterSized m → AnswerCalls m forward reverse calls →
    SameAnswers m forward reverse calls
unfolding meter_after replies_to
answers-same m forward reverse [] sized h = record { meter = refl; replies = refl }
answers-same m forward reverse (c ∷ cs) sized h =
    let lent = put-lent c.bytes m forward reverse sized c.lent h.0 in
    let returned : c.returned ≡ (put c.bytes m forward reverse).answer = ap (λ (o : Outcome Answered). o.answer) h.1 ∙ lent.0 in
    let left : c.left ≡ (answered c.bytes m forward reverse c.lent).memory = ap (λ (o : Outcome Answered). o.memory) h.1 in
    let reply : reply_in c.returned.answer c.left ≡ reply_to c.bytes m forward reverse =
    rw (ap (λ (o : Outcome Answered). o.answer) h.1, left) lent.1 in
    let more = answers-same (put c.bytes m forward reverse).answer.meter forward reverse cs (put-sized c.bytes m forward reverse sized)
    (subst (λ (a : Answered). AnswerCalls a.meter forward reverse cs) returned h.2) in
    record {
      meter = rw returned more.meter;
      replies = rw (reply, more.replies);
    }

-- The calls of a turn come to what a record comes to.
pub record SameTurn (s : ReplayState) (t : HandTurn) (p : Play) : Type 0 where
  pub state : turned s t ≡ p.state
  pub frames : frames_of_turn t ≡ p.frames
  pub replies : replies_of_turn t ≡ p.replies

-- A symbol heard by hand.
pub hears-same : {line : List Symbol} {s : ReplayState} {x : Symbol} {c : ReceiverCall} {calls : List AnswerCall} → Fit line s → Hears x s c calls →
    SameTurn s (heard c calls) (heard_play x s)
unfolding heard_play delivered
hears-same {s = s} {x = x} {c = c} {calls = calls} f h =
    let reading = reading_with s.receiver x in
    let e : outcome c.returned c.left ≡ delivered reading s.receiver c.lent = h.call ∙ heard-call f.received x c.lent h.room in
    let answer : c.returned.answer ≡ handed (length (joined reading.frames)) (length reading.frames) =
    ap (λ (o : Outcome Received). o.answer.answer) e in
    let receiver : c.returned.receiver ≡ keeping reading.kept s.receiver = ap (λ (o : Outcome Received). o.answer.receiver) e in
    let left : c.left ≡ over (joined reading.frames) c.lent = ap (λ (o : Outcome Received). o.memory) e in
    let handed : delivered_by c.returned.answer c.left ≡ joined reading.frames = rw (answer, left) (take-append_seam (joined reading.frames) _) in
    let same : frames_in calls ≡ frames_of reading.frames =
    sym (cut_again (frames_in calls) h.frames) ∙ ap cut (h.handed_on ∙ handed) ∙ cut-joined reading.frames (reading-frames s.receiver x) in
    let put = answers-same s.meter s.energies.forward s.energies.reverse calls f.sized h.answers in
    record {
      state = rw (receiver, put.meter, same);
      frames = same;
      replies = rw (put.replies, same);
    }

-- All the calls come to what all the records come to.
pub record SameHand (s : ReplayState) (rs : List TraceRecord) (turns : List HandTurn) : Type 0 where
  pub state : state_left s turns ≡ (played_all rs s).state
  pub frames : frames_put_in turns ≡ (played_all rs s).frames
  pub replies : replies_given turns ≡ (played_all rs s).replies

hand-next : {s : ReplayState} {rs : List TraceRecord} {t : HandTurn} {turns : List HandTurn} (r : TraceRecord) → SameTurn s t (played r s) →
    SameHand (turned s t) rs turns → SameHand s (r ∷ rs) (t ∷ turns)
unfolding played_all
hand-next {s} {rs} {t} {turns} r first more =
    record {
      state = more.state ∙ ap (λ (x : ReplayState). (played_all rs x).state) first.state;
      frames = ap (λ (l : List (List ℕ)). frames_of_turn t ++ l) more.frames ∙ (λ i. first.frames i ++ (played_all rs (first.state i)).frames);
      replies = ap (λ (l : List (List ℕ)). replies_of_turn t ++ l) more.replies ∙ (λ i. first.replies i ++ (played_all rs (first.state i)).replies);
    }

-- The state after a turn is the state after its record.
turn-fit : {line : List Symbol} {s : ReplayState} {t : HandTurn} (r : TraceRecord) → Fit line s → SameTurn s t (played r s) →
    Fit (line ++ spelled_by r) (turned s t)
turn-fit r f same = subst (Fit _) (sym same.state) (played-fit f r)

-- The calls of the host.
module _ {s : ReplayState} where
  pulse-same : {c : Counted} (direction rate amount : ℕ) → c ≡ pulsed_by amount direction rate s.meter s.energies.forward s.energies.reverse →
      SameTurn s (counted c) (played (Pulse direction rate amount) s)
  unfolding played host_call
  pulse-same direction rate amount e = record { state = ap (counted_in s.receiver) e; frames = refl; replies = refl }

  key-same : {k : KeySet} (on : Bool) → k ≡ key_set on s.meter s.energies.forward s.energies.reverse → SameTurn s (keyed k) (played (Key on) s)
  unfolding played host_call
  key-same on e = record { state = ap (λ (k : KeySet). state_of s.receiver k.meter s.energies) e; frames = refl; replies = refl }

  settle-same : {c : Counted} → c ≡ settled_by s.meter s.energies.forward s.energies.reverse → SameTurn s (counted c) (played Settle s)
  unfolding played host_call
  settle-same e = record { state = ap (counted_in s.receiver) e; frames = refl; replies = refl }

-- A symbol heard, as its record.
byte-same : {line : List Symbol} {s : ReplayState} {c : ReceiverCall} {calls : List AnswerCall} (b : ℕ) → Fit line s → Hears (symbol.byte b) s c calls →
    SameTurn s (heard c calls) (played (Byte b) s)
unfolding played
byte-same b f h = hears-same f h

silence-same : {line : List Symbol} {s : ReplayState} {c : ReceiverCall} {calls : List AnswerCall} → Fit line s → Hears symbol.silence s c calls →
    SameTurn s (heard c calls) (played Silence s)
unfolding played
silence-same f h = hears-same f h

pub hand-same : {line : List Symbol} {s : ReplayState} {rs : List TraceRecord} {turns : List HandTurn} → Fit line s → ByHand s rs turns → SameHand s rs turns
unfolding played_all
hand-same f done = record { state = refl; frames = refl; replies = refl }
hand-same f (byte {b = b} h more) = let same = byte-same b f h in hand-next (Byte b) same (hand-same (turn-fit (Byte b) f same) more)
hand-same f (silence h more) = let same = silence-same f h in hand-next Silence same (hand-same (turn-fit Silence f same) more)
hand-same f (pulse {direction = d} {rate = r} {amount = a} e more) =
    let same = pulse-same d r a e in hand-next (Pulse d r a) same (hand-same (turn-fit (Pulse d r a) f same) more)
hand-same f (key {on = on} e more) = let same = key-same on e in hand-next (Key on) same (hand-same (turn-fit (Key on) f same) more)
hand-same f (settle e more) = let same = settle-same e in hand-next Settle same (hand-same (turn-fit Settle f same) more)

-- Calls of `answer` for these frames, each lent 212 bytes.
made_answers : Meter → Rows → Rows → List (List ℕ) → List AnswerCall
made_answers m forward reverse [] = []
made_answers m forward reverse (f ∷ fs) =
    let o = answered f m forward reverse (replicate 212 0) in
    record { bytes = f; lent = replicate 212 0; returned = o.answer; left = o.memory } ∷ made_answers o.answer.meter forward reverse fs

made-frames : (m : Meter) (forward reverse : Rows) (fs : List (List ℕ)) → frames_in (made_answers m forward reverse fs) ≡ fs
unfolding made_answers
made-frames m forward reverse [] = refl
made-frames m forward reverse (f ∷ fs) = ap (λ (l : List (List ℕ)). f ∷ l) (made-frames (answered f m forward reverse (replicate 212 0)).answer.meter forward reverse fs)

made_calls : (m : Meter) (forward reverse : Rows) (fs : List (List ℕ)) → AnswerCalls m forward reverse (made_answers m forward reverse fs)
unfolding made_answers
made_calls m forward reverse [] = tt
made_calls m forward reverse (f ∷ fs) =
    (omega (arith, length-replicate {A = ℕ} 212 0), refl, made_calls (answered f m forward reverse (replicate 212 0)).answer.meter forward reverse fs)

-- A call of the receiver with a symbol, lent 212 bytes, and calls of `answer` for what it hands on.
made_call : Symbol → ReplayState → ReceiverCall
made_call x s = let o = called x s.receiver (replicate 212 0) in record { symbol = x; lent = replicate 212 0; returned = o.answer; left = o.memory }

made_turn : Symbol → ReplayState → List AnswerCall
made_turn x s = made_answers s.meter s.energies.forward s.energies.reverse (frames_of (reading_with s.receiver x).frames)

made-hears : {line : List Symbol} {s : ReplayState} → Fit line s → (x : Symbol) → Hears x s (made_call x s) (made_turn x s)
unfolding delivered made_call made_turn
made-hears {s = s} f x =
    let reading = reading_with s.receiver x in
    let room : 212 ≤ length {A = ℕ} (replicate 212 0) = omega (arith, length-replicate {A = ℕ} 212 0) in
    let e : called x s.receiver (replicate 212 0) ≡ delivered reading s.receiver (replicate 212 0) = heard-call f.received x (replicate 212 0) room in
    let fs : frames_in (made_turn x s) ≡ frames_of reading.frames =
    made-frames s.meter s.energies.forward s.energies.reverse (frames_of reading.frames) in
    record {
      symbol = refl;
      room = room;
      call = refl;
      frames = rw fs (found-frames reading.frames (reading-frames s.receiver x));
      handed_on = rw (fs, found-behind, e) (sym (take-append_seam (joined reading.frames) _));
      answers = made_calls _ _ _ _;
    }

-- There always are calls by hand.
pub some-hand : {line : List Symbol} {s : ReplayState} (rs : List TraceRecord) → Fit line s → SomeHand s rs
some-hand [] f = record { turns = []; by_hand = done }
some-hand {line = line} (Byte b ∷ rs) f =
    let h = made-hears f (symbol.byte b) in
    let more = some-hand {line = line ++ spelled_by (Byte b)} rs (turn-fit (Byte b) f (byte-same b f h)) in
    record { turns = heard _ _ ∷ more.turns; by_hand = byte h more.by_hand }
some-hand {line = line} (Silence ∷ rs) f =
    let h = made-hears f symbol.silence in
    let more = some-hand {line = line ++ spelled_by Silence} rs (turn-fit Silence f (silence-same f h)) in
    record { turns = heard _ _ ∷ more.turns; by_hand = silence h more.by_hand }
some-hand {line = line} (Pulse direction rate amount ∷ rs) f =
    let more = some-hand {line = line ++ spelled_by (Pulse direction rate amount)} rs (turn-fit (Pulse direction rate amount) f (pulse-same direction rate amount refl)) in
    record { turns = counted _ ∷ more.turns; by_hand = pulse refl more.by_hand }
some-hand {line = line} (Key on ∷ rs) f =
    let more = some-hand {line = line ++ spelled_by (Key on)} rs (turn-fit (Key on) f (key-same on refl)) in record { turns = keyed _ ∷ more.turns; by_hand = key refl more.by_hand }
some-hand {line = line} (Settle ∷ rs) f =
    let more = some-hand {line = line ++ spelled_by Settle} rs (turn-fit Settle f (settle-same refl)) in record { turns = counted _ ∷ more.turns; by_hand = settle refl more.by_hand }
