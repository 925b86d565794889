-- The records of a trace played by hand: calls of a receiver and of a meter, one after the other, in the order that the records name them. Of each
-- call stands here what its `ensures` says, and nothing of a step of the replay.
use Rattle.std.specs.Prelude.{ℕ, ◌≤◌, ◌≡◌, List, [], ◌∷◌, ◌++◌, map, Bool, length}
use Rattle.laws.specs.All.{AllOf}
use Rattle.laws.specs.Memory.{outcome}
use Rattle.frame.specs.Frame.{Frame}
use Rattle.frame.specs.EndToEnd.{behind_each_other}
use Rattle.line_terms.specs.Line as line
use Rattle.line_terms.specs.Line.{Symbol}
use Rattle.line.specs.Receiver.{fresh, called}
use Rattle.line.proofs.Demand3.{ReceiverCall, delivered_by}
use Rattle.energy.specs.Energies.{Rows}
use Rattle.meter.specs.Answer.{answered}
use Rattle.meter.specs.Host.{created, key_set, pulsed_by, settled_by}
use Rattle.meter.specs.declared.Answered.{Answered}
use Rattle.meter.specs.declared.Counted.{Counted}
use Rattle.meter.specs.declared.KeySet.{KeySet}
use Rattle.meter.specs.declared.Meter.{Meter}
use Rattle.replay_frames.specs.Putting.{reply_in}
use Rattle.trace.specs.declared.TraceRecord.{TraceRecord}
use Rattle.trace.specs.declared.TraceRecord.TheVariants.{Byte, Silence, Pulse, Key, Settle}
use Rattle.replay.specs.Replay.{state_of}
use Rattle.replay.specs.declared.ReplayState.{ReplayState}

-- A call of `answer`: the frame put to the meter, the memory lent, what it returned, and that memory as it stood then.
pub record AnswerCall : Type 0 where
  pub bytes : List ℕ
  pub lent : List ℕ
  pub returned : Answered
  pub left : List ℕ

-- Of each call what its `ensures` says, lent memory enough, given the meter that the last one returned.
abbrev pub AnswerCalls : Meter → Rows → Rows → List AnswerCall → Type 0
AnswerCalls m forward reverse [] = Unit
AnswerCalls m forward reverse (c ∷ cs) =
    (212 ≤ length c.lent)
    × (outcome c.returned c.left ≡ answered c.bytes m forward reverse c.lent)
    × AnswerCalls c.returned.meter forward reverse cs

-- The meter after such calls, the frames put to it, and the replies that it gave.
abbrev pub meter_left : Meter → List AnswerCall → Meter
meter_left m [] = m
meter_left m (c ∷ cs) = meter_left c.returned.meter cs

abbrev pub frames_in : List AnswerCall → List (List ℕ)
frames_in calls = map (λ (c : AnswerCall). c.bytes) calls

abbrev pub replies_in : List AnswerCall → List (List ℕ)
replies_in [] = []
replies_in (c ∷ cs) = reply_in c.returned.answer c.left ++ replies_in cs

-- A symbol heard by hand: one call of the receiver, lent memory enough; then one call of `answer` for each frame that it handed on, in order.
pub record Hears (x : Symbol) (s : ReplayState) (c : ReceiverCall) (calls : List AnswerCall) : Type 0 where
  pub symbol : c.symbol ≡ x
  pub room : 212 ≤ length c.lent
  pub call : outcome c.returned c.left ≡ called x s.receiver c.lent
  pub frames : AllOf Frame (frames_in calls)
  pub handed_on : behind_each_other (frames_in calls) ≡ delivered_by c.returned.answer c.left
  pub answers : AnswerCalls s.meter s.energies.forward s.energies.reverse calls

-- The calls that one record names.
pub data HandTurn : Type 0 where
  heard : ReceiverCall → List AnswerCall → HandTurn
  counted : Counted → HandTurn
  keyed : KeySet → HandTurn

-- The state that they leave.
abbrev pub turned : ReplayState → HandTurn → ReplayState
turned s (heard c calls) = state_of c.returned.receiver (meter_left s.meter calls) s.energies
turned s (counted c) = state_of s.receiver c.meter c.energies
turned s (keyed k) = state_of s.receiver k.meter s.energies

-- The records played by hand: for each one call of the receiver with those of `answer` behind it, or one of pulse, of the key or of settle, each given
-- what the last one left.
pub data ByHand : ReplayState → List TraceRecord → List HandTurn → Type 0 where
  done : {s : ReplayState} → ByHand s [] []
  byte : {s : ReplayState} {b : ℕ} {rs : List TraceRecord} {c : ReceiverCall} {calls : List AnswerCall} {turns : List HandTurn} →
      Hears (line.byte b) s c calls → ByHand (turned s (heard c calls)) rs turns → ByHand s (Byte b ∷ rs) (heard c calls ∷ turns)
  silence : {s : ReplayState} {rs : List TraceRecord} {c : ReceiverCall} {calls : List AnswerCall} {turns : List HandTurn} →
      Hears line.silence s c calls → ByHand (turned s (heard c calls)) rs turns → ByHand s (Silence ∷ rs) (heard c calls ∷ turns)
  pulse : {s : ReplayState} {direction rate amount : ℕ} {rs : List TraceRecord} {c : Counted} {turns : List HandTurn} →
      c ≡ pulsed_by amount direction rate s.meter s.energies.forward s.energies.reverse → ByHand (turned s (counted c)) rs turns →
      ByHand s (Pulse direction rate amount ∷ rs) (counted c ∷ turns)
  key : {s : ReplayState} {on : Bool} {rs : List TraceRecord} {k : KeySet} {turns : List HandTurn} →
      k ≡ key_set on s.meter s.energies.forward s.energies.reverse → ByHand (turned s (keyed k)) rs turns →
      ByHand s (Key on ∷ rs) (keyed k ∷ turns)
  settle : {s : ReplayState} {rs : List TraceRecord} {c : Counted} {turns : List HandTurn} →
      c ≡ settled_by s.meter s.energies.forward s.energies.reverse → ByHand (turned s (counted c)) rs turns →
      ByHand s (Settle ∷ rs) (counted c ∷ turns)

-- Some calls by hand of these records.
pub record SomeHand (s : ReplayState) (rs : List TraceRecord) : Type 0 where
  pub turns : List HandTurn
  pub by_hand : ByHand s rs turns

-- Before the first record: a fresh receiver, and what `Meter::fresh` hands back of an address.
abbrev pub hand_start : List ℕ → ReplayState
hand_start address = state_of fresh (created address).meter (created address).energies

-- The state after all the calls, the frames put to the meter, and the replies that it gave, in order.
abbrev pub state_left : ReplayState → List HandTurn → ReplayState
state_left s [] = s
state_left s (t ∷ ts) = state_left (turned s t) ts

abbrev pub frames_of_turn : HandTurn → List (List ℕ)
frames_of_turn (heard c calls) = frames_in calls
frames_of_turn (counted c) = []
frames_of_turn (keyed k) = []

abbrev pub replies_of_turn : HandTurn → List (List ℕ)
replies_of_turn (heard c calls) = replies_in calls
replies_of_turn (counted c) = []
replies_of_turn (keyed k) = []

abbrev pub frames_put_in : List HandTurn → List (List ℕ)
frames_put_in [] = []
frames_put_in (t ∷ ts) = frames_of_turn t ++ frames_put_in ts

abbrev pub replies_given : List HandTurn → List (List ℕ)
replies_given [] = []
replies_given (t ∷ ts) = replies_of_turn t ++ replies_given ts

-- The line that the byte and silence records spell.
abbrev pub spelled_by : TraceRecord → List Symbol
spelled_by (Byte b) = line.byte b ∷ []
spelled_by Silence = line.silence ∷ []
spelled_by (Pulse direction rate amount) = []
spelled_by (Key on) = []
spelled_by Settle = []

abbrev pub spelled : List TraceRecord → List Symbol
spelled [] = []
spelled (r ∷ rs) = spelled_by r ++ spelled rs
