-- The terms in which demand 2 of the letter is stated, end to end: what an exchange of a request with a meter comes to.
use Rattle.std.specs.Prelude.{ℕ, ◌≤◌, ◌<◌, ◌≡◌, List, [], ◌∷◌, ◌++◌, true, length, Ok, Some}
use Rattle.frame.specs.declared.refusal.Refusal.TheVariants.{NotForThisMeter}
use Rattle.reader_judgement.specs.declared.Reply.TheVariants.{Error, Value}
use Rattle.frame.specs.Frame.{frame_for}
use Rattle.laws.specs.Memory.{Bytes, over}
use Rattle.item.specs.Table.{item_of}
use Rattle.item.specs.declared.table.Item.{Item}
use Rattle.energy.specs.Energies.{Rows}
use Rattle.meter.specs.Meter.{AllKept, value_held, untouched}
use Rattle.meter_decision.specs.Decision.{password_at}
use Rattle.meter.proofs.Ranges.{InRanges}
use Rattle.meter.specs.Answer.{value_of}
use Rattle.item_command.specs.Addressee.{IsFor}
use Rattle.meter_holding.proofs.EnergiesWords.{GivesReadings}
use Rattle.meter.specs.declared.Meter.{Meter}
use Rattle.reader.specs.Allowed.{RequestSized, request_value}
use Rattle.reader.specs.Building.{sent_to, request_frame, request_bytes}
use Rattle.item_identifier.specs.Identifier.{identifier_bytes}
use Rattle.reader_judgement.specs.Judging.{command_for}
use Rattle.reader_judgement.specs.declared.Action.{Action}
use Rattle.reader_judgement.specs.declared.Action.TheVariants.{ReadData, ReadAddress, WriteData}
use Rattle.reader.specs.declared.Request.{Request}
use Rattle.exchange.specs.Exchange.{Memories, memories, ExchangeOutcome, outcome_of, exchanged_with, exchanged}
use Rattle.exchange.specs.declared.ExchangeAnswer.{ExchangeAnswer}
use Rattle.exchange.specs.declared.ExchangeAnswer.TheVariants.{Silent, Judged}

-- What the type says of a request.
pub record Typed (request : Request) : Type 0 where
  pub sized : RequestSized request
  pub identifier : request.identifier < 4294967296
  pub password : Bytes request.password
  pub operator : Bytes request.operator

-- Document 01's check 4: the request is meant for this meter.
abbrev pub MeantFor : Request → Meter → Type 0
MeantFor request m = IsFor (command_for request.action) (sent_to request.action request.address) m.address

-- An action that reads, and one that writes.
abbrev pub IsRead : Action → Type 0
IsRead ReadData = Unit
IsRead ReadAddress = Unit
IsRead WriteData = ⊥

-- What a meter holds for a read: the value of the item, or its address.
abbrev pub held_for : Action → ℕ → Meter → Rows → Rows → List ℕ
held_for ReadData identifier m forward reverse = value_of (item_of identifier) m forward reverse
held_for ReadAddress identifier m forward reverse = m.address
held_for WriteData identifier m forward reverse = []

-- The reply to a read: 91 with identifier and value, 93 with the address.
abbrev pub reply_frame : Action → ℕ → List ℕ → List ℕ → List ℕ
reply_frame ReadData identifier own value = frame_for own 0x91 (identifier_bytes identifier ++ value)
reply_frame ReadAddress identifier own value = frame_for own 0x93 value
reply_frame WriteData identifier own value = frame_for own 0x94 []

-- Memory of the asked sizes.
pub record EnoughMemory (lent : Memories) : Type 0 where
  pub sent : 66 ≤ length lent.sent
  pub heard : 212 ≤ length lent.heard
  pub reply : 212 ≤ length lent.reply
  pub value : 196 ≤ length lent.value

-- The outcome of an exchange that went over the line: the request was sent and delivered, this reply came, if any, and this value was
-- given to the reader. Beyond what is written all memory is as it was.
abbrev pub comes_to : Request → Meter → ExchangeAnswer → List ℕ → List ℕ → Memories → ExchangeOutcome
comes_to request after answer reply value lent =
    outcome_of (exchanged_with after answer (length (request_frame request)) (length reply))
    (memories (over (request_bytes request) lent.sent) (over (request_frame request) lent.heard) (over reply lent.reply) (over value lent.value))

-- A read gives the reader exactly what the meter holds, and leaves the meter untouched: everything that it holds is as it was. For 00 01 t s,
-- 00 01 FF s and 00 01 t FF the bytes decode to the forward readings at row s and column t, for 00 02 to the reverse ones.
pub record ReadGives (request : Request) (m : Meter) (forward reverse : Rows) (lent : Memories) : Type 0 where
  pub outcome : let held = held_for request.action request.identifier m forward reverse in
      exchanged request m forward reverse lent
      ≡ comes_to request (untouched m) (Judged (Ok (Value (length held)))) (reply_frame request.action request.identifier m.address held) held lent
  pub kept : AllKept m (untouched m)
  pub readings : let held = held_for request.action request.identifier m forward reverse in request.action ≡ ReadData
      → GivesReadings 0x00010000 forward request.identifier held × GivesReadings 0x00020000 reverse request.identifier held

-- The checks of a write that an allowed request leaves open: key on, level at most 04, and the password of that level right.
pub record Authorised (request : Request) (m : Meter) : Type 0 where
  pub key_on_lem : m.key ≡ true
  pub level : request.level ≤ 4
  pub password : request.password ≡ password_at request.level m.passwords

-- A write is answered 94, the meter holds the value and the operator code, and everything else is as it was.
pub record WriteSets (request : Request) (m : Meter) (forward reverse : Rows) (lent : Memories) : Type 0 where
  pub after : Meter
  pub outcome : exchanged request m forward reverse lent
      ≡ comes_to request after (Judged (Ok (Value 0))) (reply_frame request.action request.identifier m.address []) [] lent
  pub item : Item
  pub listed : item_of request.identifier ≡ Some item
  pub held : value_held item after forward reverse ≡ request_value request
  pub operator : after.operator ≡ request.operator
  pub others : (identifier : ℕ) (other : Item) → item_of identifier ≡ Some other → (identifier ≡ request.identifier → ⊥)
      → value_held other after forward reverse ≡ value_held other m forward reverse
  pub address : after.address ≡ m.address
  pub key : after.key ≡ m.key
  pub passwords : after.passwords ≡ m.passwords
  pub ranges : InRanges after forward reverse

-- A write that fails a check is answered by its error byte, and leaves the meter untouched: everything that it holds is as it was.
pub record WriteFails (request : Request) (m : Meter) (forward reverse : Rows) (lent : Memories) (byte : ℕ) : Type 0 where
  pub outcome : exchanged request m forward reverse lent
      ≡ comes_to request (untouched m) (Judged (Ok (Error byte))) (frame_for m.address 0xD4 (byte ∷ [])) [] lent
  pub kept : AllKept m (untouched m)

-- A request to another address gets silence, and nothing moved.
abbrev pub GetsSilence : Request → Meter → Rows → Rows → Memories → Type 0
GetsSilence request m forward reverse lent =
    exchanged request m forward reverse lent ≡ comes_to request m (Silent NotForThisMeter) [] [] lent
