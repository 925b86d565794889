-- Document 01, "The reader's end", in its own words: how a reply is judged against its request.
use Rattle.frame.specs.declared.refusal.Refusal.TheVariants.{ShortMemory, NotAllowed, NotOneFrame, NotAnAnswer}
use Rattle.frame.specs.declared.refusal.Refusal.{Refusal}
use Rattle.std.specs.Prelude.{ℕ, ◌+◌, ◌*◌, ◌≤◌, ◌≡◌, List, [], ◌∷◌, ◌↔◌, length, take, drop, Err, Ok, Some}
use Rattle.reader_judgement.specs.declared.Reply.TheVariants.{Error, Value}
use Rattle.laws.specs.Memory.{over, LeftAlone}
use Rattle.laws.specs.Words.{Words, says, FirstFails}
use Rattle.frame.specs.Frame.{Frame, address_of, control_of, data_of}
use Rattle.item_decimal.specs.Decimal.{Decimal}
use Rattle.item_address.specs.Address.{Good}
use Rattle.item_identifier.specs.Identifier.{identifier_bytes}
use Rattle.item.specs.Table.{item_of}
use Rattle.item.specs.declared.table.Item.{Item}
use Rattle.reader_judgement.specs.JudgingWords.{ErrorControl, FromAsked, MayComeFrom, IsAnAnswer, data_words, value_of_reply}
use Rattle.reader_judgement.specs.declared.Action.{Action}
use Rattle.reader_judgement.specs.declared.Action.TheVariants.{ReadData, ReadAddress, WriteData}
use Rattle.reader.proofs.AllowedWords.{AllowedRead, AllowedWrite, AllowedInWords}
use Rattle.reader.specs.Judging.{judged}
use Rattle.reader.specs.declared.Request.{Request}

-- The order is 1, 5, 2, then: control or address not an answer to it (6), and what is said of the data.
abbrev pub judge_words : Request → List ℕ → List ℕ → Words Refusal
judge_words request bytes m =
    says (196 ≤ length m) ShortMemory
    (λ _. says (AllowedInWords request.action request) NotAllowed
    (λ _. says (Frame bytes) NotOneFrame
    (λ _. says (IsAnAnswer request.action request.address (control_of bytes) (address_of bytes)) NotAnAnswer
    (λ answer. data_words request.identifier (data_of bytes) answer))))

-- A good 91: from where it was asked, the identifier asked for, and then a decimal value of the item's length.
pub record GoodRead (request : Request) (bytes m : List ℕ) (n : ℕ) : Type 0 where
  pub room : 196 ≤ length m
  pub allowed : AllowedRead request
  pub one-frame : Frame bytes
  pub control : control_of bytes ≡ 0x91
  pub from : FromAsked request.address (address_of bytes)
  pub least : 4 ≤ length (data_of bytes)
  pub identifier : take 4 (data_of bytes) ≡ identifier_bytes request.identifier
  pub item : Item
  pub listed : item_of request.identifier ≡ Some item
  pub as_long : length (drop 4 (data_of bytes)) ≡ item.length
  pub decimal : Decimal (drop 4 (data_of bytes))
  pub count : n ≡ length (drop 4 (data_of bytes))

-- A good 93: from any address, which it repeats, a good one.
pub record GoodAddress (request : Request) (bytes m : List ℕ) (n : ℕ) : Type 0 where
  pub room : 196 ≤ length m
  pub one-frame : Frame bytes
  pub control : control_of bytes ≡ 0x93
  pub repeats : data_of bytes ≡ address_of bytes
  pub good : Good (address_of bytes)
  pub count : n ≡ 6

-- A good 94: from the address written to, with no data.
pub record GoodWritten (request : Request) (bytes m : List ℕ) (n : ℕ) : Type 0 where
  pub room : 196 ≤ length m
  pub allowed : AllowedWrite request
  pub one-frame : Frame bytes
  pub control : control_of bytes ≡ 0x94
  pub from : address_of bytes ≡ request.address
  pub none : data_of bytes ≡ []
  pub count : n ≡ 0

-- A good normal reply to each action, with the length of its value.
abbrev pub GoodValue : Action → Request → List ℕ → List ℕ → ℕ → Type 0
GoodValue ReadData request bytes m n = GoodRead request bytes m n
GoodValue ReadAddress request bytes m n = GoodAddress request bytes m n
GoodValue WriteData request bytes m n = GoodWritten request bytes m n

-- A good error reply: D1 to 11, D4 to 14, with L 1 and its byte, whichever it is.
pub record GoodError (request : Request) (bytes m : List ℕ) (byte : ℕ) : Type 0 where
  pub room : 196 ≤ length m
  pub allowed : AllowedInWords request.action request
  pub one-frame : Frame bytes
  pub control : ErrorControl request.action (control_of bytes)
  pub from : MayComeFrom request.action request.address (address_of bytes)
  pub one_byte : data_of bytes ≡ byte ∷ []

-- What the judge answers and leaves: the refusal of the first check that does not hold; the byte of a good error reply; the length of a good
-- reply's value, which stands at the front of the memory. Nothing else is written.
pub record Judges (request : Request) (bytes m : List ℕ) : Type 0 where
  pub refused : (n : Refusal) → ((judged request bytes m).answer ≡ Err n) ↔ FirstFails (judge_words request bytes m) n
  pub error : (byte : ℕ) → ((judged request bytes m).answer ≡ Ok (Error byte)) ↔ GoodError request bytes m byte
  pub value : (n : ℕ) → ((judged request bytes m).answer ≡ Ok (Value n)) ↔ GoodValue request.action request bytes m n
  pub in_front : (n : ℕ) → (judged request bytes m).answer ≡ Ok (Value n)
      → (judged request bytes m).memory ≡ over (value_of_reply request.action (data_of bytes)) m
  pub else_as_before : ((n : ℕ) → (judged request bytes m).answer ≡ Ok (Value n) → ⊥) → LeftAlone m (judged request bytes m).memory

-- The identifier of one reading: 00 01 t s, forward, or 00 02 t s, reverse, with t 00..04 and s 00..0C.
pub data OneReading (identifier : ℕ) : Type 0 where
  forward : (t s : ℕ) → t ≤ 4 → s ≤ 12 → identifier ≡ 0x00010000 + (256 * t + s) → OneReading identifier
  reverse : (t s : ℕ) → t ≤ 4 → s ≤ 12 → identifier ≡ 0x00020000 + (256 * t + s) → OneReading identifier
