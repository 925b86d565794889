-- Document 01, "The reader's end", in its own words: which control codes and addresses answer a request, the checks of a reply's data, and
-- what a reply's value is.
use Rattle.frame.specs.declared.refusal.Refusal.TheVariants.{Malformed, NotAnAnswer}
use Rattle.frame.specs.declared.refusal.Refusal.{Refusal}
use Rattle.std.specs.Prelude.{ℕ, ◌≤◌, ◌≡◌, List, length, take, drop, Some}
use Rattle.laws.specs.Words.{Words, done, says}
use Rattle.item_decimal.specs.Decimal.{Decimal}
use Rattle.item_address.specs.Address.{Good, ShortAddress, ShortFor}
use Rattle.item_identifier.specs.Identifier.{identifier_bytes}
use Rattle.item.specs.Table.{item_of}
use Rattle.item.specs.declared.table.Item.{Item}
use Rattle.reader_judgement.specs.declared.Action.{Action}
use Rattle.reader_judgement.specs.declared.Action.TheVariants.{ReadData, ReadAddress, WriteData}

-- Answering controls are 91 and D1 to 11, 93 to 13, 94 and D4 to 14.
abbrev pub NormalControl : Action → ℕ → Type 0
NormalControl ReadData control = control ≡ 0x91
NormalControl ReadAddress control = control ≡ 0x93
NormalControl WriteData control = control ≡ 0x94

abbrev pub ErrorControl : Action → ℕ → Type 0
ErrorControl ReadData control = control ≡ 0xD1
ErrorControl ReadAddress control = ⊥
ErrorControl WriteData control = control ≡ 0xD4

-- The reply's address must equal the request's; for a short one it must be good and agree in the low bytes.
pub data FromAsked (address from : List ℕ) : Type 0 where
  equal : (ShortAddress address → ⊥) → from ≡ address → FromAsked address from
  short : ShortAddress address → Good from → ShortFor address from → FromAsked address from

-- Only a read of data goes to a short address; to 13 any will do.
abbrev pub MayComeFrom : Action → List ℕ → List ℕ → Type 0
MayComeFrom ReadData address from = FromAsked address from
MayComeFrom ReadAddress address from = Unit
MayComeFrom WriteData address from = from ≡ address

-- Control and address are an answer to the request: a normal reply, or an error reply.
pub data IsAnAnswer (action : Action) (address : List ℕ) (control : ℕ) (from : List ℕ) : Type 0 where
  normal : NormalControl action control → MayComeFrom action address from → IsAnAnswer action address control from
  error : ErrorControl action control → MayComeFrom action address from → IsAnAnswer action address control from

-- So many bytes are the length of the item that the table has for the identifier.
pub record ItemLength (identifier n : ℕ) : Type 0 where
  pub item : Item
  pub listed : item_of identifier ≡ Some item
  pub as_long : n ≡ item.length

-- An error reply with L other than 1 is malformed (7).
abbrev pub error_words : List ℕ → Words Refusal
error_words payload = says (length payload ≡ 1) Malformed (λ _. done)

-- A 91 with L below 4 (7); identifier differs (6); length, or any half byte above 9 (7). A 93 must also repeat its own address, a good one
-- (7). A 94 needs L 0 (7).
abbrev pub normal_words : Action → ℕ → List ℕ → List ℕ → Words Refusal
normal_words ReadData identifier from payload =
    says (4 ≤ length payload) Malformed
    (λ _. says (take 4 payload ≡ identifier_bytes identifier) NotAnAnswer
    (λ _. says (ItemLength identifier (length (drop 4 payload))) Malformed
    (λ _. says (Decimal (drop 4 payload)) Malformed
    (λ _. done))))
normal_words ReadAddress identifier from payload =
    says (length payload ≡ 6) Malformed
    (λ _. says (Decimal payload) Malformed
    (λ _. says (payload ≡ from) Malformed
    (λ _. says (Good from) Malformed
    (λ _. done))))
normal_words WriteData identifier from payload =
    says (length payload ≡ 0) Malformed
    (λ _. done)

-- The checks of the data, by which answer it is.
abbrev pub data_words : {action : Action} {address : List ℕ} {control : ℕ} {from : List ℕ} → ℕ → List ℕ → IsAnAnswer action address control from → Words Refusal
data_words {action} {address} {control} {from} identifier payload (normal c f) = normal_words action identifier from payload
data_words {action} {address} {control} {from} identifier payload (error c f) = error_words payload

-- The value of a normal reply: what stands behind the identifier of a 91; all the data of a 93; the data of a 94 are none.
abbrev pub value_of_reply : Action → List ℕ → List ℕ
value_of_reply ReadData payload = drop 4 payload
value_of_reply ReadAddress payload = payload
value_of_reply WriteData payload = payload
