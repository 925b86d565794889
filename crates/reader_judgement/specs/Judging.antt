-- Document 01, "The reader's end": a reply's control code, address and data are judged against what was asked.
use Rattle.std.specs.Prelude.{ℕ, List, [], ◌∷◌, Bool, true, false, ◌&&◌, ◌||◌, length, get_or, take, drop, leb, eqb, Err, Ok, Result}
use Rattle.frame.specs.declared.refusal.Refusal.{Refusal}
use Rattle.frame.specs.declared.refusal.Refusal.TheVariants.{Malformed, NotAnAnswer}
use Rattle.reader_judgement.specs.declared.Reply.{Reply}
use Rattle.reader_judgement.specs.declared.Reply.TheVariants.{Error, Value}
use Rattle.laws.specs.Test.{pick}
use Rattle.laws.specs.Checks.{Check, check, first_failing}
use Rattle.item_same.specs.Same.{same}
use Rattle.item_decimal.specs.Decimal.{all_decimal}
use Rattle.item_address.specs.Address.{is_good, is_short, short_matches}
use Rattle.item_command.specs.Command.{control_for}
use Rattle.item_command.specs.Reply.{reply_to}
use Rattle.item_command.specs.declared.Command.{Command}
use Rattle.item_command.specs.declared.Command.TheVariants as command
use Rattle.item_identifier.specs.Identifier.{identifier_bytes}
use Rattle.item.specs.Table.{item_of, has_length}
use Rattle.reader_judgement.specs.declared.Action.{Action}
use Rattle.reader_judgement.specs.declared.Action.TheVariants.{ReadData, ReadAddress, WriteData}

-- The command that a meter knows an action as.
abbrev pub command_for : Action → Command
command_for ReadData = command.ReadData
command_for ReadAddress = command.ReadAddress
command_for WriteData = command.WriteData

-- Whether an action may be answered by an error reply: there is no D3.
abbrev pub may_fail : Action → Bool
may_fail ReadData = true
may_fail ReadAddress = false
may_fail WriteData = true

-- Answering controls are 91 and D1 to 11, 93 to 13, 94 and D4 to 14.
unfoldable pub is_normal : Action → ℕ → Bool
is_normal action control = eqb control (reply_to (control_for (command_for action)) false)

unfoldable pub is_error : Action → ℕ → Bool
is_error action control = may_fail action && eqb control (reply_to (control_for (command_for action)) true)

-- The reply's address must equal the request's; for a short one it must be good and agree in the low bytes; to 13 any will do.
unfoldable pub answers_from : Action → List ℕ → List ℕ → Bool
answers_from ReadData address from = pick (is_short address) (is_good from && short_matches address from) (same from address)
answers_from ReadAddress address from = true
answers_from WriteData address from = same from address

-- Control and address are an answer to the request.
abbrev pub answers : Action → List ℕ → ℕ → List ℕ → Bool
answers action address control from = (is_normal action control || is_error action control) && answers_from action address from

-- The check of an error reply's data.
unfoldable pub error_checks : List ℕ → List (Check Refusal)
error_checks payload = check (eqb (length payload) 1) Malformed ∷ []

-- The checks of a normal reply's data. A 93 repeats its own address, a good one.
unfoldable pub normal_checks : Action → ℕ → List ℕ → List ℕ → List (Check Refusal)
normal_checks ReadData identifier from payload =
    check (leb 4 (length payload)) Malformed
    ∷ check (same (take 4 payload) (identifier_bytes identifier)) NotAnAnswer
    ∷ check (has_length (item_of identifier) (length (drop 4 payload))) Malformed
    ∷ check (all_decimal (drop 4 payload)) Malformed
    ∷ []
normal_checks ReadAddress identifier from payload =
    check (eqb (length payload) 6) Malformed
    ∷ check (all_decimal payload) Malformed
    ∷ check (same payload from) Malformed
    ∷ check (is_good from) Malformed
    ∷ []
normal_checks WriteData identifier from payload =
    check (eqb (length payload) 0) Malformed
    ∷ []

-- The value of a normal reply: its data, the identifier of a 91 removed.
abbrev pub value_start : Action → ℕ
value_start ReadData = 4
value_start ReadAddress = 0
value_start WriteData = 0

unfoldable pub reply_value : Action → List ℕ → List ℕ
reply_value action payload = drop (value_start action) payload

-- A good error reply yields its byte, whichever it is; a good normal reply its value.
unfoldable pub data_judgement : Action → ℕ → ℕ → List ℕ → List ℕ → Result Reply Refusal
data_judgement action identifier control from payload =
    pick (is_error action control)
    (first_failing Err (error_checks payload) (Ok (Error (get_or payload 0 0))))
    (first_failing Err (normal_checks action identifier from payload) (Ok (Value (length (reply_value action payload)))))
