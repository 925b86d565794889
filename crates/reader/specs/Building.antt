-- Document 01, "The reader's end": the bytes of a request, and what building one answers.
use Rattle.std.specs.Prelude.{ℕ, ◌≤◌, List, [], ◌∷◌, ◌++◌, length, replicate, leb, Err, Ok, Result}
use Rattle.frame.specs.declared.refusal.Refusal.{Refusal}
use Rattle.frame.specs.declared.refusal.Refusal.TheVariants.{NotAllowed, ShortMemory}
use Rattle.laws.specs.Memory.{Outcome, outcome, over}
use Rattle.laws.specs.Test.{pick}
use Rattle.frame.specs.Frame.{frame_for}
use Rattle.item_address.specs.Address.{wildcards}
use Rattle.item_identifier.specs.Identifier.{identifier_bytes}
use Rattle.item_command.specs.Command.{control_for}
use Rattle.reader_judgement.specs.Judging.{command_for}
use Rattle.reader_judgement.specs.declared.Action.{Action}
use Rattle.reader_judgement.specs.declared.Action.TheVariants.{ReadData, ReadAddress, WriteData}
use Rattle.reader_allowed.specs.Allowed.{most_value}
use Rattle.reader.specs.Allowed.{request_value, is_allowed}
use Rattle.reader.specs.declared.Request.{Request}

-- The least memory for a request to be built in.
abbrev pub request_memory : ℕ
request_memory = 66

-- The most data bytes of a request: twelve and the value.
abbrev pub most_data : ℕ
most_data = 50

-- Four FE.
abbrev pub wake_up : List ℕ
wake_up = replicate 4 0xFE

-- The address field: six AA to read an address.
abbrev pub sent_to : Action → List ℕ → List ℕ
sent_to ReadData address = address
sent_to ReadAddress address = wildcards
sent_to WriteData address = address

-- The data: of 11 the identifier; of 14 identifier, level, password, operator code, value.
unfoldable pub sent_data : Action → Request → List ℕ
sent_data ReadData request = identifier_bytes request.identifier
sent_data ReadAddress request = []
sent_data WriteData request =
    identifier_bytes request.identifier
    ++ (request.level ∷ (request.password ++ (request.operator ++ request_value request)))

-- A value to be written has at most 38 bytes.
abbrev pub Counts : Action → Request → Type 0
Counts ReadData request = Unit
Counts ReadAddress request = Unit
Counts WriteData request = request.count ≤ most_value

-- The frame of a request.
abbrev pub frame_of_action : Action → Request → List ℕ
frame_of_action action request = frame_for (sent_to action request.address) (control_for (command_for action)) (sent_data action request)

unfoldable pub request_frame : Request → List ℕ
request_frame request = frame_of_action request.action request

-- A request is built with four FE in front.
unfoldable pub request_bytes : Request → List ℕ
request_bytes request = wake_up ++ request_frame request

-- The outcome of building: 1 under 66 bytes of memory, then 5 for a request that is not allowed, else its bytes over the front.
unfoldable pub built : Request → List ℕ → Outcome (Result ℕ Refusal)
built request m =
    pick (leb request_memory (length m))
    (pick (is_allowed request)
    (outcome (Ok (length (request_bytes request))) (over (request_bytes request) m))
    (outcome (Err NotAllowed) m))
    (outcome (Err ShortMemory) m)
