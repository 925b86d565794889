-- Document 01, "The reader's end": a reply is judged against its request.
use Rattle.std.specs.Prelude.{ℕ, ◌+◌, ◌≤◌, List, [], ◌∷◌, ◌++◌, Bool, length, leb, Err, Ok, Result}
use Rattle.frame.specs.declared.refusal.Refusal.{Refusal}
use Rattle.frame.specs.declared.refusal.Refusal.TheVariants.{NotAllowed, NotAnAnswer, NotOneFrame, ShortMemory}
use Rattle.reader_judgement.specs.declared.Reply.{Reply}
use Rattle.reader_judgement.specs.declared.Reply.TheVariants.{Error, Value}
use Rattle.laws.specs.Memory.{Outcome, outcome, over}
use Rattle.laws.specs.Checks.{Check, check, first_failing}
use Rattle.frame.specs.Frame.{address_of, control_of, data_of}
use Rattle.frame.specs.Recognition.{exactly_one}
use Rattle.reader_judgement.specs.Judging.{answers, reply_value, data_judgement}
use Rattle.reader.specs.Allowed.{is_allowed}
use Rattle.reader.specs.declared.Request.{Request}

-- The least memory for the value of a reply.
abbrev pub value_memory : ℕ
value_memory = 196

-- A reply is judged if its request is allowed, and answered by one reply.
unfoldable pub is_judged : Request → Bool
is_judged request = is_allowed request

-- Control and address are an answer to the request.
unfoldable pub is_answer : Request → List ℕ → Bool
is_answer request bytes = answers request.action request.address (control_of bytes) (address_of bytes)

-- The checks of the call: the lent memory and the request, each with the refusal where it fails.
unfoldable pub call_checks : Request → List ℕ → List (Check Refusal)
call_checks request memory =
    check (leb value_memory (length memory)) ShortMemory
    ∷ check (is_judged request) NotAllowed
    ∷ []

-- The checks of every reply.
unfoldable pub frame_checks : Request → List ℕ → List (Check Refusal)
frame_checks request bytes =
    check (exactly_one bytes) NotOneFrame
    ∷ check (is_answer request bytes) NotAnAnswer
    ∷ []

-- A reply that passes them is judged by its parts.
unfoldable pub judgement_of : Request → List ℕ → List ℕ → Result Reply Refusal
judgement_of request bytes memory =
    first_failing Err (call_checks request memory ++ frame_checks request bytes)
    (data_judgement request.action request.identifier (control_of bytes) (address_of bytes) (data_of bytes))

-- Only a value is written, over the front of the lent memory.
abbrev pub written : Result Reply Refusal → List ℕ → List ℕ → List ℕ
written (Ok (Value n)) value m = over value m
written (Ok (Error byte)) value m = m
written (Err n) value m = m

-- There is room for what is written.
abbrev pub Fits : Result Reply Refusal → ℕ → List ℕ → List ℕ → Type 0
Fits (Ok (Value n)) start payload m = (start ≤ length payload) × (length payload ≤ start + length m)
Fits (Ok (Error byte)) start payload m = Unit
Fits (Err n) start payload m = Unit

-- The outcome of judging: 1, 5, 2, then 6, 7, 6, 7.
unfoldable pub judged : Request → List ℕ → List ℕ → Outcome (Result Reply Refusal)
judged request bytes m =
    outcome (judgement_of request bytes m) (written (judgement_of request bytes m) (reply_value request.action (data_of bytes)) m)
