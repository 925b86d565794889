-- Document 01's "Allowed" in its own words, of a request: those of its parts.
use Rattle.std.specs.Prelude.{◌≤◌, ◌≡◌, true, ◌↔◌}
use Rattle.std.proofs.Common.{subst}
use Rattle.reader_judgement.specs.declared.Action.{Action}
use Rattle.reader_judgement.specs.declared.Action.TheVariants.{ReadData, WriteData}
use Rattle.reader_allowed.proofs.AllowedWords as words
use Rattle.reader_allowed.specs.Allowed.{is_admitted}
use Rattle.reader.specs.Allowed.{RequestSized, admission_of, is_allowed}
use Rattle.reader.specs.declared.Request.{Request}

abbrev pub AllowedRead : Request → Type 0
AllowedRead request = words.AllowedRead request.address request.identifier

abbrev pub AllowedWrite : Request → Type 0
AllowedWrite request = words.AllowedWrite request.address request.identifier request.level request.value request.count

abbrev pub AllowedInWords : Action → Request → Type 0
AllowedInWords action request =
    words.AllowedInWords action request.address request.identifier request.level request.value request.count

-- The value of an allowed write has at most 38 bytes.
pub written-few : (request : Request) → AllowedWrite request → request.count ≤ 38
written-few request w = words.written-few request.address request.identifier request.level request.value request.count w

-- A request is allowed exactly if document 01 says so.
pub allowed-words : (request : Request) → RequestSized request → (is_allowed request ≡ true) ↔ AllowedInWords request.action request
unfolding is_allowed
allowed-words request sized =
    words.allowed-words request.address request.identifier request.level request.value request.count sized.address sized.value
    request.action

-- An allowed read and an allowed write.
pub admitted-read : (request : Request) → RequestSized request → is_allowed request ≡ true → request.action ≡ ReadData → AllowedRead request
admitted-read request sized h e = subst (λ (action : Action). AllowedInWords action request) e ((allowed-words request sized).0 h)

pub admitted_write : (request : Request) → is_allowed request ≡ true → request.action ≡ WriteData → AllowedWrite request
unfolding is_allowed
admitted_write request h e =
    words.admitted_write request.address request.identifier request.level request.value request.count
    (subst (λ (action : Action). is_admitted (admission_of action request) ≡ true) e h)
