-- Document 01, "The reader's end": which requests are allowed. Anything else is refusal 5.
use Rattle.std.specs.Prelude.{ℕ, ◌≡◌, List, Bool, length, take, Result}
use Rattle.reader_allowed.specs.declared.Cause.{Cause}
use Rattle.reader_judgement.specs.declared.Action.{Action}
use Rattle.reader_allowed.specs.Allowed as parts
use Rattle.reader.specs.declared.Request.{Request}

-- What the type says of a request's arrays.
pub record RequestSized (request : Request) : Type 0 where
  pub address : length request.address ≡ 6
  pub password : length request.password ≡ 3
  pub operator : length request.operator ≡ 4
  pub value : length request.value ≡ 38

-- The value to be written: the first of the request's bytes, as many as it counts.
abbrev pub request_value : Request → List ℕ
request_value request = take request.count request.value

-- What is admitted of a request whose action this is, by its parts.
abbrev pub admission_of : Action → Request → Result Unit Cause
admission_of action request = parts.admission action request.address request.identifier request.level request.value request.count

abbrev pub admission : Request → Result Unit Cause
admission request = admission_of request.action request

unfoldable pub is_allowed : Request → Bool
is_allowed request = parts.is_admitted (admission request)
