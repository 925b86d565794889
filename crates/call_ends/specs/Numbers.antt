-- What C is told: answers that are enums as numbers, and a request whose action is a control.
use Rattle.std.specs.Prelude.{ℕ, eqb, Err, Ok, Result}
use Rattle.frame.specs.Refusals.{number_of}
use Rattle.frame.specs.declared.refusal.Refusal.{Refusal}
use Rattle.reader_judgement.specs.declared.Reply.{Reply}
use Rattle.reader_judgement.specs.declared.Reply.TheVariants.{Error, Value}
use Rattle.laws.specs.Memory.{Outcome, outcome}
use Rattle.laws.specs.Test.{pick}
use Rattle.meter.specs.declared.Meter.{Meter}
use Rattle.meter.specs.declared.Answered.{Answered}
use Rattle.meter.specs.declared.KeySet.{KeySet}
use Rattle.meter.specs.declared.Counted.{Counted}
use Rattle.reader.specs.declared.Request.{Request}
use Rattle.reader_judgement.specs.declared.Action.{Action}
use Rattle.reader_judgement.specs.declared.Action.TheVariants.{ReadData, ReadAddress, WriteData}
use Rattle.call_ends.specs.declared.MeterAnswer.{MeterAnswer}
use Rattle.call_ends.specs.declared.MeterSet.{MeterSet}
use Rattle.call_ends.specs.declared.MeterCounted.{MeterCounted}
use Rattle.call_ends.specs.declared.RequestBuilt.{RequestBuilt}
use Rattle.call_ends.specs.declared.ReplyJudged.{ReplyJudged}
use Rattle.call_ends.specs.declared.request.AskedRequest.{AskedRequest}

-- An outcome whose answer is told otherwise.
abbrev pub told : {A : Type 0} → {B : Type 0} → (A → B) → Outcome A → Outcome B
told tells o = outcome (tells o.answer) o.memory

-- The number of an answer to the host: the refusal's, or 0.
abbrev pub refusal_of : Result Unit Refusal → ℕ
refusal_of (Ok tt) = 0
refusal_of (Err refusal) = number_of refusal

abbrev pub meter_set_of : KeySet → MeterSet
meter_set_of set = record { meter = set.meter; refusal = refusal_of set.answer }

abbrev pub meter_counted_of : Counted → MeterCounted
meter_counted_of counted = record { meter = counted.meter; energies = counted.energies; refusal = refusal_of counted.answer }

-- The answer to a frame: a refusal, or 0 and the reply's length.
abbrev pub meter_answer_by : Meter → Result ℕ Refusal → MeterAnswer
meter_answer_by m (Err refusal) = record { meter = m; refusal = number_of refusal; length = 0 }
meter_answer_by m (Ok n) = record { meter = m; refusal = 0; length = n }

abbrev pub meter_answer_of : Answered → MeterAnswer
meter_answer_of answered = meter_answer_by answered.meter answered.answer

-- The answer to the building of a request: a refusal, or 0 and its length.
abbrev pub request_built_of : Result ℕ Refusal → RequestBuilt
request_built_of (Err refusal) = record { refusal = number_of refusal; length = 0 }
request_built_of (Ok n) = record { refusal = 0; length = n }

-- A judgement with the number of its refusal.
abbrev pub numbered : Result Reply Refusal → Result Reply ℕ
numbered (Ok reply) = Ok reply
numbered (Err refusal) = Err (number_of refusal)

-- A judgement: 0 with a value's length, 1 with an error byte, 2 with a refusal.
abbrev pub judged_as : ℕ → ℕ → ReplyJudged
judged_as which number = record { which = which; number = number }

abbrev pub reply_judged_of : Result Reply ℕ → ReplyJudged
reply_judged_of (Ok (Value n)) = judged_as 0 n
reply_judged_of (Ok (Error byte)) = judged_as 1 byte
reply_judged_of (Err n) = judged_as 2 n

-- What a control asks for: 11 reads data, 14 writes them, any other reads the address.
unfoldable pub action_of : ℕ → Action
action_of control = pick (eqb control 0x11) ReadData (pick (eqb control 0x14) WriteData ReadAddress)

-- The request of the reader's end.
unfoldable pub request_of : AskedRequest → Request
request_of asked =
    record {
      action = action_of asked.control;
      address = asked.address;
      identifier = asked.identifier;
      level = asked.level;
      password = asked.password;
      operator = asked.operator;
      value = asked.value;
      count = asked.count;
    }
