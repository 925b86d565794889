-- What an exchange comes to, in terms of what each of its steps comes to: the request built, the meter's answer, the reply judged.
use Rattle.std.specs.Prelude.{ℕ, ◌≤◌, ◌≡◌, List, Bool, ◌&&◌, length, take, drop, leb, Err, Ok, Result}
use Rattle.frame.specs.declared.refusal.Refusal.{Refusal}
use Rattle.frame.specs.declared.refusal.Refusal.TheVariants.{NotAllowed, OutOfRange, ShortMemory}
use Rattle.laws.specs.Memory.{Outcome, outcome, over}
use Rattle.laws.specs.Test.{pick}
use Rattle.frame.specs.Frame.{Frame, most_frame}
use Rattle.energy.specs.Energies.{Rows}
use Rattle.meter.specs.Meter.{within_ranges}
use Rattle.meter.specs.Answer.{answered}
use Rattle.meter.specs.declared.Meter.{Meter}
use Rattle.meter.specs.declared.Answered.{Answered}
use Rattle.reader.specs.Allowed.{is_allowed}
use Rattle.reader.specs.Building.{wake_up, request_frame, request_bytes, request_memory}
use Rattle.reader.specs.Judging.{judged, value_memory}
use Rattle.reader.specs.declared.Request.{Request}
use Rattle.exchange.specs.declared.Exchanged.{Exchanged}
use Rattle.exchange.specs.declared.ExchangeAnswer.{ExchangeAnswer}
use Rattle.exchange.specs.declared.ExchangeAnswer.TheVariants.{Refused, Silent, Judged}

-- The memory lent to an exchange: for the request, for what the receiver delivers, for the reply and for the value.
pub record Memories : Type 0 where
  pub sent : List ℕ
  pub heard : List ℕ
  pub reply : List ℕ
  pub value : List ℕ

abbrev pub memories : List ℕ → List ℕ → List ℕ → List ℕ → Memories
memories sent heard reply value = record { sent = sent; heard = heard; reply = reply; value = value }

-- What an exchange returns, together with that memory as it stands then.
pub record ExchangeOutcome : Type 0 where
  pub returned : Exchanged
  pub lent : Memories

abbrev pub outcome_of : Exchanged → Memories → ExchangeOutcome
outcome_of returned lent = record { returned = returned; lent = lent }

-- The meter with an answer, and the lengths of the frame delivered and of the reply.
abbrev pub exchanged_with : Meter → ExchangeAnswer → ℕ → ℕ → Exchanged
exchanged_with m answer delivered replied = record { meter = m; answer = answer; delivered = delivered; replied = replied }

-- A refusal, and the meter as before.
abbrev pub refused_with : Refusal → Meter → Exchanged
refused_with n m = exchanged_with m (Refused n) 0 0

-- At least 66 bytes for the request, 212 for the receiver, 212 for the reply and 196 for the value.
unfoldable pub is_enough : ℕ → ℕ → ℕ → ℕ → Bool
is_enough sent heard reply value =
    leb request_memory sent && (leb most_frame heard && (leb most_frame reply && leb value_memory value))

abbrev pub enough : Memories → Bool
enough lent = is_enough (length lent.sent) (length lent.heard) (length lent.reply) (length lent.value)

-- Four FE, and then a frame.
pub record WakeUpFrame (bytes : List ℕ) : Type 0 where
  pub waking : take 4 bytes ≡ wake_up
  pub frame : Frame (drop 4 bytes)

-- A reply lies within its memory.
abbrev pub WithinReply : Result ℕ Refusal → List ℕ → Type 0
WithinReply (Ok n) reply = n ≤ length reply
WithinReply (Err n) reply = Unit

-- Silence where the meter gave no reply; else the reply is judged.
abbrev pub concluded_by : Request → ℕ → Result ℕ Refusal → Meter → List ℕ → List ℕ → Outcome Exchanged
concluded_by request delivered (Err n) m reply value = outcome (exchanged_with m (Silent n) delivered 0) value
concluded_by request delivered (Ok n) m reply value =
    let j = judged request (take n reply) value in
    outcome (exchanged_with m (Judged j.answer) delivered n) j.memory

unfoldable pub concluded : Request → ℕ → Answered → List ℕ → List ℕ → Outcome Exchanged
concluded request delivered a reply value = concluded_by request delivered a.answer a.meter reply value

-- The request is sent and delivered, the meter answers, and the reader concludes.
unfoldable pub carried : Request → Meter → Rows → Rows → Memories → ExchangeOutcome
carried request m forward reverse lent =
    let a = answered (request_frame request) m forward reverse lent.reply in
    let c = concluded request (length (request_frame request)) a.answer a.memory lent.value in
    outcome_of c.answer
    (memories (over (request_bytes request) lent.sent) (over (request_frame request) lent.heard) a.memory c.memory)

-- The outcome of an exchange: 16, then 1 for too little memory of any of the four, then 5, and then what it comes to.
unfoldable pub exchanged : Request → Meter → Rows → Rows → Memories → ExchangeOutcome
exchanged request m forward reverse lent =
    pick (within_ranges m forward reverse)
    (pick (enough lent)
    (pick (is_allowed request)
    (carried request m forward reverse lent)
    (outcome_of (refused_with NotAllowed m) lent))
    (outcome_of (refused_with ShortMemory m) lent))
    (outcome_of (refused_with OutOfRange m) lent)
