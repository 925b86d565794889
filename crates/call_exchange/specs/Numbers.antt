-- What C is told of an exchange: its answer as numbers.
use Rattle.exchange.specs.Exchange.{Memories, ExchangeOutcome}
use Rattle.frame.specs.Refusals.{number_of}
use Rattle.exchange.specs.declared.Exchanged.{Exchanged}
use Rattle.exchange.specs.declared.ExchangeAnswer.{ExchangeAnswer}
use Rattle.exchange.specs.declared.ExchangeAnswer.TheVariants as exchanging
use Rattle.call_ends.specs.Numbers.{judged_as, numbered, reply_judged_of}
use Rattle.call_ends.specs.declared.ReplyJudged.{ReplyJudged}
use Rattle.call_exchange.specs.declared.ExchangeDone.{ExchangeDone}

-- An exchange: its judgement, or 3 with the number of the meter's silence, or 4 with a refusal with which nothing was sent.
abbrev pub exchange_judged_of : ExchangeAnswer → ReplyJudged
exchange_judged_of (exchanging.Judged judgement) = reply_judged_of (numbered judgement)
exchange_judged_of (exchanging.Silent n) = judged_as 3 (number_of n)
exchange_judged_of (exchanging.Refused n) = judged_as 4 (number_of n)

abbrev pub exchange_done_by : Exchanged → ReplyJudged → ExchangeDone
exchange_done_by done judged =
    record { meter = done.meter; which = judged.which; number = judged.number; delivered = done.delivered; replied = done.replied }

abbrev pub exchange_done_of : Exchanged → ExchangeDone
exchange_done_of done = exchange_done_by done (exchange_judged_of done.answer)

-- What an exchange returns, told to C, together with the memory as it stands then.
pub record DoneOutcome : Type 0 where
  pub returned : ExchangeDone
  pub lent : Memories

abbrev pub done_with : ExchangeDone → Memories → DoneOutcome
done_with returned lent = record { returned = returned; lent = lent }

abbrev pub exchange_told : ExchangeOutcome → DoneOutcome
exchange_told o = done_with (exchange_done_of o.returned) o.lent
