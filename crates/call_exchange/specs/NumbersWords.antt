-- The numbers that C is told of an exchange, each as bench/ends.h has it.
use Rattle.frame.specs.Refusals.{number_of}
use Rattle.std.specs.Prelude.{ℕ, ◌≡◌, refl, Result}
use Rattle.frame.specs.declared.refusal.Refusal.{Refusal}
use Rattle.reader_judgement.specs.declared.Reply.{Reply}
use Rattle.exchange.specs.declared.Exchanged.{Exchanged}
use Rattle.exchange.specs.declared.ExchangeAnswer.TheVariants as exchanging
use Rattle.call_ends.specs.Numbers.{numbered, reply_judged_of}
use Rattle.call_exchange.specs.Numbers.{exchange_judged_of, exchange_done_of}

-- A judgement as it is told by itself; 3 with the number of the meter's silence, 4 with a refusal with which nothing was sent.
pub exchange-numbers : (judgement : Result Reply Refusal) (n : Refusal)
    → (exchange_judged_of (exchanging.Judged judgement) ≡ reply_judged_of (numbered judgement))
    × ((exchange_judged_of (exchanging.Silent n)).which ≡ 3)
    × ((exchange_judged_of (exchanging.Silent n)).number ≡ number_of n)
    × ((exchange_judged_of (exchanging.Refused n)).which ≡ 4)
    × ((exchange_judged_of (exchanging.Refused n)).number ≡ number_of n)
exchange-numbers judgement n = (refl, refl, refl, refl, refl)

-- The meter and the lengths are those of the exchange.
pub exchange-parts : (done : Exchanged)
    → ((exchange_done_of done).meter ≡ done.meter)
    × ((exchange_done_of done).delivered ≡ done.delivered)
    × ((exchange_done_of done).replied ≡ done.replied)
exchange-parts done = (refl, refl, refl)
