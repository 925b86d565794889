-- Before each turn the bytes passed are heard and the memory is as it was.
use Rattle.exchange.proofs.HearingLaws.{Hearing}
use Rattle.exchange.proofs.hear.Given as goal

abbrev pub invariant-loop-b : goal.invariant-loop-b
invariant-loop-b l = Hearing l.sent l.b-index l.initial.heard l.heard l.received
