-- Before each turn the bytes passed are heard and what they delivered is gathered.
use Rattle.receive_line.proofs.WholeLineLaws.{Turning}
use Rattle.receive_line.proofs.receive_all.Given as goal

abbrev pub invariant-loop-b : goal.invariant-loop-b
invariant-loop-b l = Turning l.input l.b-index l.scratch l.initial.out l.out l.received.receiver l.at
