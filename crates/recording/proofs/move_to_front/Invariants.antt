-- The invariant is the law of a list that is written over the front; no byte is read after it was written over.
use Rattle.recording.proofs.MoveLaws.{Moving}
use Rattle.recording.proofs.move_to_front.Given as goal

abbrev pub invariant-loop-i : goal.invariant-loop-i
invariant-loop-i l = Moving l.rest l.end l.initial.buffer l.i l.buffer
