-- The invariant, `Mapping`, of the field over itself: the bytes passed are masked, and the rest is as it was.
use Rattle.frame.specs.Frame.{masked}
use Rattle.laws.specs.MemoryLaws.{Mapping}
use Rattle.frame_parts.proofs.mask_field.Given as goal

abbrev pub invariant-loop-b : goal.invariant-loop-b
invariant-loop-b l = Mapping masked l.initial.b-items l.initial.b-items l.b-index l.b-items
