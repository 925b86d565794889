-- The laws of `Mapping` say what a turn makes of it.
use Rattle.laws.specs.MemoryLaws.{mapping_next}
use Rattle.frame_parts.proofs.write_field.Goals as goal

pub loop-i-preserved : goal.loop-i-preserved
loop-i-preserved g c = λ f h. mapping_next (c.loop-i.invariant f h) c.loop-i-test.true (h _ _ c.through.ensures)
