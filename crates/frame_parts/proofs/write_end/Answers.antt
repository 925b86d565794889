-- The two stores are a run from place `n` on, and the first is the checksum that the call ensures.
use Rattle.std.proofs.Common.{[], ◌∷◌, sym, add-one, arith, length-set, length-take-le}
use Rattle.laws.specs.MemoryLaws.{run-from}
use Rattle.frame_parts.proofs.write_end.Goals as goal

pub slice_bounds-checksum-end-2 : goal.slice_bounds-checksum-end-2
slice_bounds-checksum-end-2 c = sym (length-take-le _ _ (omega arith))

pub bounds-out-n-2 : goal.bounds-out-n-2
bounds-out-n-2 c = simp length-set (omega arith)

pub returns : goal.returns
returns c = rw (add-one, c.checksum.ensures) (run-from (_ ∷ 0x16 ∷ []) _ c.args.n c.requires)
