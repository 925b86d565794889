-- The bytes of the turns are those passed, whole fours, and those left, and the sum is the checksum of those passed.
use Rattle.std.proofs.Common.{take}
use Rattle.std.specs.Slice.Iter.{chunks_exact_rest, chunks_exact_size}
use Rattle.frame.proofs.ChecksumLaws.{Fours}
use Rattle.frame.proofs.checksum.Given as goal

abbrev pub invariant-loop-four : goal.invariant-loop-four
invariant-loop-four l = Fours (take l.in_fours l.bytes) (chunks_exact_size l.four-iterator) (chunks_exact_rest l.four-iterator) l.sum
