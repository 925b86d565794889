-- The invariant: no 68 stands at the places passed; the stretches to come begin behind them.
use Rattle.line_block.specs.Skip.{Passes}
use Rattle.std.specs.Slice.Iter.{chunks_exact_rest, chunks_exact_size}
use Rattle.std.proofs.Common.{◌≡◌, drop}
use Rattle.line_block.proofs.start.pass_clear.Given as goal

abbrev pub invariant-loop-stretch : goal.invariant-loop-stretch
invariant-loop-stretch l = record {
  passed : Passes l.line l.from l.at;
  rest : chunks_exact_rest l.stretch-iterator ≡ drop l.at l.line;
  size : chunks_exact_size l.stretch-iterator ≡ l.width;
}
