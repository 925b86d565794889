-- A stretch that holds no 68 is passed, and the next one begins behind it.
use Rattle.std.proofs.Common.{◌≡◌, ◌++◌, sym, ◌∙◌, length, drop}
use Rattle.line_block.proofs.SkipLaws.{passes_join, passes_stretch, rest_behind}
use Rattle.std.specs.Slice.Iter.{chunks_exact_rest}
use Rattle.line_block.proofs.start.pass_clear.Goals as goal

pub loop-stretch-preserved : goal.loop-stretch-preserved
loop-stretch-preserved c =
    let i = c.loop-stretch.invariant in
    let s = c.in-Some.ensures.steps in
    let size : length c.in-Some.stretch.now ≡ c.args.width = s.1.1 ∙ i.size in
    let begins : drop c.loop-stretch.at c.args.line.now ≡ c.in-Some.stretch.now ++ chunks_exact_rest c.next.new.self = sym i.rest ∙ s.1.0 in
    record {
      passed = passes_join i.passed (passes_stretch _ _ _ _ _ i.passed.within size begins (c.is_clear.ensures c.if-not-is_clear.false));
      rest = rest_behind _ _ _ _ _ i.passed.within size begins;
      size = s.0 ∙ i.size;
    }
