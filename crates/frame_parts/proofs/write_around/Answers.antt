-- The head stands at the front, the field behind it is as it was, and the checksum of both and 16 stand behind them.
use Rattle.std.proofs.Common.{◌≡◌, length, ◌∙◌, rules}
use Rattle.frame_parts.specs.WritingLaws.{around}
use Rattle.frame_parts.proofs.write_around.Goals as goal

pub returns : goal.returns
returns c =
    let six_bytes : length c.args.address ≡ 6 = search rules in
    c.write_end.ensures
    ∙ around c.args.address c.args.control c.args.count c.args.out.now six_bytes c.requires.1 c.write_head.ensures
