-- A text has room for its head, and the laws of the text say what the two stored parts are, and how many bytes they have.
use Rattle.std.proofs.Common.{◌∙◌, sym, arith}
use Rattle.frame.specs.Frame.{length_of}
use Rattle.listing.proofs.TextLaws.{length-least, text-length, text-stored}
use Rattle.listing.proofs.write_line.Goals as goal

pub write_head-requires : goal.write_head-requires
write_head-requires c = (c.requires.0, omega (arith, length-least (length_of c.args.frame.now)))

pub returns : goal.returns
returns c = (
  c.write_tail.ensures.0 ∙ sym (text-length c.args.frame.now c.requires.0),
  c.write_tail.ensures.1 ∙ rw c.write_head.ensures (text-stored c.args.frame.now c.requires.0 c.args.out.now c.requires.1),
)
