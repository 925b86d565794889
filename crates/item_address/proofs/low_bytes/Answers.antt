-- What `rposition` says of the bytes.
use Rattle.std.proofs.Common.{rules, sym}
use Rattle.item_address.proofs.LowBytesLaws.{no_low_byte, last_low_byte}
use Rattle.item_address.proofs.low_bytes.Goals as goal

pub returns-in-Some : goal.returns-in-Some
returns-in-Some c = sym (last_low_byte c.args.address c.in-Some.i (search rules) (search rules) (λ k l h. search rules))

pub returns-in-None : goal.returns-in-None
returns-in-None c = sym (no_low_byte c.args.address (λ k h. search rules))
