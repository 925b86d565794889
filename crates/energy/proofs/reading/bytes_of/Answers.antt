-- Eight digits fit in four bytes, so that `packing` writes all four.
use Prim.Native.Nat.{◌%◌, ◌^◌}
use Rattle.std.specs.Prelude.{Ok, Result}
use Rattle.item_decimal.specs.declared.TooLarge.{TooLarge}
use mathlib.Core.Path.{◌≡◌, ap, ◌∙◌}
use native.Mathlib.Omega.{arith}
use borrow.Author.Tests.{lt-ltb}
use lib.ListN.{replicate}
use Rattle.laws.specs.Memory.{Outcome, outcome}
use Rattle.item_decimal.specs.Decimal.{packing}
use Rattle.energy.specs.Reading.{Reading, reading_bytes}
use Rattle.energy.proofs.reading.bytes_of.Goals as goal

-- four bytes of memory take eight digits
four_bytes : (reading : Reading) → packing (reading % 100000000) (replicate 4 0) ≡ outcome (Ok tt) (reading_bytes reading)
unfolding packing reading_bytes
four_bytes reading = rw (lt-ltb (reading % 100000000) (100 ^ 4) (omega arith))

pub returns : goal.returns
returns c = ap (λ (o : Outcome (Result Unit TooLarge)). o.memory) (c.pack.ensures ∙ four_bytes _)
