-- The digits that are written are the number in decimal, and at most twenty.
use Rattle.std.proofs.Common.{◌≤◌, ◌<◌, ◌^◌, ◌≡◌, ◌∙◌, arith, length, take}
use Rattle.replay_text.specs.Decimal.{decimal}
use Rattle.replay_text.proofs.DecimalLaws.{written-decimal, decimal-most}
use Rattle.replay_text.proofs.put.Line.put_number.Goals as goal
use Rattle.replay_text.proofs.put.Line.put_number.Goals.{After-decimal-count}

-- the digits written are the number in decimal
spelt : (c : After-decimal-count) → take c.decimal-count.result c.decimal-count.new.out ≡ decimal c.args.number
spelt c = c.decimal-count.ensures.digits ∙ written-decimal _ _ c.decimal-count.ensures.len

-- and at most twenty
most : (c : After-decimal-count) → length (take c.decimal-count.result c.decimal-count.new.out) ≤ 20
most c =
    let small : c.args.number < 10 ^ 20 = omega (arith, c.ranges.number.fits) in
    rw (spelt c) (decimal-most c.args.number small)

pub returns : goal.returns
returns c =
    let written = (goal.at.returns c).After-decimal-count in
    (omega (arith, most written, c.put.ensures.end), rw (spelt written) at c.put.ensures)
