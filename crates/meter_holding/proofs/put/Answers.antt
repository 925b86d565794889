-- The part of the registers that was lent comes back with the value in it.
use Rattle.std.proofs.Common.{◌≡◌, ◌+◌, ◌-◌, length, arith, drop-drop}
use Rattle.laws.specs.Part.{with_part}
use Rattle.meter_holding.proofs.put.Goals as goal

pub returns : goal.returns
unfolding with_part
returns c =
    let a = c.args in
    let count : a.at + length a.value.now - a.at ≡ length a.value.now = omega arith in
    rw (c.copy_from_slice.ensures.after, count, drop-drop)
