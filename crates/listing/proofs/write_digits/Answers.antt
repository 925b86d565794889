-- A law says what the digits of one byte more make of those written.
use Rattle.std.proofs.Common.{◌+◌, ◌*◌, ◌≡◌, map, length, take, arith}
use Rattle.listing.proofs.DigitLaws.{digits-start, digits-next, forward-next, forward-length}
use Rattle.listing.proofs.write_digits.Goals as goal

pub loop-i-init : goal.loop-i-init
loop-i-init g c = λ f h. digits-start _ _

pub loop-i-preserved : goal.loop-i-preserved
loop-i-preserved g c = λ f h.
    let bytes = c.args.bytes.now in
    let i = c.loop-i.i in
    let place : c.args.start + 2 * i ≡ c.args.start + 2 * length (map f (take i bytes)) = omega (arith, forward-length f bytes i (omega arith)) in
    digits-next c.through.result (c.loop-i.invariant f h) place c.write_byte.ensures (rw (h _ _ c.through.ensures) (forward-next f bytes i (omega arith)))
