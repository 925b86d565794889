-- The tests go in the order of `has_data`; each that fails leaves the array as it was. Past them the data field is as long as the bytes
-- say, and is written unmasked over the array.
use Rattle.std.proofs.Common.{◌≡◌, ℕ, ◌+◌, ◌-◌, List, map, length, get_or, sym, ap, ◌∙◌, arith, le-leb}
use borrow.Author.Tests.{lt-leb}
use Rattle.frame.specs.Frame.{length_of, field_of, data_of, unmasked}
use Rattle.laws.specs.Memory.{outcome, over}
use Rattle.laws.specs.Part.{part}
use Rattle.frame_parts.specs.Parts.{has_data, data_unmasked}
use Rattle.frame_parts.specs.PartsLaws.{data_there}
use Rattle.frame_parts.proofs.unmask_data.Goals as goal

pub returns-then-bytes-lt10 : goal.returns-then-bytes-lt10
unfolding data_unmasked has_data
returns-then-bytes-lt10 c = rw (lt-leb 10 (length c.args.bytes.now) c.if-bytes-lt10.true)

pub returns-then-length-gt200 : goal.returns-then-length-gt200
unfolding data_unmasked has_data length_of
returns-then-length-gt200 c =
    let bytes = c.args.bytes.now in
    rw (le-leb 10 (length bytes) c.if-bytes-lt10.false, lt-leb (get_or bytes 9 0) 200 c.if-length-gt200.true)

pub returns-then-bytes-length : goal.returns-then-bytes-length
unfolding data_unmasked has_data length_of
returns-then-bytes-length c =
    let bytes = c.args.bytes.now in
    rw (
      le-leb 10 (length bytes) c.if-bytes-lt10.false,
      le-leb (get_or bytes 9 0) 200 c.if-length-gt200.false,
      lt-leb (10 + get_or bytes 9 0) (length bytes) c.if-bytes-length.true,
    )

pub returns : goal.returns
unfolding length_of data_of field_of
returns c =
    let bytes = c.args.bytes.now in
    let m = c.args.payload.now in
    let lent : 10 + get_or bytes 9 0 - 10 ≡ get_or bytes 9 0 = omega arith in
    ap (λ (l : List ℕ). outcome (get_or bytes 9 0) l) (c.write_field.ensures unmasked (λ b r e. e) ∙ ap (λ (k : ℕ). over (map unmasked (part 10 k bytes)) m) lent)
    ∙ sym (data_there bytes c.if-bytes-length.false m c.if-length-gt200.false)
