-- The length says which case of `writing_in_place` holds. Where a frame is written, the data stand masked at their place, and the frame is
-- around around them: the two callees' contracts in a row.
use Rattle.std.proofs.Common.{◌≡◌, ℕ, ◌+◌, ◌-◌, ◌≤◌, List, map, length, ap, sym, ◌∙◌, arith, rules, leb-true}
use Rattle.std.specs.Prelude.{Ok, Result}
use Rattle.frame_parts.specs.declared.WriteError.{WriteError}
use lib.ListN.{length-map}
use Rattle.frame.specs.Frame.{masked}
use Rattle.laws.specs.Memory.{outcome}
use Rattle.laws.specs.Part.{part}
use Rattle.laws.specs.PartLaws.{part_length}
use Rattle.frame_parts.specs.Writing.{writing_in_place}
use Rattle.frame_parts.specs.WritingLaws.{placed-lent, around-field, length_allowed}
use Rattle.frame_parts.proofs.write_frame_in_place.Goals as goal

pub returns : goal.returns
unfolding writing_in_place
returns c =
    let m = c.args.out.now in
    let six_bytes : length c.args.address ≡ 6 = search rules in
    let count = c.args.count in
    let allowed = length_allowed _ _ _ (sym c.in_ok-length.was ∙ c.frame_length.ensures) in
    let room : 12 + count ≤ length m = leb-true _ _ allowed.1 in
    let long : length (part 10 count m) ≡ count = part_length 10 count m (omega arith) in
    let field = map masked (part 10 count m) in
    let so_many : length field ≡ count = length-map (part 10 count m) masked ∙ long in
    let lent : 10 + count - 10 ≡ count = omega arith in
    let left = c.mask_field.ensures ∙ ap (λ (k : ℕ). map masked (part 10 k m)) lent in
    let there = placed-lent field m (omega arith) (10 + count) c.mask_field.new.field (omega arith) left in
    let front = around-field c.args.address c.args.control count (part 10 count m) m six_bytes long room there c.write_around.ensures in
    rw (allowed.0, allowed.1, allowed.2)
    (ap (λ (l : List ℕ). let answer : Result ℕ WriteError = Ok (12 + count) in outcome answer l) front)
