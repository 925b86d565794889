-- The length says which case of `writing` holds. Where a frame is written, the data are put masked at their place, and the frame is around
-- around them: the two callees' contracts in a row.
use Rattle.std.proofs.Common.{◌≡◌, ℕ, ◌+◌, ◌≤◌, List, map, length, refl, ap, sym, ◌∙◌, arith, rules, leb-true}
use Rattle.std.specs.Prelude.{Ok, Result}
use Rattle.frame_parts.specs.declared.WriteError.{WriteError}
use lib.ListN.{length-map}
use Rattle.frame.specs.Frame.{masked}
use Rattle.laws.specs.Memory.{outcome}
use Rattle.frame_parts.specs.Writing.{writing}
use Rattle.frame_parts.specs.WritingLaws.{placed-front, around-field, length_allowed}
use Rattle.frame_parts.proofs.write_frame.Goals as goal

pub returns : goal.returns
unfolding writing
returns c =
    let m = c.args.out.now in
    let six_bytes : length c.args.address ≡ 6 = search rules in
    let payload = c.args.payload.now in
    let allowed = length_allowed _ _ _ (sym c.in_ok-length.was ∙ c.frame_length.ensures) in
    let room : 12 + length payload ≤ length m = leb-true _ _ allowed.1 in
    let so_many : length (map masked payload) ≡ length payload = length-map payload masked in
    let there = placed-front (map masked payload) m (omega arith) c.write_field.new.out (c.write_field.ensures masked (λ b r e. e)) in
    let front = around-field c.args.address c.args.control (length payload) payload m six_bytes refl room there c.write_around.ensures in
    rw (allowed.0, allowed.1, allowed.2)
    (ap (λ (l : List ℕ). let answer : Result ℕ WriteError = Ok (12 + length payload) in outcome answer l) front)
