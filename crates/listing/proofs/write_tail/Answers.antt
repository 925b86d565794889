-- The text's length says that there is room, and in each of the two cases a law says that what is stored is what stands behind the
-- control code. The lent part of the frame is its data field.
use Rattle.std.proofs.Common.{ℕ, ◌+◌, ◌*◌, ◌-◌, ◌≤◌, ◌≡◌, sym, ◌∙◌, List, length, get_or, arith, length-set, length-take, length-drop}
use Rattle.frame.specs.Frame.{length_of, field_of, data_of, unmasked}
use Rattle.listing.specs.Text.{text_length}
use Rattle.listing.proofs.TextLaws.{length-least, length_none, length_some, no_data_stored, data_stored}
use Rattle.listing.proofs.write_tail.Goals as goal
use Rattle.listing.proofs.write_tail.Goals.{Else-count-eq0}

pub bounds-out-15 : goal.bounds-out-15
bounds-out-15 c = omega (arith, length-least (length_of c.args.frame.now))

pub returns-then-count-eq0 : goal.returns-then-count-eq0
unfolding length_of
returns-then-count-eq0 c =
    (sym (length_none _ c.if-count-eq0.true), no_data_stored c.args.frame.now c.requires.0 c.args.out.now c.if-count-eq0.true)

-- what is known where L is not 0
record Some (frame out : List ℕ) : Type 0 where
  spans : length frame ≡ 12 + get_or frame 9 0
  room : 17 + 2 * get_or frame 9 0 ≤ length out

some : (c : Else-count-eq0) → Some c.args.frame.now c.args.out.now
unfolding length_of
some c = record { spans = c.requires.0; room = omega (arith, length_some _ c.if-count-eq0.false) }

pub bounds-out-15-2 : goal.bounds-out-15-2
bounds-out-15-2 c = omega (arith, some (goal.at.bounds-out-15-2 c).Else-count-eq0)

pub slice_bounds-write_digits-end : goal.slice_bounds-write_digits-end
slice_bounds-write_digits-end c = omega (arith, some (goal.at.slice_bounds-write_digits-end c).Else-count-eq0)

pub write_digits-requires-clause-room : goal.write_digits-requires-clause-room
write_digits-requires-clause-room c = simp (length-set, length-take, length-drop) (omega (arith, some (goal.at.write_digits-requires-clause-room c).Else-count-eq0))

pub bounds-out-last : goal.bounds-out-last
bounds-out-last c =
    omega (arith, some (goal.at.bounds-out-last c).Else-count-eq0, c.write_digits.auto.out ∙ length-set c.args.out.now 15 0x20)

pub returns : goal.returns
unfolding length_of field_of data_of
returns c =
    let frame = c.args.frame.now in
    let all : 10 + get_or frame 9 0 - 10 ≡ get_or frame 9 0 = omega arith in
    let long : 16 + 2 * get_or frame 9 0 + 1 ≡ text_length (get_or frame 9 0) = omega (arith, length_some (get_or frame 9 0) c.if-count-eq0.false) in
    (long, rw (c.write_digits.ensures unmasked (λ b r e. e), all) (data_stored frame c.requires.0 c.args.out.now c.if-count-eq0.false))
