-- The tests go in the order of `treated`; what is carried out is the front of the array, which holds the data.
use Prim.Native.Nat.{◌≤◌}
use Rattle.std.specs.Prelude.{Some}
use mathlib.Core.Path.{◌≡◌, sym, ◌∙◌}
use native.Mathlib.Omega.{arith}
use lib.ListN.{length, take}
use lib.Seq.{length-take-le}
use Rattle.frame.specs.Frame.{address_of, control_of, data_of}
use Rattle.frame_parts.specs.PartsLaws.{one-spans, address-field, data_fits, data_front}
use Rattle.item_command.specs.Command.{command_of}
use Rattle.item_command.specs.Addressee.{addressed}
use Rattle.meter.specs.Answer.{treated, delivered}
use Rattle.meter.proofs.answer.Answering.treat.Goals as goal
use Rattle.meter.proofs.answer.Answering.treat.Goals.{After-carry_out, After-is_addressed, After-unmask_data-length, Else-not-is_addressed, In-Some, In_default, Start, Then-not-is_addressed}

abbrev at_start : In-Some → Start
at_start c = (goal.at.In-Some c).Start

-- the command that the control code asks for
known : (c : In-Some) → command_of (control_of (at_start c).args.bytes.now) ≡ Some c.in-Some.command
unfolding control_of
known c = sym c.command_of.ensures ∙ c.in-Some.is

-- whether the frame is for this meter
addressee : (c : After-is_addressed) → let k = (goal.at.After-is_addressed c).In-Some in
    addressed k.in-Some.command (address_of (at_start k).args.bytes.now) (at_start k).args.self.meter.address ≡ c.is_addressed.result
addressee c =
    rw (← address-field _ (at_start (goal.at.After-is_addressed c).In-Some).requires.0, ← c.address_of.ensures) (sym c.is_addressed.ensures)

abbrev entry : After-unmask_data-length → Start
entry c = at_start (goal.at.After-unmask_data-length c).In-Some

-- the data fit the array, and are its front
fits : (c : After-unmask_data-length) → c.unmask_data-length.result ≤ length c.unmask_data-length.new.payload
fits c = data_fits _ (entry c).requires.0 _ _ _ c.unmask_data-length.ensures

front : (c : After-unmask_data-length) → take c.unmask_data-length.result c.unmask_data-length.new.payload ≡ data_of (entry c).args.bytes.now
front c = data_front _ (entry c).requires.0 _ _ _ c.unmask_data-length.ensures

pub bounds-bytes-8 : goal.bounds-bytes-8
bounds-bytes-8 c = omega (arith, one-spans _ c.requires.0)

pub returns-in_default : goal.returns-in_default
unfolding treated control_of delivered
returns-in_default c =
    let t = (goal.at.returns-in_default c).In_default in
    rw (sym t.command_of.ensures ∙ t.in_default.is, c.refused.ensures)

pub returns-then-not-is_addressed : goal.returns-then-not-is_addressed
unfolding treated delivered
returns-then-not-is_addressed c =
    let t = (goal.at.returns-then-not-is_addressed c).Then-not-is_addressed in
    rw (known (goal.at.Then-not-is_addressed t).In-Some, addressee (goal.at.Then-not-is_addressed t).After-is_addressed ∙ t.if-not-is_addressed.true, c.refused-then-not-is_addressed.ensures)

pub slice_bounds-payload-end : goal.slice_bounds-payload-end
slice_bounds-payload-end c = fits c

pub slice_bounds-carry_out-end : goal.slice_bounds-carry_out-end
slice_bounds-carry_out-end c = sym (length-take-le _ _ (fits (goal.at.slice_bounds-carry_out-end c).After-unmask_data-length))

pub returns : goal.returns
unfolding treated
returns c =
    let w = (goal.at.returns c).After-carry_out in
    let d = (goal.at.returns c).After-unmask_data-length in
    let e = (goal.at.returns c).Else-not-is_addressed in
    rw (known (goal.at.Else-not-is_addressed e).In-Some, addressee (goal.at.Else-not-is_addressed e).After-is_addressed ∙ e.if-not-is_addressed.false, ← front d) w.carry_out.ensures
