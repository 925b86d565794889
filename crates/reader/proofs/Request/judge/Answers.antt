-- The tests are the checks of the call and of the frame; where they hold the reply is judged by its own parts, and its value has room.
use Rattle.std.proofs.Common.{◌≡◌, sym, ◌∙◌, ℕ, ◌≤◌, List, length, take, replicate, get_or, true, arith, length-take, length-take-le, le-leb}
use Rattle.std.specs.Prelude.{Err}
use Rattle.frame.specs.declared.refusal.Refusal.TheVariants.{NotAnAnswer}
use Rattle.laws.specs.Test.{pick}
use Rattle.laws.specs.Checks.{first_failing}
use Rattle.frame.specs.Frame.{control_of, data_of}
use Rattle.frame.specs.Recognition.{exactly_one}
use Rattle.frame_parts.specs.Parts.{address_field}
use Rattle.frame_parts.specs.PartsLaws.{one-spans, address-field, data_fits, data_front}
use Rattle.reader_judgement.specs.Judging.{answers, reply_value, data_judgement}
use Rattle.reader.specs.Judging.{is_judged, is_answer, call_checks, frame_checks, judgement_of}
use Rattle.reader.proofs.JudgingLaws.{data_judgement_fits, judged_by}
use Rattle.reader.specs.declared.Request.{Request}
use Rattle.reader.proofs.Request.judge.Goals as goal
use Rattle.reader.proofs.Request.judge.Goals.{After-is_answer, After-unmask_data-length}

-- with memory enough, a reply that is judged and one frame, control and address decide, and then the data
decision : (request : Request) (bytes m : List ℕ) → 196 ≤ length m → is_judged request ≡ true → exactly_one bytes ≡ true →
    let control = get_or bytes 8 0 in
    let from = address_field bytes in
    judgement_of request bytes m ≡ pick (answers request.action request.address control from)
    (data_judgement request.action request.identifier control from (data_of bytes))
    (Err NotAnAnswer)
unfolding first_failing judgement_of call_checks frame_checks is_answer control_of
decision request bytes m room ours one = rw (le-leb 196 (length m) room, ours, one, address-field bytes one)

-- exactly one frame
one : (c : After-is_answer) → exactly_one c.args.bytes.now ≡ true
one c = sym c.is_frame.ensures ∙ c.if-not-is_frame.false

-- so with what the calls answered
decided : (c : After-is_answer) → judgement_of c.args.self c.args.bytes.now c.args.out.now ≡ pick c.is_answer.result
    (data_judgement c.args.self.action c.args.self.identifier (get_or c.args.bytes.now 8 0) c.address_of-from.result (data_of c.args.bytes.now))
    (Err NotAnAnswer)
decided c =
    rw (c.is_answer.ensures, c.address_of-from.ensures)
    (decision c.args.self c.args.bytes.now c.args.out.now c.if-out-lt-VALUE_MEMORY.false (sym c.is_judged.ensures ∙ c.if-not-is_judged.false) (one c))

-- the data fit the array
fits : (c : After-unmask_data-length) → c.unmask_data-length.result ≤ length c.unmask_data-length.new.payload
fits c = data_fits c.args.bytes.now (one (goal.at.After-unmask_data-length c).After-is_answer) (replicate 200 0) _ _ c.unmask_data-length.ensures

pub bounds-bytes-8 : goal.bounds-bytes-8
bounds-bytes-8 c = omega (arith, one-spans c.args.bytes.now (sym c.is_frame.ensures ∙ c.if-not-is_frame.false))

pub returns-then-not-is_answer : goal.returns-then-not-is_answer
returns-then-not-is_answer c = judged_by _ _ _ (sym (rw c.if-not-is_answer.true at (decided (goal.at.returns-then-not-is_answer c).After-is_answer)))

pub slice_bounds-payload-end : goal.slice_bounds-payload-end
slice_bounds-payload-end c = fits c

pub slice_bounds-data_field-end : goal.slice_bounds-data_field-end
slice_bounds-data_field-end c = sym (length-take-le _ _ (fits (goal.at.slice_bounds-data_field-end c).After-unmask_data-length))

pub deliver-requires : goal.deliver-requires
deliver-requires c =
    let few : length (take c.unmask_data-length.result c.unmask_data-length.new.payload) ≤ 200 = simp length-take (omega (arith, c.unmask_data-length.array_long)) in
    rw (c.judge_data-decided.ensures, c.value_start.ensures) (data_judgement_fits _ _ _ _ few c.if-out-lt-VALUE_MEMORY.false _ _)

pub returns : goal.returns
unfolding reply_value
returns c =
    let answered = (goal.at.returns c).After-is_answer in
    let front : take c.unmask_data-length.result c.unmask_data-length.new.payload ≡ data_of c.args.bytes.now =
    data_front c.args.bytes.now (one answered) (replicate 200 0) _ _ c.unmask_data-length.ensures in
    let judged = rw c.if-not-is_answer.false at (decided answered) in
    (rw (c.value_start.ensures, front) at c.deliver.ensures) ∙ judged_by _ _ _ (rw front at c.judge_data-decided.ensures ∙ sym judged)
