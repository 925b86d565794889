-- What was heard can be put to the meter, so that neither call is refused, and the turn is what `heard-turns` says.
use Rattle.replay_frames.specs.declared.LinesPut.{LinesPut}
use Rattle.laws.specs.ResultLaws.{ok_same}
use Rattle.line.proofs.AnswerLaws.{handed_same}
use Rattle.std.proofs.Common.{◌≡◌, ◌+◌, ◌-◌, length, take, drop, sym, ◌∙◌, arith, length-take-le, rules, ap}
use Rattle.frame.specs.EndToEnd.{cut}
use Rattle.listing.specs.Lines.{lines_of}
use Rattle.replay_frames.specs.Putting.{replies_to}
use Rattle.replay.proofs.PlayLaws.{both-within, Puts, frames-puts, not-refused}
use Rattle.replay.specs.Replay.{state_of}
use Rattle.replay_block.specs.Block.{went_by}
use Rattle.replay_block.proofs.RunLaws.{heard-room, heard-turns, not-delivered, turns_as}
use Rattle.replay_block.proofs.run.put_heard.Goals as goal
use Rattle.replay_block.proofs.run.put_heard.Goals.{After-put_frames-answer, In-Ok, In-Ok-answer, Start}

-- the array of the receiver that was returned
array : (s : Start) → length s.args.heard.received.receiver.kept ≡ 211
array s = search rules

-- what the receiver delivered is what was heard
delivered_same : (c : In-Ok) → (c.in-Ok.delivered.bytes ≡ c.requires.1.bytes) × (c.in-Ok.delivered.frames ≡ c.requires.1.frame-count)
delivered_same c = handed_same (sym c.in-Ok.is ∙ c.requires.1.answer)

-- the frames are put, one after the other
puts : (c : After-put_frames-answer) → let run = c.args.run in let out = c.args.out.now in
    Puts (cut (take c.requires.1.bytes c.args.frames.now)) run.session.state.meter run.session.state.energies
    (take (length out - run.text) (drop run.text out)) c.put_frames-answer.result c.put_frames-answer.new.out
puts c =
    frames-puts (take c.requires.1.bytes c.args.frames.now) (both-within c.args.run.session.state c.requires.0.within).1
    (heard-room c.requires.0 c.requires.1) (rw (delivered_same (goal.at.After-put_frames-answer c).In-Ok).0 at c.put_frames-answer.ensures)

pub returns-in_default : goal.returns-in_default
returns-in_default c =
    absurd (not-delivered (sym c.requires.1.answer ∙ c.in_default.is))

pub slice_bounds-put_frames-end : goal.slice_bounds-put_frames-end
slice_bounds-put_frames-end c =
    sym (length-take-le _ _ (rw (delivered_same (goal.at.slice_bounds-put_frames-end c).In-Ok).0 c.requires.1.size))

pub returns-in_default-answer : goal.returns-in_default-answer
returns-in_default-answer c =
    let put = (goal.at.returns-in_default-answer c).After-put_frames-answer in
    absurd (not-refused (sym (puts put).answer ∙ c.in_default-answer.is))

lines_same : (c : In-Ok-answer) → let state = c.args.run.session.state in
    let replies = replies_to (cut (take c.requires.1.bytes c.args.frames.now)) state.meter state.energies.forward state.energies.reverse in
    (c.in-Ok-answer.put.text ≡ length (lines_of replies)) × (c.in-Ok-answer.put.lines ≡ length replies)
lines_same c =
    let same = ok_same (sym c.in-Ok-answer.is ∙ (puts (goal.at.In-Ok-answer c).After-put_frames-answer).answer) in
    (ap (λ (put : LinesPut). put.text) same, ap (λ (put : LinesPut). put.lines) same)

pub overflow_add-result : goal.overflow_add-result
overflow_add-result c =
    let at = goal.at.overflow_add-result c in
    let turns = heard-turns c.requires.0 c.requires.1 (array at.Start) c.requires.2 (puts at.After-put_frames-answer) in
    omega (arith, (lines_same at.In-Ok-answer).0, turns.goes.ready.room, turns.goes.size)

pub returns : goal.returns
returns c =
    let at = goal.at.returns c in
    let run = c.args.run in
    let heard = c.args.heard in
    turns_as
    (c.went_on.ensures
    ∙ (λ i. went_by run.session (state_of heard.received.receiver c.put_frames-answer.result.meter run.session.state.energies) (heard.at - run.at) heard.records
    ((delivered_same at.In-Ok).1 i) ((lines_same at.In-Ok-answer).1 i)))
    (λ i. run.text + (lines_same at.In-Ok-answer).0 i)
    (heard-turns c.requires.0 c.requires.1 (array at.Start) c.requires.2 (puts at.After-put_frames-answer))
