-- A refusal of the receiver is not asked for; what is delivered can be put, so that the answer is the definition's.
use Rattle.replay_frames.specs.declared.LinesPut.{LinesPut}
use Rattle.laws.specs.ResultLaws.{ok_same}
use Rattle.std.proofs.Common.{ℕ, sym, subst, ◌∙◌, List, arith, take, length-take-le, ap}
use Rattle.frame.specs.EndToEnd.{cut}
use Rattle.replay.specs.Play.{played_outcome, HasRoom, CanPut}
use Rattle.replay.proofs.PlayLaws.{Puts, frames-puts, quiet-outcome, not-refused}
use Rattle.replay.proofs.play.put_delivered.Goals as goal
use Rattle.replay.proofs.play.put_delivered.Goals.{After-put_frames-answer, In-Ok, Start}

-- the function's start, seen from where the delivery is known
abbrev start : In-Ok → Start
start c = (goal.at.In-Ok c).Start

-- what is delivered can be put
asked : (c : In-Ok) → let a = (start c).args in
    HasRoom c.in-Ok.delivered.bytes a.meter a.energies a.frames.now a.out.now
asked c =
    let a = (start c).args in
    subst (λ answer. CanPut answer a.meter a.energies a.frames.now a.out.now) c.in-Ok.is (start c).requires

-- they are put, one after the other
puts : (c : After-put_frames-answer) → let known = (goal.at.After-put_frames-answer c).In-Ok in let a = (start known).args in
    Puts (cut (take known.in-Ok.delivered.bytes a.frames.now)) a.meter a.energies a.out.now c.put_frames-answer.result c.put_frames-answer.new.out
puts c =
    let known = (goal.at.After-put_frames-answer c).In-Ok in
    let room = asked known in
    let bytes : ℕ = known.in-Ok.delivered.bytes in
    let frames : List ℕ = (start known).args.frames.now in
    frames-puts (take bytes frames) room.within (omega (arith, room.room, length-take-le bytes frames room.size)) c.put_frames-answer.ensures

pub returns-in_default : goal.returns-in_default
returns-in_default c = rw (c.in_default.is, c.quiet.ensures) (quiet-outcome _ _)

pub slice_bounds-put_frames-end : goal.slice_bounds-put_frames-end
slice_bounds-put_frames-end c = sym (length-take-le _ _ (asked (goal.at.slice_bounds-put_frames-end c).In-Ok).size)

pub returns-in_default-answer : goal.returns-in_default-answer
returns-in_default-answer c =
    let put = (goal.at.returns-in_default-answer c).After-put_frames-answer in
    absurd (not-refused (sym (puts put).answer ∙ c.in_default-answer.is))

pub returns : goal.returns
unfolding played_outcome
returns c =
    let put = (goal.at.returns c).After-put_frames-answer in
    let all = puts put in
    let same = ok_same (sym c.in-Ok-answer.is ∙ all.answer) in
    rw (put.in-Ok.is, all.meter, all.memory) (cc (ap (λ (p : LinesPut). p.text) same, ap (λ (p : LinesPut). p.lines) same))
