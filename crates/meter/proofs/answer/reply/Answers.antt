-- The data fit a frame and the frame fits the output buffer, so the frame is written and the other way out is not taken.
use Rattle.meter.proofs.CarriedOutLaws.{reply-length, reply-delivered}
use Rattle.meter.proofs.answer.reply.Goals as goal
use Rattle.meter.proofs.answer.reply.Goals.{After-write_frame, Start}

abbrev start_of : After-write_frame → Start
start_of c = (goal.at.After-write_frame c).Start

pub returns-in_default : goal.returns-in_default
returns-in_default c =
    let w = (goal.at.returns-in_default c).After-write_frame in
    let s = start_of w in
    let n = reply-length s.args.after _ s.args.payload.now _ s.requires.0 s.requires.1 _ _ w.write_frame.ensures in
    absurd (c.in_default.not-Ok _ n)

pub returns : goal.returns
returns c =
    let w = (goal.at.returns c).After-write_frame in
    let s = start_of w in
    reply-delivered s.args.after _ s.args.payload.now _ s.requires.0 s.requires.1 _ _ w.write_frame.ensures _ _ c.in-Ok.is
