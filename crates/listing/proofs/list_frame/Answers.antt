-- At each return the tests that led there say which case of `listing` holds. Bytes that are one frame are as many as their L says, so the
-- text has the length that was decided on.
use Rattle.std.proofs.Common.{◌≤◌, ◌<◌, ◌≡◌, sym, ◌∙◌, length, arith, le-leb}
use Rattle.std.proofs.lemmas.Bool.{lt-leb}
use Rattle.frame.specs.Frame.{length_of}
use Rattle.listing.specs.Text.{Spans, text_of, text_length, listing}
use Rattle.listing.proofs.TextLaws.{frame-spans, text-length}
use Rattle.listing.proofs.list_frame.Goals as goal
use Rattle.listing.proofs.list_frame.Goals.{After-text_length-n, Else-not-is_frame, Else-out-n}

pub returns-then-not-is_frame : goal.returns-then-not-is_frame
unfolding listing
returns-then-not-is_frame c = rw (sym c.if-not-is_frame.ensures)

-- behind the first test the bytes are one frame, so they are as many as their L says
spans : (c : Else-not-is_frame) → Spans c.args.frame.now
spans c = frame-spans _ (sym c.if-not-is_frame.ensures)

pub bounds-frame-9 : goal.bounds-frame-9
bounds-frame-9 c = omega (arith, spans (goal.at.bounds-frame-9 c).Else-not-is_frame)

-- the length that was decided on is the text's
decided : (c : After-text_length-n) → c.text_length-n.result ≡ length (text_of c.args.frame.now)
unfolding length_of
decided c = c.text_length-n.ensures ∙ sym (text-length _ (spans (goal.at.After-text_length-n c).Else-not-is_frame))

pub returns-then-out-n : goal.returns-then-out-n
unfolding listing
returns-then-out-n c =
    let short : length c.args.out.now < length (text_of c.args.frame.now) = omega (arith, decided (goal.at.returns-then-out-n c).After-text_length-n) in
    rw (sym c.if-not-is_frame.ensures, lt-leb _ _ short)

-- behind the second test the text fits
room : (c : Else-out-n) → text_length (length_of c.args.frame.now) ≤ length c.args.out.now
unfolding length_of
room c = omega (arith, c.text_length-n.ensures)

pub write_line-requires : goal.write_line-requires
write_line-requires c = (spans (goal.at.write_line-requires c).Else-not-is_frame, room (goal.at.write_line-requires c).Else-out-n)

pub returns : goal.returns
unfolding listing
returns c =
    let t = (goal.at.returns c).Else-out-n in
    let frame = c.args.frame.now in
    let long : length (text_of frame) ≤ length c.args.out.now = omega (arith, room t, text-length frame (spans (goal.at.returns c).Else-not-is_frame)) in
    rw (sym c.if-not-is_frame.ensures, le-leb _ _ long, c.write_line.ensures.1, decided (goal.at.returns c).After-text_length-n)
