-- Silence leaves the memory as it was. A reply is one frame, and its line fits the memory, so that listing it says its length; with that it is
-- what one frame comes to.
use Rattle.std.proofs.Common.{ℕ, ◌≤◌, ◌≡◌, sym, ap, ◌∙◌, length, take, length-take-le, arith, rules}
use Rattle.std.specs.Prelude.{Ok, Result, ℕ}
use Rattle.listing.specs.declared.ListError.{ListError}
use Rattle.laws.specs.Memory.{Outcome, outcome, over}
use Rattle.listing.specs.Text.{text_of}
use Rattle.meter.specs.Meter.{MeterSized}
use Rattle.replay_frames.specs.Putting.{put}
use Rattle.replay_frames.proofs.OnePutLaws.{one-silent, one-within, one-listed, one-replied}
use Rattle.replay_frames.proofs.put_frame.Goals as goal
use Rattle.replay_frames.proofs.put_frame.Goals.{Start, After-answer-answered, After-list_frame}

-- the array fields' lengths
sized : (s : Start) → MeterSized s.args.meter
sized s = search rules

-- the frame is put to the meter
answers : (c : After-answer-answered) →
    outcome c.answer-answered.result c.answer-answered.new.out ≡ put c.args.frame.now c.args.meter c.args.energies.forward c.args.energies.reverse
unfolding put
answers c = c.answer-answered.ensures

-- a reply lies within its memory
within : (c : After-answer-answered) {n : ℕ} → c.answer-answered.result.answer ≡ Ok n → n ≤ length c.answer-answered.new.out
within c replied = omega (arith, one-within _ _ _ _ (answers c) c.args.out.now (sized (goal.at.After-answer-answered c).Start) replied)

-- its line is written
listed : (c : After-list_frame) →
    let f = take c.in-Ok.n c.answer-answered.new.out in
    outcome c.list_frame.result c.list_frame.new.out ≡ outcome (Ok (length (text_of f))) (over (text_of f) c.args.out.now)
listed c =
    let a = (goal.at.After-list_frame c).After-answer-answered in
    c.list_frame.ensures
    ∙ one-listed _ _ _ _ (answers a) c.args.out.now (sized (goal.at.After-list_frame c).Start) c.in-Ok.is c.requires

pub slice_bounds-reply-end : goal.slice_bounds-reply-end
slice_bounds-reply-end c = within (goal.at.slice_bounds-reply-end c).After-answer-answered c.in-Ok.is

pub slice_bounds-list_frame-end : goal.slice_bounds-list_frame-end
slice_bounds-list_frame-end c = sym (length-take-le _ _ (within (goal.at.slice_bounds-list_frame-end c).After-answer-answered c.in-Ok.is))

pub returns-in_default : goal.returns-in_default
returns-in_default c =
    absurd (c.in_default.not-Ok _ (ap (λ (o : Outcome (Result ℕ ListError)). o.answer) (listed (goal.at.returns-in_default c).After-list_frame)))

pub returns-in-Err : goal.returns-in-Err
returns-in-Err c =
    one-silent _ _ _ _ (answers (goal.at.returns-in-Err c).After-answer-answered) c.args.out.now c.in-Err.is

pub returns-in-Ok-list_frame : goal.returns-in-Ok-list_frame
returns-in-Ok-list_frame c =
    one-replied _ _ _ _ (answers (goal.at.returns-in-Ok-list_frame c).After-answer-answered) c.args.out.now (sized (goal.at.returns-in-Ok-list_frame c).Start)
    c.in-Ok.is (listed (goal.at.returns-in-Ok-list_frame c).After-list_frame) c.in-Ok-list_frame.is
