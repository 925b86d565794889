-- Before each turn the bytes passed are heard and the memory is as it was; with the last byte the frame stands over its front. So the answer
-- after the loop is never a refusal, and says the frame's length.
use Rattle.exchange.proofs.HearingLaws.{hearing_start, hearing_next}
use Rattle.exchange.proofs.hear.Goals as goal

pub loop-b-init : goal.loop-b-init
loop-b-init c = hearing_start c.args.heard.now c.requires.wake_up_frame c.new.ensures

pub loop-b-preserved : goal.loop-b-preserved
loop-b-preserved c =
    hearing_next c.requires.wake_up_frame c.requires.most_frame_in_bounds c.loop-b.invariant c.loop-b-test.true c.byte-received.ensures
