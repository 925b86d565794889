-- What is said is put into a line, and copied from there where it fits.
use Rattle.laws.specs.MemoryLaws.{copied}
use Rattle.replay_text.proofs.TextLaws.{put_written, put-unwritten}
use Rattle.replay_text.proofs.write_message.Goals as goal

pub returns-then-out-used : goal.returns-then-out-used
returns-then-out-used c = put-unwritten _ c.new-line.ensures.0 c.put_message.ensures c.if-out-used.true

pub shared_ref_as_front-copy : goal.shared_ref_as_front-copy
shared_ref_as_front-copy c = c.put_message.ensures.within

pub returns : goal.returns
returns c =
    rw (c.copy.ensures.value, copied) (put_written _ c.new-line.ensures.0 c.put_message.ensures c.if-out-used.false)
