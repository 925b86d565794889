-- The parts are those of a fresh receiver and a fresh meter.
use Rattle.replay.specs.Replay.{started}
use Rattle.replay.proofs.start.Goals as goal

pub returns : goal.returns
unfolding started
returns c = rw (c.new.ensures, c.fresh-answer.ensures)
