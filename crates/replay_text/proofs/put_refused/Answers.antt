-- The parts of the line are put one behind the other.
use Rattle.replay_text.specs.Texts.{refused_text}
use Rattle.replay_text.proofs.TextLaws.{adds_on}
use Rattle.replay_text.proofs.put_refused.Goals as goal

pub returns : goal.returns
unfolding refused_text
returns c =
    adds_on (adds_on c.put_labelled.ensures.1 c.put_labelled-2.ensures.1) c.put_meaning.ensures
