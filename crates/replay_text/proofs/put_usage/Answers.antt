-- How the program is called is put behind the reason.
use Rattle.std.proofs.Common.{arith}
use Rattle.replay_text.specs.Texts.{usage, usage_text}
use Rattle.replay_text.proofs.TextLaws.{adds_on, reason_most}
use Rattle.replay_text.proofs.put_usage.Goals as goal

pub put-requires : goal.put-requires
put-requires c = omega (arith, c.requires, c.put_reason.ensures.end, reason_most c.args.reason)

pub returns : goal.returns
unfolding usage_text usage
returns c =
    adds_on c.put_reason.ensures c.put.ensures
