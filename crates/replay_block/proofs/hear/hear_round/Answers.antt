-- The bytes, and behind them the silence where one stands.
use Rattle.std.proofs.Common.{sym, ◌∙◌, arith}
use Rattle.replay_block.proofs.HearLaws.{hears-silence}
use Rattle.replay_block.proofs.hear.hear_round.Goals as goal

pub returns-then-stands_at : goal.returns-then-stands_at
returns-then-stands_at c =
    let heard = c.hear_bytes-heard.ensures.0 in
    let quiet = sym c.is_quiet.ensures ∙ c.if-is_quiet.true in
    let there = sym c.stands_at.ensures ∙ c.if-stands_at.true in
    (hears-silence heard quiet there c.silence.ensures, λ back. absurd (omega (arith, heard.from, back)))
