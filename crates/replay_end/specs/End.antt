-- How a replay in blocks ends.
use Rattle.std.specs.Prelude.{ℕ, Bool, true, eqb}
use Rattle.replay_block.specs.declared.Session.{Session}
use Rattle.replay_block.specs.declared.BlockAnswer.{BlockAnswer}
use Rattle.replay_block.specs.declared.BlockAnswer.TheVariants.{Refused, Played, Stopped}
use Rattle.replay_text.specs.declared.Message.{Message}
use Rattle.replay_text.specs.declared.Message.TheVariants.{BadRecord, Replayed}

-- An answer to a block with so many bytes read is the last, for a program that makes no call again: a block that is played where none were read, and
-- every other answer.
abbrev pub is_last : BlockAnswer → ℕ → Bool
is_last (Refused n) read = true
is_last (Played text kept) read = eqb read 0
is_last (Stopped n text) read = true

-- What is said behind it: a refusal with the place of the session, or the numbers of the session.
abbrev pub last_message : BlockAnswer → Session → Message
last_message (Refused n) s = BadRecord n s.place
last_message (Played text kept) s = Replayed s.records s.frames s.replies
last_message (Stopped n text) s = BadRecord n s.place
