-- Frames put to a meter that come to so many bytes of text in so many lines.
use Rattle.std.specs.Prelude.{ℕ, Result, Ok}
use Rattle.frame.specs.declared.refusal.Refusal.{Refusal}
use Rattle.replay_frames.specs.declared.LinesPut.{LinesPut}

abbrev pub lines_put : ℕ → ℕ → Result LinesPut Refusal
lines_put text lines = Ok (record { text = text; lines = lines })
