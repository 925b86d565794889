-- A line that is written part by part.
use Rattle.std.specs.Prelude.{◌≡◌, ℕ, ◌+◌, ◌≤◌, List, ◌++◌, length, take}
use Rattle.replay_text.specs.declared.put.Line.{Line}

-- What is written of it.
abbrev pub said : Line → List ℕ
said line = take line.end line.bytes

-- A part is put behind what is written, and there was room for it.
pub record Adds (before after : Line) (part : List ℕ) : Type 0 where
  pub end : after.end ≡ before.end + length part
  pub within : after.end ≤ 256
  pub text : said after ≡ said before ++ part
