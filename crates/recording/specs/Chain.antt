-- Calls that read on behind what is kept at the front of a line's buffer, one after the other: what a host does between them, and the line that
-- they bring. A step of reading and a step of the listing are such calls.
use Rattle.std.specs.Prelude.{ℕ, ◌≡◌, List, [], ◌∷◌, ◌++◌, length, take}
use Rattle.line_terms.specs.Line.{Symbol}

-- What a call says of the bytes kept: nothing, where it is refused; else how many stand at the front of the buffer.
pub data Says : Type 0 where
  refuses : Says
  keeps : ℕ → Says

abbrev pub IsRefused : Says → Type 0
IsRefused refuses = Unit
IsRefused (keeps n) = ⊥

-- A call: how many bytes it was told are kept at the front of the buffer, the buffer, the symbols that it brings behind them, what it said, and
-- the buffer as it stood then.
pub record BufferCall : Type 0 where
  pub kept : ℕ
  pub buffer : List ℕ
  pub brought : List Symbol
  pub says : Says
  pub left : List ℕ

-- What is kept after a call: as many bytes as it says, from the front of the buffer as it left it; what was kept before where it is refused.
abbrev pub kept_by : Says → List ℕ → List ℕ → List ℕ
kept_by refuses front left = front
kept_by (keeps n) front left = take n left

-- What is kept after a list of calls.
abbrev pub kept_after : List ℕ → List BufferCall → List ℕ
kept_after front [] = front
kept_after front (c ∷ cs) = kept_after (kept_by c.says front c.left) cs

-- The host's part: a call that is not refused was told how many bytes are kept, and its buffer began with them.
pub record GoesOn (front : List ℕ) (c : BufferCall) : Type 0 where
  pub told : (IsRefused c.says → ⊥) → c.kept ≡ length front
  pub begins : (IsRefused c.says → ⊥) → take (length front) c.buffer ≡ front

-- Calls one after the other, each that is not refused with what the last one kept.
abbrev pub Chain : List ℕ → List BufferCall → Type 0
Chain front [] = Unit
Chain front (c ∷ cs) = GoesOn front c × Chain (kept_by c.says front c.left) cs

-- What a call adds to the line: the symbols that it brings, and nothing where it is refused.
abbrev pub heard_by : Says → List Symbol → List Symbol
heard_by refuses brought = []
heard_by (keeps n) brought = brought

-- The line that the calls bring.
abbrev pub heard : List BufferCall → List Symbol
heard [] = []
heard (c ∷ cs) = heard_by c.says c.brought ++ heard cs
