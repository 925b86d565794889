-- The verdict on kept bytes and the byte heard next: out of range, too little memory, or what the bytes come to.
use Rattle.std.specs.Prelude.{ℕ, ◌+◌, ◌≤◌, ◌≡◌, List, [], ◌∷◌, ◌++◌, Bool, true, false, get_or, take, leb, eqb}
use Rattle.laws.specs.Test.{pick}
use Rattle.frame.specs.Frame.{most_frame}
use Rattle.frame.specs.Recognition.{recognised}
use Rattle.frame.specs.declared.Recognised.{Recognised}
use Rattle.frame.specs.declared.Recognised.TheVariants as found
use Rattle.line_verdict.specs.declared.Verdict.{Verdict}
use Rattle.line_verdict.specs.declared.Verdict.TheVariants.{Bad, Short, Skips, StillOpen, Whole, BeginsNone}

-- How many bytes are kept at most: all of the longest frame but its last.
abbrev pub most_kept : ℕ
most_kept = 211

-- The bytes are a proper beginning of a frame.
abbrev pub is_open : Recognised → Bool
is_open (found.Whole n) = false
is_open found.Open = true
is_open found.Neither = false

-- The kept bytes, the first `count` of the array, are within it and are a proper beginning of a frame.
unfoldable pub within_range : List ℕ → ℕ → Bool
within_range kept count = pick (leb count most_kept) (is_open (recognised (take count kept))) false

-- The kept bytes with one byte more.
abbrev pub kept_with : List ℕ → ℕ → ℕ → List ℕ
kept_with kept count b = take count kept ++ (b ∷ [])

-- What kept bytes come to with a byte, by what they begin with it. Where nothing is kept, a byte that begins no frame is skipped.
abbrev pub verdict_for : ℕ → Recognised → Verdict
verdict_for count (found.Whole n) = Whole
verdict_for count found.Open = StillOpen
verdict_for count found.Neither = pick (eqb count 0) Skips BeginsNone

-- The verdict where the output buffer is not looked at.
unfoldable pub judged : List ℕ → ℕ → ℕ → Verdict
judged kept count b = pick (within_range kept count) (verdict_for count (recognised (kept_with kept count b))) Bad

-- The verdict where the output buffer has `room` bytes: 16 before 1, and 1 before what the bytes come to.
unfoldable pub verdict_on : List ℕ → ℕ → ℕ → ℕ → Verdict
verdict_on kept count b room =
    pick (within_range kept count)
    (pick (leb most_frame room) (verdict_for count (recognised (kept_with kept count b))) Short)
    Bad

-- The kept bytes have both start delimiters and a data length in range, and m is the place of the checksum.
pub record Headed (kept : List ℕ) (m : ℕ) : Type 0 where
  pub first : get_or kept 0 0 ≡ 0x68
  pub eighth : get_or kept 7 0 ≡ 0x68
  pub most : get_or kept 9 0 ≤ 200
  pub end : m ≡ 10 + get_or kept 9 0
