-- What bytes begin with, given up at the very byte where document 01 says: the first or the eighth is not 68, L is above 200, the
-- checksum is wrong, the last byte is not 16. `RecognitionLaws` shows what this means in terms of `Frame`.
use Rattle.std.specs.Prelude.{ℕ, ◌+◌, Bool, false, List, length, take, ◌==◌, nat_le, slice_index}
use Rattle.laws.specs.Test.{pick}
use Rattle.frame.specs.Frame.{checksum_of, length_of}
use Rattle.frame.specs.declared.Recognised.{Recognised}
use Rattle.frame.specs.declared.Recognised.TheVariants.{Whole, Open, Neither}

-- One test: open as long as byte i has not come, given up if the test fails, and else what comes next.
abbrev pub stage : List ℕ → ℕ → Bool → Recognised → Recognised
stage bytes i test next = pick (nat_le (length bytes) i) Open (pick test next Neither)

-- From the checksum on, which stands at place n: the checksum, then the last byte.
unfoldable pub recognised_end : List ℕ → ℕ → Recognised
recognised_end bytes n =
    stage bytes n (slice_index bytes n == checksum_of (take n bytes))
    (stage bytes (n + 1) (slice_index bytes (n + 1) == 0x16) (Whole (n + 2)))

-- From the data length on.
unfoldable pub recognised_body : List ℕ → Recognised
recognised_body bytes = stage bytes 9 (nat_le (length_of bytes) 200) (recognised_end bytes (10 + length_of bytes))

-- From the first byte on: both start delimiters, and then the rest.
unfoldable pub recognised : List ℕ → Recognised
recognised bytes = stage bytes 0 (slice_index bytes 0 == 0x68) (stage bytes 7 (slice_index bytes 7 == 0x68) (recognised_body bytes))

-- Whether bytes that begin so are nothing but that frame.
unfoldable pub is_all : Recognised → ℕ → Bool
is_all (Whole n) m = n == m
is_all Open m = false
is_all Neither m = false

-- Whether the bytes are exactly one frame.
unfoldable pub exactly_one : List ℕ → Bool
exactly_one bytes = is_all (recognised bytes) (length bytes)
