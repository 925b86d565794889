-- Document 01, "The listing program": the line that is written for a frame, as a list of bytes.
use Rattle.std.specs.Prelude.{ℕ, ◌+◌, ◌*◌, ◌/◌, ◌%◌, ◌≡◌, List, [], ◌∷◌, ◌++◌, reverse, length, leb, eqb, Err, Ok, Result}
use Rattle.listing.specs.declared.ListError.{ListError}
use Rattle.listing.specs.declared.ListError.TheVariants.{NotAFrame, TooLittleMemory}
use Rattle.laws.specs.Memory.{Outcome, outcome, over}
use Rattle.laws.specs.Test.{pick}
use Rattle.frame.specs.Frame.{address_of, control_of, length_of, data_of}
use Rattle.frame.specs.Recognition.{exactly_one}

-- The capital hexadecimal digit of a half byte.
unfoldable pub digit : ℕ → ℕ
digit n = pick (leb n 9) (48 + n) (55 + n)

-- The two digits of a byte, high half first.
unfoldable pub hex_of : ℕ → List ℕ
hex_of b = digit (b / 16) ∷ digit (b % 16) ∷ []

-- The digits of bytes, in their order, with nothing between them.
unfoldable pub hex_all : List ℕ → List ℕ
hex_all [] = []
hex_all (b ∷ bs) = hex_of b ++ hex_all bs

-- The address, high byte first, a blank, and the control code.
unfoldable pub head_of : List ℕ → List ℕ
head_of frame = hex_all (reverse (address_of frame)) ++ (0x20 ∷ hex_of (control_of frame))

-- Nothing where there are no data; else a blank and the unmasked data as sent.
unfoldable pub tail_of : List ℕ → List ℕ
tail_of frame = pick (eqb (length_of frame) 0) [] (0x20 ∷ hex_all (data_of frame))

-- The line of a frame: its address high byte first, its control code and its unmasked data, in capitals, and a newline.
unfoldable pub text_of : List ℕ → List ℕ
text_of frame = head_of frame ++ (tail_of frame ++ (0x0A ∷ []))

-- Bytes that are not exactly one frame, or too little memory: nothing is written. Else the text, over the front of the memory.
unfoldable pub listing : List ℕ → List ℕ → Outcome (Result ℕ ListError)
listing frame m =
    pick (exactly_one frame)
    (pick (leb (length (text_of frame)) (length m))
    (outcome (Ok (length (text_of frame))) (over (text_of frame) m))
    (outcome (Err TooLittleMemory) m))
    (outcome (Err NotAFrame) m)

-- The text's length, its newline among it, by L.
unfoldable pub text_length : ℕ → ℕ
text_length l = pick (eqb l 0) 16 (17 + 2 * l)

-- Bytes as many as their L says that a frame has.
abbrev pub Spans : List ℕ → Type 0
Spans frame = length frame ≡ 12 + length_of frame
