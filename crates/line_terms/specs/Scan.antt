-- A scan of the line from the left, which computes: where a whole frame stands, it is found and passed over; where what is left may
-- still become a frame, the scan stops and keeps it; any other symbol is dropped. `ScanCertain` shows that it finds the certain frames.
use Rattle.std.specs.Prelude.{ℕ, zero, suc, ◌-◌, List, [], ◌∷◌, Bool, true, false, take}
use Rattle.frame.specs.Recognition.{recognised}
use Rattle.frame.specs.declared.Recognised.{Recognised}
use Rattle.frame.specs.declared.Recognised.TheVariants.{Whole, Open, Neither}
use Rattle.line_terms.specs.Line.{Symbol, byte, silence}
use Rattle.line_terms.specs.Places.{Found}

-- The frames found, in rising place, and the bytes kept.
pub record LineReading : Type 0 where
  pub frames : List Found
  pub kept : List ℕ

-- The bytes up to the first silence, or to the end.
unfoldable pub bytes_before : List Symbol → List ℕ
bytes_before [] = []
bytes_before (byte b ∷ x) = b ∷ bytes_before x
bytes_before (silence ∷ x) = []

-- A silence stands among the symbols.
unfoldable pub broken : List Symbol → Bool
broken [] = false
broken (byte b ∷ x) = broken x
broken (silence ∷ x) = true

-- What bytes begin with, once it is known whether a silence follows them: then a beginning is no beginning any more.
unfoldable pub before_silence : Bool → Recognised → Recognised
before_silence b (Whole n) = Whole n
before_silence true Open = Neither
before_silence false Open = Open
before_silence b Neither = Neither

-- What the symbols begin with.
unfoldable pub begins : List Symbol → Recognised
begins x = before_silence (broken x) (recognised (bytes_before x))

-- The reading where a frame is found first, and then what follows.
unfoldable pub before : ℕ → List ℕ → LineReading → LineReading
before place frame r = record { frames = record { place = place; frame = frame } ∷ r.frames; kept = r.kept }

-- The reading at a place, by what the symbols there begin with; `from k` reads on at the next symbol with k more still covered.
unfoldable pub reading_by : Recognised → ℕ → List ℕ → (ℕ → LineReading) → LineReading
reading_by (Whole n) place bytes from = before place (take n bytes) (from (n - 1))
reading_by Open place bytes from = record { frames = []; kept = bytes }
reading_by Neither place bytes from = from 0

-- The reading of symbols that stand from a place on, the first k of which are still covered by a frame.
unfoldable pub scan : ℕ → ℕ → List Symbol → LineReading
scan place k [] = record { frames = []; kept = [] }
scan place (suc k) (s ∷ x) = scan (suc place) k x
scan place zero (s ∷ x) = reading_by (begins (s ∷ x)) place (bytes_before (s ∷ x)) (λ k. scan (suc place) k x)
