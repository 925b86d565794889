-- What a call of the receiver answers, and what it leaves: document 01, "Reading of the line" and refusals 16 and 1.
use Rattle.frame.specs.declared.refusal.Refusal.{Refusal}
use Rattle.std.specs.Prelude.{ℕ, List, [], ◌∷◌, ◌++◌, map, Bool, length, take, replicate, leb, Err}
use Rattle.frame.specs.declared.refusal.Refusal.TheVariants.{OutOfRange, ShortMemory}
use Rattle.line.specs.Answer.{handed}
use Rattle.laws.specs.Memory.{Outcome, outcome, over}
use Rattle.laws.specs.Test.{pick}
use Rattle.frame.specs.Frame.{most_frame}
use Rattle.line_verdict.specs.Verdict.{most_kept}
use Rattle.line_verdict.specs.Verdict as verdict
use Rattle.line_terms.specs.Line.{Symbol, byte}
use Rattle.line_terms.specs.Places.{joined}
use Rattle.line_terms.specs.Scan.{LineReading, scan}
use Rattle.line.specs.declared.Receiver.{Receiver}
use Rattle.line.specs.declared.Received.{Received}

-- Document 01's term fresh: a receiver that has heard nothing.
unfoldable pub fresh : Receiver
fresh = record { kept = replicate most_kept 0; count = 0 }

-- The bytes that a receiver keeps: the first of its array, as many as it counts.
unfoldable pub kept_bytes : Receiver → List ℕ
kept_bytes r = take r.count r.kept

-- The kept bytes are within the array and are a proper beginning of a frame.
abbrev pub within_range : Receiver → Bool
within_range r = verdict.within_range r.kept r.count

-- The kept bytes with one byte more.
abbrev pub kept_with : Receiver → ℕ → List ℕ
kept_with r b = kept_bytes r ++ (b ∷ [])

-- A refusal, and all as before.
unfoldable pub refused : Refusal → Receiver → List ℕ → Outcome Received
refused n r m = outcome (record { receiver = r; answer = Err n }) m

-- What the kept bytes with one symbol more read as.
unfoldable pub reading_with : Receiver → Symbol → LineReading
reading_with r s = scan 0 0 (map byte (kept_bytes r) ++ (s ∷ []))

-- The receiver that keeps these bytes; the rest of its array stays as it was.
unfoldable pub keeping : List ℕ → Receiver → Receiver
keeping bytes r = record { kept = over bytes r.kept; count = length bytes }

-- The frames found are delivered and the rest is kept.
unfoldable pub delivered : LineReading → Receiver → List ℕ → Outcome Received
delivered d r m =
    outcome
    (record {
      receiver = keeping d.kept r;
      answer = handed (length (joined d.frames)) (length d.frames);
    })
    (over (joined d.frames) m)

-- The outcome of a call with a symbol: 16 for a receiver out of its range, then 1 for under 212 bytes of lent memory, else what the
-- kept bytes with the symbol read as, delivered.
unfoldable pub called : Symbol → Receiver → List ℕ → Outcome Received
called s r m =
    pick (within_range r)
    (pick (leb most_frame (length m)) (delivered (reading_with r s) r m) (refused ShortMemory r m))
    (refused OutOfRange r m)
