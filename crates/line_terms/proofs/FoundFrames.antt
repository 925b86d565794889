-- What a scan finds are frames; frames found stand end to end where their bytes are joined, and are cut apart again.
use Rattle.std.specs.Prelude.{ℕ, ◌≡◌, refl, List, [], ◌∷◌, ◌++◌}
use Rattle.std.proofs.Common.{sym, ap, ◌∙◌}
use Rattle.laws.specs.All.{AllOf}
use Rattle.frame.specs.Frame.{Frame}
use Rattle.frame.proofs.RecognitionLaws.{whole-frame}
use Rattle.frame.specs.EndToEnd.{EndToEnd, none, next, behind_each_other, cut}
use Rattle.frame.proofs.EndToEndLaws.{cut_again}
use Rattle.line_terms.specs.Line.{Symbol}
use Rattle.line_terms.specs.Places.{Found, joined, frames_of}
use Rattle.line_terms.specs.Scan.{LineReading, bytes_before, before, scan}
use Rattle.line_terms.proofs.ScanLaws.{Scans, ends, covered, finds, stops, drops, scans, begins-whole}

-- All that is found are frames.
abbrev pub AllFrames : List Found → Type 0
AllFrames [] = Unit
AllFrames (f ∷ fs) = Frame f.frame × AllFrames fs

-- A scan finds frames.
scans-frames : {place k : ℕ} {x : List Symbol} {r : LineReading} → Scans place k x r → AllFrames r.frames
unfolding before
scans-frames ends = tt
scans-frames (covered w) = scans-frames w
scans-frames (finds {n = n} {s = s} {x = x} e w) = (whole-frame (bytes_before (s ∷ x)) n (begins-whole (s ∷ x) n e), scans-frames w)
scans-frames (stops e) = tt
scans-frames (drops e w) = scans-frames w

pub scan-frames : (place k : ℕ) (x : List Symbol) → AllFrames (scan place k x).frames
scan-frames place k x = scans-frames (scans place k x)

-- Frames joined stand end to end.
pub joined_end_to_end : (fs : List Found) → AllFrames fs → EndToEnd (joined fs)
unfolding joined
joined_end_to_end [] w = none
joined_end_to_end (f ∷ fs) w = next w.0 (joined_end_to_end fs w.1)

-- Frames found, without their places, one behind the other.
pub found-behind : (fs : List Found) → behind_each_other (frames_of fs) ≡ joined fs
unfolding behind_each_other frames_of joined
found-behind [] = refl
found-behind (f ∷ fs) = ap (λ (l : List ℕ). f.frame ++ l) (found-behind fs)

-- Each of them is a frame.
pub found-frames : (fs : List Found) → AllFrames fs → AllOf Frame (frames_of fs)
unfolding frames_of
found-frames [] w = tt
found-frames (f ∷ fs) w = (w.0, found-frames fs w.1)

-- Frames joined are cut into the same frames again.
pub cut-joined : (fs : List Found) → AllFrames fs → cut (joined fs) ≡ frames_of fs
cut-joined fs w = ap cut (sym (found-behind fs)) ∙ cut_again (frames_of fs) (found-frames fs w)
