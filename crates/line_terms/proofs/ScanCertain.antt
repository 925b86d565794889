-- The scan finds exactly the certain frames.
use Rattle.std.specs.Prelude.{ℕ, ◌+◌, ◌≤◌, ◌<◌, refl, ◌⊎◌, length, take}
use Rattle.std.proofs.Common.{arith, ◌∙◌, ap, inl, inr, length-append, length-take, length-drop}
use mathlib.Core.List.Memᴰ
use mathlib.Core.List.{List, [], ◌∷◌, ◌++◌, map, append-nil, map-append, Memᴰ}
use Rattle.std.proofs.lemmas.List.{length-map}
use Rattle.frame.specs.Frame.{Frame, ProperBeginning}
use Rattle.laws.specs.Memory.{Bytes}
use Rattle.line_terms.specs.Line.{Symbol, byte, AllBytes, Stands, Choice, Keeps, Certain}
use Rattle.line_terms.specs.Places.{Found, Exactly}
use Rattle.line_terms.specs.Scan.{LineReading, bytes_before, scan}
use Rattle.line_terms.proofs.OneChoice.{OneChoice, one_choice}
use Rattle.line_terms.proofs.ScanLaws.{scan-rising}
use Rattle.frame.proofs.RecognitionLaws.{open_completes, frame-least}
use Rattle.line_terms.proofs.TakenLaws.{Takes, Read, reads, begins-frame, begins-whole, whole-passed}

-- The scan of symbols with which a line begins.
pub scan-reads : (x more : List Symbol) (taken : Choice) → Keeps (x ++ more) taken → Read (x ++ more) more taken 0 (scan 0 0 x)
scan-reads x more taken keeps = reads (x ++ more) more taken keeps 0 0 0 x refl (omega arith) refl (λ g t. inr (omega arith))

-- What the scan finds is taken by every choice that keeps the rule, however the line goes on.
pub found-certain : (x : List Symbol) (place : ℕ) (frame : List ℕ) →
    Memᴰ (record { place = place; frame = frame }) (scan 0 0 x).frames → Certain x place frame
found-certain x place frame m more bytes taken keeps =
    (scan-reads x more taken keeps).passed.found (record { place = place; frame = frame }) m

-- Bytes, as symbols, are below 256.
all-bytes : (b : List ℕ) → Bytes b → AllBytes (map byte b)
all-bytes [] h = tt
all-bytes (b ∷ bs) h = (h.0, all-bytes bs h.1)

-- A frame that stands in symbols ends within them.
pub stands-within : (x : List Symbol) (place : ℕ) (f : List ℕ) → Stands x place f → place + length f ≤ length x
stands-within x place f s =
    omega (arith, frame-least s.whole, simp (length-take, length-drop, length-map) at (ap length s.there))

-- Where bytes complete what a reading kept to a frame, whatever is taken from there on ends past the symbols read.
past-kept : (x : List Symbol) (more : List ℕ) (taken : Choice) (keeps : Keeps (x ++ map byte more) taken) (r : LineReading)
    (a : Read (x ++ map byte more) (map byte more) taken 0 r) → 0 < length more → Frame (r.kept ++ more) →
    (g : Found) → Takes taken g → a.stop ≤ g.place → length x < g.place + length g.frame
past-kept x more taken keeps r a some w g t l =
    go
    ((whole-passed (x ++ map byte more) [] taken keeps a.stop (map byte done)
    (a.there ∙ simp (append-nil, map-append)) a.passed.free (length done) (begins-frame done w)).rest g t l)
  where
    done : List ℕ
    done = r.kept ++ more

    long : length x < a.stop + length done
    long = simp length-append (omega (arith, simp (length-drop, length-append, length-map) at (ap length a.there)))

    go : Memᴰ g (record { place = a.stop; frame = take (length done) (bytes_before (map byte done)) } ∷ []) ⊎
        (a.stop + length done ≤ g.place) → length x < g.place + length g.frame
    go (inl m) = rw (Memᴰ.eq_of_singleton m, (begins-whole (map byte done) (length done) (begins-frame done w)).long) long
    go (inr h) = omega (arith, long)

-- What is certain the scan has found.
pub certain-found : (x : List Symbol) (place : ℕ) (frame : List ℕ) →
    Certain x place frame → Memᴰ (record { place = place; frame = frame }) (scan 0 0 x).frames
certain-found x place frame h = go ((read more).passed.rest g (certain more bytes) (omega arith))
  where
    g : Found
    g = record { place = place; frame = frame }

    one : (y : List Symbol) → OneChoice (x ++ y)
    one y = one_choice (x ++ y)

    certain : (y : List Symbol) → AllBytes y → (one y).taken place frame
    certain y b = h y b (one y).taken (one y).keeps

    read : (y : List Symbol) → Read (x ++ y) y (one y).taken 0 (scan 0 0 x)
    read y = scan-reads x y (one y).taken (one y).keeps

    within : place + length frame ≤ length x
    within = rw append-nil at (stands-within (x ++ []) place frame (((one []).keeps place frame).0 (certain [] tt)).0)

    rest : ProperBeginning (scan 0 0 x).kept
    rest = open_completes (scan 0 0 x).kept (read []).begun

    more : List Symbol
    more = map byte rest.more

    bytes : AllBytes more
    bytes = all-bytes rest.more rest.bytes

    past : (read more).stop ≤ place → length x < place + length frame
    past =
        past-kept x rest.more (one more).taken (one more).keeps (scan 0 0 x) (read more) rest.some rest.whole g (certain more bytes)

    go : Memᴰ g (scan 0 0 x).frames ⊎ ((read more).stop ≤ place) → Memᴰ g (scan 0 0 x).frames
    go (inl m) = m
    go (inr l) = absurd (omega (arith, within, past l))

-- So the frames that it finds are exactly those that are certain.
abbrev pub certain-frames : (x : List Symbol) → Exactly (Certain x)
certain-frames x =
    record {
      frames = (scan 0 0 x).frames;
      rising = scan-rising 0 0 x;
      exact = λ place frame. (found-certain x place frame, certain-found x place frame);
    }
