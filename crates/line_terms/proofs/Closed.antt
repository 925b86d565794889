-- A line that has ended: a silence behind it changes nothing of what is taken in it, the scan with that silence finds exactly what is
-- taken, and so that is what is certain then.
use Rattle.std.specs.Prelude.{ℕ, ◌+◌, ◌≤◌, ◌≡◌, ◌↔◌, ◌⊎◌, length, take, drop}
use Rattle.std.proofs.Common.{arith, sym, ◌∙◌, ap, inl, inr, length-append, length-drop}
use mathlib.Core.Logic.Iff
use mathlib.Core.List.{List, [], ◌∷◌, ◌++◌, map, append-nil, Memᴰ}
use Rattle.std.proofs.lemmas.List.{length-map, take-append-le, drop-append-le}
use Rattle.frame.proofs.RecognitionLaws.{frame-least}
use Rattle.line_terms.specs.Line.{Symbol, byte, silence, Stands, Choice, Keeps, Taken, Certain}
use Rattle.line_terms.specs.Places.{Found, Exactly}
use Rattle.line_terms.specs.Scan.{scan}
use Rattle.line_terms.proofs.OneChoice.{OneChoice, one_choice}
use Rattle.line_terms.proofs.ScanLaws.{scan-rising}
use Rattle.line_terms.proofs.TakenLaws.{Read, bytes-all}
use Rattle.line_terms.proofs.ScanCertain.{scan-reads, stands-within, found-certain, certain-found, certain-frames}

-- The line with a silence behind it.
abbrev closed : List Symbol → List Symbol
closed x = x ++ (silence ∷ [])

-- Bytes in front of a closed line lie before its silence.
front-within : (x : List Symbol) (b : List ℕ) → take (length b) (closed x) ≡ map byte b → length b ≤ length x
front-within x [] e = omega arith
front-within [] (b ∷ bs) e = absurd (let z : ◌≡◌ {A = ℕ} 0 1 = cc in omega arith)
front-within (s ∷ x) (b ∷ bs) e = omega (arith, front-within x bs (cc))

-- So a closed line is not made of bytes alone.
pub not-bytes : (x : List Symbol) (b : List ℕ) → closed x ≡ map byte b → ⊥
not-bytes x b e =
    let l : length x + 1 ≡ length b = rw (length-append, length-map) at (ap length e) in
    omega (arith, front-within x b (bytes-all b e))

-- A frame that stands in a closed line ends before its silence.
closed-within : (x : List Symbol) (place : ℕ) (f : List ℕ) → Stands (closed x) place f → place + length f ≤ length x
closed-within x place f s =
    let w : place + length f ≤ length (closed x) = stands-within (closed x) place f s in
    let p : place ≤ length x = omega (arith, w, frame-least s.whole, length-append x (silence ∷ [])) in
    let h : length f ≤ length (drop place x) = front-within (drop place x) f (rw drop-append-le at s.there) in
    omega (arith, h, length-drop place x)

-- The same frames stand in the line and in the closed line.
stands-closed : (x : List Symbol) (place : ℕ) (f : List ℕ) → Stands x place f ↔ Stands (closed x) place f
stands-closed x place f = (
  λ s. record { whole = s.whole; there = same (stands-within x place f s) ∙ s.there },
  λ s. record { whole = s.whole; there = sym (same (closed-within x place f s)) ∙ s.there },
)
  where
    same : place + length f ≤ length x → take (length f) (drop place (closed x)) ≡ take (length f) (drop place x)
    same h =
        let p : place ≤ length x = omega arith in
        let l : length f ≤ length (drop place x) = omega (arith, length-drop place x) in
        rw (drop-append-le, take-append-le)

-- A choice that keeps the rule in the line keeps it in the closed line.
keeps-closed : (x : List Symbol) (taken : Choice) → Keeps x taken → Keeps (closed x) taken
keeps-closed x taken keeps place f = (
  λ t. ((stands-closed x place f).0 ((keeps place f).0 t).0, ((keeps place f).0 t).1),
  λ d. (keeps place f).1 ((stands-closed x place f).1 d.0, d.1),
)

-- The frames found with the end taken as a silence are those that every choice that keeps the rule takes.
pub taken-found : (x : List Symbol) (taken : Choice) → Keeps x taken → (place : ℕ) (frame : List ℕ)
    → Memᴰ (record { place = place; frame = frame }) (scan 0 0 (x ++ (silence ∷ []))).frames ↔ taken place frame
taken-found x taken keeps place frame = (read.passed.found g, λ t. go t (read.passed.rest g t (omega arith)))
  where
    g : Found
    g = record { place = place; frame = frame }

    read : Read (closed x) [] taken 0 (scan 0 0 (closed x))
    read = rw append-nil at (scan-reads (closed x) [] taken (rw append-nil (keeps-closed x taken keeps)))

    -- No frame is taken where the reading stops or later: only bytes are left there, and so not the silence.
    go : taken place frame → Memᴰ g (scan 0 0 (closed x)).frames ⊎ (read.stop ≤ place) → Memᴰ g (scan 0 0 (closed x)).frames
    go t (inl m) = m
    go t (inr l) =
        let w : place + length frame ≤ length x = stands-within x place frame ((keeps place frame).0 t).0 in
        let h : read.stop ≤ length x = omega arith in
        absurd
        (not-bytes (drop read.stop x) (scan 0 0 (closed x)).kept
        (sym (drop-append-le read.stop x (silence ∷ []) h) ∙ rw append-nil at read.there))

-- What is certain after a line with a silence behind it is what is taken in the line.
pub ended-taken : (x : List Symbol) (place : ℕ) (frame : List ℕ) → Certain (x ++ (silence ∷ [])) place frame ↔ Taken x place frame
ended-taken x place frame = (
  λ c taken keeps. (taken-found x taken keeps place frame).0 (certain-found (closed x) place frame c),
  λ t. found-certain (closed x) place frame ((taken-found x one.taken one.keeps place frame).1 (t one.taken one.keeps)),
)
  where
    one : OneChoice x
    one = one_choice x

-- So the frames that the scan with that silence finds are exactly those that are taken.
abbrev pub taken-frames : (x : List Symbol) → Exactly (Taken x)
taken-frames x =
    record {
      frames = (scan 0 0 (x ++ (silence ∷ []))).frames;
      rising = scan-rising 0 0 (x ++ (silence ∷ []));
      exact = λ place frame. Iff.trans ((certain-frames (x ++ (silence ∷ []))).exact place frame) (ended-taken x place frame);
    }
