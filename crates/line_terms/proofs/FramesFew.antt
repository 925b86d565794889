-- The frames found in a line, and what is kept of it, have no more bytes than the line.
use Rattle.std.specs.Prelude.{ℕ, suc, ◌+◌, ◌-◌, ◌≤◌, ◌≡◌, refl, List, [], ◌∷◌, ◌++◌, map, length, take}
use Rattle.std.proofs.Common.{arith, ap, length-append, length-take-le}
use Rattle.line_terms.specs.Line.{Symbol, byte, silence}
use Rattle.line_terms.specs.Places.{joined}
use Rattle.line_terms.specs.Scan.{LineReading, bytes_before, before, scan}
use Rattle.line_terms.proofs.ScanLaws.{Scans, ends, covered, finds, stops, drops, scans, begins-within}

-- How many bytes are among the symbols.
unfoldable pub bytes_in : List Symbol → ℕ
bytes_in [] = 0
bytes_in (byte b ∷ x) = suc (bytes_in x)
bytes_in (silence ∷ x) = bytes_in x

-- Of bytes, all of them.
pub bytes_in_lem : (l : List ℕ) → bytes_in (map byte l) ≡ length l
unfolding bytes_in
bytes_in_lem [] = refl
bytes_in_lem (b ∷ l) = ap suc (bytes_in_lem l)

-- Of bytes with a silence behind them, all but that.
pub bytes_in_closed : (l : List ℕ) → bytes_in (map byte l ++ (silence ∷ [])) ≡ length l
unfolding bytes_in
bytes_in_closed [] = refl
bytes_in_closed (b ∷ l) = ap suc (bytes_in_closed l)

-- Bytes up to the first silence are among them.
before-few : (x : List Symbol) → length (bytes_before x) ≤ bytes_in x
unfolding bytes_in bytes_before
before-few [] = omega arith
before-few (byte b ∷ x) = omega (arith, before-few x)
before-few (silence ∷ x) = omega arith

-- The frames found and the bytes kept have no more bytes than there are among the symbols past those still covered.
scans-few : {place k : ℕ} {x : List Symbol} {r : LineReading} → k ≤ length (bytes_before x) → Scans place k x r →
    length (joined r.frames) + length r.kept + k ≤ bytes_in x
unfolding before joined bytes_in bytes_before
scans-few h ends = omega arith
scans-few h (covered {s = byte b} w) = omega (arith, scans-few (omega arith) w)
scans-few h (covered {s = silence} w) = omega arith
scans-few h (finds {n = n} {s = byte b} {x = x} {r = r} e w) =
    let l : n ≤ length (b ∷ bytes_before x) = begins-within (byte b ∷ x) n e in
    let f : length (take n (b ∷ bytes_before x)) ≡ n = length-take-le n (b ∷ bytes_before x) l in
    let i : length (joined r.frames) + length r.kept + (n - 1) ≤ bytes_in x = scans-few (omega arith) w in
    simp length-append (omega arith)
scans-few h (finds {n = n} {s = silence} {x = x} {r = r} e w) =
    let l : n ≤ length {A = ℕ} [] = begins-within (silence ∷ x) n e in
    let f : length {A = ℕ} (take n []) ≡ n = length-take-le n [] l in
    let i : length (joined r.frames) + length r.kept + (n - 1) ≤ bytes_in x = scans-few (omega arith) w in
    simp length-append (omega arith)
scans-few h (stops {s = s} {x = x} e) = omega (arith, before-few (s ∷ x))
scans-few h (drops {s = byte b} e w) = omega (arith, scans-few (omega arith) w)
scans-few h (drops {s = silence} e w) = scans-few (omega arith) w

-- The frames of a line have no more bytes than the line.
pub frames-few : (x : List Symbol) → length (joined (scan 0 0 x).frames) ≤ bytes_in x
frames-few x = omega (arith, scans-few {k = 0} (omega arith) (scans 0 0 x))

-- Together with what is kept, neither.
pub frames-kept-few : (x : List Symbol) → length (joined (scan 0 0 x).frames) + length (scan 0 0 x).kept ≤ bytes_in x
frames-kept-few x = omega (arith, scans-few {k = 0} (omega arith) (scans 0 0 x))
