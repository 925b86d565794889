-- Laws of the scan: its places rise, what it keeps is open, and more symbols are read from what was kept.
use Rattle.std.specs.Prelude.{ℕ, zero, suc, ◌-◌, ◌≤◌, ◌<◌, ◌≡◌, refl, Bool, true, false, List, [], ◌∷◌, ◌++◌, map, length, take}
use Rattle.std.proofs.Common.{arith, sym, ap, append-nil}
use Rattle.std.proofs.lemmas.List.{take-append-le}
use Rattle.laws.specs.Test.{pick}
use Rattle.frame.specs.Recognition.{recognised}
use Rattle.frame.proofs.RecognitionLaws.{whole-within, whole-stays, neither-stays, empty_open}
use Rattle.frame.specs.declared.Recognised.{Recognised}
use Rattle.frame.specs.declared.Recognised.TheVariants.{Whole, Open, Neither}
use Rattle.line_terms.specs.Line.{Symbol, byte, silence}
use Rattle.line_terms.specs.Places.{Found, AllAbove, Rising, joined, frames_of}
use Rattle.line_terms.proofs.PlaceLaws.{joined_same, count_same}
use Rattle.line_terms.proofs.BeginsLaws.{before-silence-whole, begins_open, unbroken, bytes-length}
use Rattle.line_terms.specs.Scan.{LineReading, bytes_before, broken, before_silence, begins, before, reading_by, scan}

-- The ways of the scan: at the end, past a covered symbol, past the first symbol of a frame, to a stop, past a symbol dropped.
pub data Scans : ℕ → ℕ → List Symbol → LineReading → Type 0 where
  ends : {place k : ℕ} → Scans place k [] (record { frames = []; kept = [] })
  covered : {place k : ℕ} {s : Symbol} {x : List Symbol} {r : LineReading} → Scans (suc place) k x r → Scans place (suc k) (s ∷ x) r
  finds : {place n : ℕ} {s : Symbol} {x : List Symbol} {r : LineReading} → begins (s ∷ x) ≡ Whole n → Scans (suc place) (n - 1) x r →
      Scans place zero (s ∷ x) (before place (take n (bytes_before (s ∷ x))) r)
  stops : {place : ℕ} {s : Symbol} {x : List Symbol} → begins (s ∷ x) ≡ Open →
      Scans place zero (s ∷ x) (record { frames = []; kept = bytes_before (s ∷ x) })
  drops : {place : ℕ} {s : Symbol} {x : List Symbol} {r : LineReading} → begins (s ∷ x) ≡ Neither → Scans (suc place) zero x r →
      Scans place zero (s ∷ x) r

-- Every scan goes one of these ways at each symbol.
pub scans : (place k : ℕ) (x : List Symbol) → Scans place k x (scan place k x)
unfolding scan reading_by
scans place k [] = ends
scans place (suc k) (s ∷ x) = covered (scans (suc place) k x)
scans place zero (s ∷ x) = go (begins (s ∷ x)) refl (λ k. scans (suc place) k x)
  where
    go : (r : Recognised) → begins (s ∷ x) ≡ r → ((k : ℕ) → Scans (suc place) k x (scan (suc place) k x)) →
        Scans place zero (s ∷ x) (reading_by r place (bytes_before (s ∷ x)) (λ k. scan (suc place) k x))
    go (Whole n) e h = finds e (h (n - 1))
    go Open e h = stops e
    go Neither e h = drops e (h 0)

-- The places of the frames found rise.
scans-above : {place k : ℕ} {x : List Symbol} {r : LineReading} (p : ℕ) → p < place → Scans place k x r → AllAbove p r.frames
unfolding before
scans-above p h ends = tt
scans-above p h (covered w) = scans-above p (omega arith) w
scans-above p h (finds e w) = (h, scans-above p (omega arith) w)
scans-above p h (stops e) = tt
scans-above p h (drops e w) = scans-above p (omega arith) w

scans-rising : {place k : ℕ} {x : List Symbol} {r : LineReading} → Scans place k x r → Rising r.frames
unfolding before
scans-rising ends = tt
scans-rising (covered w) = scans-rising w
scans-rising (finds {place = p} e w) = (scans-above p (omega arith) w, scans-rising w)
scans-rising (stops e) = tt
scans-rising (drops e w) = scans-rising w

pub scan-rising : (place k : ℕ) (x : List Symbol) → Rising (scan place k x).frames
scan-rising place k x = scans-rising (scans place k x)

-- What is kept is open.
scans_open : {place k : ℕ} {x : List Symbol} {r : LineReading} → Scans place k x r → recognised r.kept ≡ Open
unfolding before
scans_open ends = empty_open
scans_open (covered w) = scans_open w
scans_open (finds e w) = scans_open w
scans_open (stops {s = s} {x = x} e) = (begins_open (s ∷ x) e).1
scans_open (drops e w) = scans_open w

pub scan_kept_open : (place k : ℕ) (x : List Symbol) → recognised (scan place k x).kept ≡ Open
scan_kept_open place k x = scans_open (scans place k x)

-- Readings that differ in no more than the places.
record Alike (r r' : LineReading) : Type 0 where
  frames : frames_of r.frames ≡ frames_of r'.frames
  kept : r.kept ≡ r'.kept

alike : (p q k : ℕ) (x : List Symbol) → Alike (scan p k x) (scan q k x)
unfolding scan reading_by before frames_of
alike p q k [] = record { frames = refl; kept = refl }
alike p q (suc k) (s ∷ x) = alike (suc p) (suc q) k x
alike p q zero (s ∷ x) = go (begins (s ∷ x)) (λ k. alike (suc p) (suc q) k x)
  where
    go : (r : Recognised) → ((k : ℕ) → Alike (scan (suc p) k x) (scan (suc q) k x)) →
        Alike (reading_by r p (bytes_before (s ∷ x)) (λ k. scan (suc p) k x)) (reading_by r q (bytes_before (s ∷ x)) (λ k. scan (suc q) k x))
    go (Whole n) h =
        let a : Alike (scan (suc p) (n - 1) x) (scan (suc q) (n - 1) x) = h (n - 1) in
        record { frames = ap (λ (l : List (List ℕ)). take n (bytes_before (s ∷ x)) ∷ l) a.frames; kept = a.kept }
    go Open h = record { frames = refl; kept = refl }
    go Neither h = h 0

-- The place only numbers the frames.
module _ (p q : ℕ) (x : List Symbol) where
  pub place-frames : frames_of (scan p 0 x).frames ≡ frames_of (scan q 0 x).frames
  place-frames = (alike p q 0 x).frames

  pub place-joined : joined (scan p 0 x).frames ≡ joined (scan q 0 x).frames
  place-joined = joined_same (scan p 0 x).frames (scan q 0 x).frames place-frames

  pub place-count : length (scan p 0 x).frames ≡ length (scan q 0 x).frames
  place-count = count_same (scan p 0 x).frames (scan q 0 x).frames place-frames

  pub place_kept : (scan p 0 x).kept ≡ (scan q 0 x).kept
  place_kept = (alike p q 0 x).kept

-- The bytes before the first silence of symbols joined, and whether there is one.
pub bytes-then : (x y : List Symbol) → bytes_before (x ++ y) ≡ bytes_before x ++ pick (broken x) [] (bytes_before y)
unfolding broken bytes_before
bytes-then [] y = refl
bytes-then (byte b ∷ x) y = ap (λ (l : List ℕ). b ∷ l) (bytes-then x y)
bytes-then (silence ∷ x) y = refl

pub broken-then : (x y : List Symbol) → broken x ≡ true → broken (x ++ y) ≡ true
unfolding broken
broken-then [] y e = cc
broken-then (byte b ∷ x) y e = broken-then x y e
broken-then (silence ∷ x) y e = refl

-- Symbols that begin with a frame: its bytes stand before any silence, and they stay when more symbols come.
module _ (x : List Symbol) (n : ℕ) (e : begins x ≡ Whole n) where
  pub begins-whole : recognised (bytes_before x) ≡ Whole n
  unfolding begins
  begins-whole = before-silence-whole (broken x) (recognised (bytes_before x)) n e

  pub begins-within : n ≤ length (bytes_before x)
  begins-within = whole-within (bytes_before x) n begins-whole

  pub same-frame : (y : List Symbol) → take n (bytes_before (x ++ y)) ≡ take n (bytes_before x)
  same-frame y = rw bytes-then (take-append-le n (bytes_before x) _ begins-within)

-- More symbols change only an open verdict.
pub begins-stays : (x y : List Symbol) → ¬ (begins x ≡ Open) → begins (x ++ y) ≡ begins x
unfolding begins before_silence
begins-stays x y h = go (broken x) (recognised (bytes_before x)) refl refl
  where
    go : (b : Bool) (r : Recognised) → broken x ≡ b → recognised (bytes_before x) ≡ r →
        before_silence (broken (x ++ y)) (recognised (bytes_before (x ++ y))) ≡ before_silence b r
    go b (Whole n) d e = rw (bytes-then, whole-stays (bytes_before x) _ n e)
    go b Neither d e = rw (bytes-then, neither-stays (bytes_before x) _ e)
    go true Open d e = rw (bytes-then x y, broken-then x y d, d, append-nil, e)
    go false Open d e = absurd (h (rw (d, e)))

-- More symbols: what the scan has found, and then what the kept bytes with those symbols read as, at the place where they stand.
pub record More (x y : List Symbol) : Type 0 where
  pub place : ℕ
  pub frames : (scan 0 0 (x ++ y)).frames ≡ (scan 0 0 x).frames ++ (scan place 0 (map byte (scan 0 0 x).kept ++ y)).frames
  pub kept : (scan 0 0 (x ++ y)).kept ≡ (scan place 0 (map byte (scan 0 0 x).kept ++ y)).kept

-- The same of a reading and the reading with more symbols, from any place on.
record ReadsOn (y : List Symbol) (r later : LineReading) : Type 0 where
  place : ℕ
  frames : later.frames ≡ r.frames ++ (scan place 0 (map byte r.kept ++ y)).frames
  kept : later.kept ≡ (scan place 0 (map byte r.kept ++ y)).kept

scans-more : {place k : ℕ} {x : List Symbol} {r : LineReading} (y : List Symbol) → k ≤ length x → Scans place k x r →
    ReadsOn y r (scan place k (x ++ y))
unfolding scan reading_by before
scans-more y h (ends {place} {k}) =
    let z : k ≡ 0 = omega arith in
    rw z (record { place = place; frames = refl; kept = refl })
scans-more y h (covered w) = scans-more y (omega arith) w
scans-more y h (finds {place} {n} {s = t} {x} {r} e w) =
    let l : n ≤ length (bytes_before (t ∷ x)) = begins-within (t ∷ x) n e in
    let g : ReadsOn y r (scan (suc place) (n - 1) (x ++ y)) = scans-more y (omega (arith, bytes-length (t ∷ x))) w in
    rw (begins-stays (t ∷ x) y (λ o. let z : ◌≡◌ {A = ℕ} 0 1 = cc in omega arith), e, same-frame (t ∷ x) n e y)
    (record {
      place = g.place;
      frames = ap (λ (l : List Found). record { place = place; frame = take n (bytes_before (t ∷ x)) } ∷ l) g.frames;
      kept = g.kept;
    })
scans-more y h (stops {place} {s = t} {x} e) =
    let u : t ∷ x ≡ map byte (bytes_before (t ∷ x)) = sym (unbroken (t ∷ x) (begins_open (t ∷ x) e).0) in
    record {
      place = place;
      frames = ap (λ (l : List Symbol). (scan place 0 (l ++ y)).frames) u;
      kept = ap (λ (l : List Symbol). (scan place 0 (l ++ y)).kept) u;
    }
scans-more y h (drops {s = t} {x} e w) =
    rw (begins-stays (t ∷ x) y (λ o. let z : ◌≡◌ {A = ℕ} 0 1 = cc in omega arith), e) (scans-more y (omega arith) w)

pub more : (x y : List Symbol) → More x y
more x y =
    let g : ReadsOn y (scan 0 0 x) (scan 0 0 (x ++ y)) = scans-more y (omega arith) (scans 0 0 x) in
    record { place = g.place; frames = g.frames; kept = g.kept }

-- One symbol more.
abbrev pub OneMore : List Symbol → Symbol → Type 0
OneMore x s = More x (s ∷ [])

pub one_more : (x : List Symbol) (s : Symbol) → OneMore x s
one_more x s = more x (s ∷ [])
