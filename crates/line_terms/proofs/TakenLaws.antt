-- What symbols begin with decides which frames stand in front of them, and so which frames are taken as the scan passes over them.
use Prim.Native.Nat.{ℕ, zero, suc, ◌+◌, ◌-◌, ◌≤◌, ◌<◌}
use native.Mathlib.Omega.{arith}
use Rattle.std.proofs.Math.Decide.{dec_lt}
use Rattle.std.proofs.Common.{add-one, sym, ◌∙◌, ap₂, subst, inl, inr, ⊎_elim, length-take-le, take_all, drop-drop}
use Rattle.std.specs.Prelude.{◌≡◌, ◌⊎◌, false, length, take, drop}
use Rattle.std.proofs.Math.Path.{refl, ap}
use Rattle.std.proofs.Math.Logic.{⊎_map}
use mathlib.Core.List.Memᴰ
use mathlib.Core.List.{List, [], ◌∷◌, ◌++◌, map, append-nil, append_assoc, map-append, Memᴰ}
use Rattle.std.proofs.lemmas.List.{length-map}
use Rattle.std.proofs.Math.Seq.{take-append_seam}
use Rattle.frame.specs.Frame.{Frame}
use Rattle.frame.specs.Recognition.{recognised}
use Rattle.frame.specs.declared.Recognised.{Recognised}
use Rattle.frame.specs.declared.Recognised.TheVariants.{Whole, Open, Neither}
use Rattle.line_terms.specs.Line.{Symbol, byte, silence, Stands, Choice, Covered, Keeps}
use Rattle.line_terms.specs.Rest.{MayBecome, CoveredByNone}
use Rattle.line_terms.specs.Places.{Found}
use Rattle.line_terms.proofs.BeginsLaws.{bytes-from, before-silence-whole, begins_open, unbroken, bytes-length}
use Rattle.line_terms.specs.Scan.{LineReading, bytes_before, broken, before_silence, begins, before, reading_by, scan}
use Rattle.frame.proofs.RecognitionLaws.{frame-least, frame-whole, whole-within, whole-frame, completes_open, empty_open}

-- A frame in front of symbols lies within their bytes, or goes on beyond them with no silence in between.
data Front (x : List Symbol) (f : List ℕ) : Type 0 where
  within : (rest : List ℕ) → bytes_before x ≡ f ++ rest → Front x f
  beyond : (rest : List ℕ) → 0 < length rest → broken x ≡ false → f ≡ bytes_before x ++ rest → Front x f

-- Bytes in front of symbols, whatever follows, are such a front.
front : (x more : List Symbol) (f : List ℕ) → take (length f) (x ++ more) ≡ map byte f → Front x f
unfolding bytes_before broken
front x more [] e = within (bytes_before x) refl
front [] more (b ∷ f) e = beyond (b ∷ f) (omega arith) refl refl
front (silence ∷ x) more (b ∷ f) e = absurd (let z : ◌≡◌ {A = ℕ} 0 1 = cc in omega arith)
front (byte a ∷ x) more (b ∷ f) e = go (front x more f (cc))
  where
    same : a ≡ b
    same = cc

    go : Front x f → Front (byte a ∷ x) (b ∷ f)
    go (within rest p) = within rest (cc)
    go (beyond rest some whole p) = beyond rest some whole (cc)

-- Symbols that are bytes have all of them in front.
pub bytes-all : {x : List Symbol} (f : List ℕ) → x ≡ map byte f → take (length f) x ≡ map byte f
bytes-all f e =
    let long : length (map byte f) ≡ length f = length-map f byte in
    rw e (take_all (length f) (map byte f) (omega arith))

-- Symbols begin with that frame, or may still become a frame.
data Begins (x : List Symbol) (f : List ℕ) : Type 0 where
  whole : begins x ≡ Whole (length f) → f ≡ take (length f) (bytes_before x) → Begins x f
  still : begins x ≡ Open → Begins x f

-- So symbols begin if a frame stands in front, whatever follows them.
frame-begins : (x more : List Symbol) (f : List ℕ) → Frame f → take (length f) (x ++ more) ≡ map byte f → Begins x f
unfolding begins before_silence
frame-begins x more f w e = go (front x more f e)
  where
    go : Front x f → Begins x f
    go (within rest p) = whole (rw (p, frame-whole f rest w)) (rw (p, take-append_seam))
    go (beyond rest some all p) = still (rw (all, completes_open (bytes_before x) rest some (subst Frame p w)))

-- The first bytes of symbols stand in front, whatever follows.
bytes-front : (n : ℕ) (x more : List Symbol) → n ≤ length (bytes_before x) →
    take n (x ++ more) ≡ map byte (take n (bytes_before x))
unfolding bytes_before
bytes-front zero x more h = refl
bytes-front (suc n) [] more h = absurd (omega arith)
bytes-front (suc n) (byte b ∷ x) more h = ap (λ (l : List Symbol). byte b ∷ l) (bytes-front n x more (omega arith))
bytes-front (suc n) (silence ∷ x) more h = absurd (omega arith)

-- The first n bytes of symbols are a frame, which stands in front, whatever follows.
pub record Begun (x : List Symbol) (n : ℕ) : Type 0 where
  pub whole : Frame (take n (bytes_before x))
  pub long : length (take n (bytes_before x)) ≡ n
  pub some : 0 < n
  pub fits : n ≤ length x
  pub there : (more : List Symbol) → take n (x ++ more) ≡ map byte (take n (bytes_before x))

-- So it is where symbols begin with a whole frame.
pub begins-whole : (x : List Symbol) (n : ℕ) → begins x ≡ Whole n → Begun x n
unfolding begins
begins-whole x n e =
    record {
      whole = frame;
      long = long;
      some = omega (arith, long, frame-least frame);
      fits = omega (arith, fits, bytes-length x);
      there = λ more. bytes-front n x more fits;
    }
  where
    known : recognised (bytes_before x) ≡ Whole n
    known = before-silence-whole (broken x) (recognised (bytes_before x)) n e

    fits : n ≤ length (bytes_before x)
    fits = whole-within (bytes_before x) n known

    frame : Frame (take n (bytes_before x))
    frame = whole-frame (bytes_before x) n known

    long : length (take n (bytes_before x)) ≡ n
    long = length-take-le n (bytes_before x) fits

-- A frame, as symbols, begins with itself.
pub begins-frame : (f : List ℕ) → Frame f → begins (map byte f) ≡ Whole (length f)
unfolding begins before_silence bytes_before
begins-frame f w = rw (bytes-from 0 f, rw append-nil at (frame-whole f [] w))

-- What stands after the symbol at a place.
drop-next : (line : List Symbol) (place : ℕ) {s : Symbol} {x : List Symbol} → drop place line ≡ s ∷ x → drop (suc place) line ≡ x
drop-next line place e = rw (← add-one, ← drop-drop 1, e)

-- The choice takes the frame at its place.
abbrev pub Takes : Choice → Found → Type 0
Takes taken g = taken g.place g.frame

-- The frame ends before the place, or begins there or later.
abbrev pub Beside : ℕ → Found → Type 0
Beside place g = (g.place + length g.frame ≤ place) ⊎ (place ≤ g.place)

-- No taken frame lies across the place.
abbrev pub Free : Choice → ℕ → Type 0
Free taken place = (g : Found) → Takes taken g → Beside place g

-- The frames listed are taken, whatever else is taken from one place on begins at another or later, and none lies across that; no place
-- between them that may still become a frame is left uncovered.
pub record Passed (line : List Symbol) (taken : Choice) (from to : ℕ) (fs : List Found) : Type 0 where
  pub found : (g : Found) → Memᴰ g fs → Takes taken g
  pub rest : (g : Found) → Takes taken g → from ≤ g.place → Memᴰ g fs ⊎ (to ≤ g.place)
  pub free : Free taken to
  pub given_up : (place : ℕ) → from ≤ place → place < to → MayBecome line place → CoveredByNone taken place → ⊥

-- A reading from a place on: where it stops, and that the bytes kept stand there, before what follows, and may still become a frame.
pub record Read (line more : List Symbol) (taken : Choice) (from : ℕ) (r : LineReading) : Type 0 where
  pub stop : ℕ
  pub passed : Passed line taken from stop r.frames
  pub begun : recognised r.kept ≡ Open
  pub there : drop stop line ≡ map byte r.kept ++ more

module _ (line more : List Symbol) (taken : Choice) where
  -- Places passed one part after another.
  passed_then : {from mid to : ℕ} {fs gs : List Found} →
      Passed line taken from mid fs → Passed line taken mid to gs → Passed line taken from to (fs ++ gs)
  passed_then {mid = mid} {fs = fs} {gs = gs} a b =
      record {
        found = λ g m. ⊎_elim (a.found g) (b.found g) (Memᴰ.append_cases fs m);
        rest = λ g t h. ⊎_elim (λ m. inl (Memᴰ.append_left gs m)) (λ l. ⊎_map (Memᴰ.append_right fs) (λ q. q) (b.rest g t l)) (a.rest g t h);
        free = b.free;
        given_up = λ place h l m u.
            elim (dec_lt place mid) [ yes c ↦ a.given_up place h c m u | no c ↦ b.given_up place (omega arith) l m u ];
      }

  -- A reading that goes on where places are passed.
  read-then : {from mid : ℕ} {fs : List Found} {r : LineReading} → Passed line taken from mid fs → Read line more taken mid r →
      Read line more taken from (record { frames = fs ++ r.frames; kept = r.kept })
  read-then p a = record { stop = a.stop; passed = passed_then p a.passed; begun = a.begun; there = a.there }

  -- A reading that finds no more.
  read-end : (from : ℕ) (kept : List ℕ) → Free taken from → recognised kept ≡ Open → drop from line ≡ map byte kept ++ more →
      Read line more taken from (record { frames = []; kept = kept })
  read-end from kept free begun there =
      record {
        stop = from;
        passed =
            record {
              found = λ g m. absurd (Memᴰ.not-nil m);
              rest = λ g t h. inr h;
              free = free;
              given_up = λ place h l m u. omega arith;
            };
        begun = begun;
        there = there;
      }

  -- Places are passed if what is listed is taken and ends in time, and whatever else is taken from there on comes after.
  passed_by : (from to : ℕ) (fs : List Found) → from ≤ to → Free taken from →
      ((g : Found) → Memᴰ g fs → Takes taken g × (g.place + length g.frame ≤ to)) →
      ((g : Found) → Takes taken g → from ≤ g.place → Memᴰ g fs ⊎ (to ≤ g.place)) →
      ((place : ℕ) → from ≤ place → place < to → MayBecome line place → CoveredByNone taken place → ⊥) → Passed line taken from to fs
  passed_by from to fs up free found rest given_up =
      record { found = λ g m. (found g m).0; rest = rest; free = λ g t. after g t (free g t); given_up = given_up }
    where
      after : (g : Found) → Takes taken g → Beside from g → Beside to g
      after g t (inl h) = inl (omega arith)
      after g t (inr h) = ⊎_map (λ m. (found g m).1) (λ l. l) (rest g t h)

  module _ (keeps : Keeps line taken) where
    -- A frame that stands at a free place is taken.
    free-taken : (place : ℕ) (f : List ℕ) → Free taken place → Stands line place f → taken place f
    free-taken place f free s = (keeps place f).1 (s, λ c. across c (free (record { place = c.start; frame = c.frame }) c.chosen))
      where
        across : (c : Covered taken place) → Beside place (record { place = c.start; frame = c.frame }) → ⊥
        across c (inl h) = omega arith
        across c (inr h) = omega arith

    module _ (place : ℕ) (x : List Symbol) (there : drop place line ≡ x ++ more) (free : Free taken place) where
      -- Whatever is taken from a place on comes after it, or stands in front of the symbols there.
      taken-from : (g : Found) → Takes taken g → place ≤ g.place → ((g.place ≡ place) × Begins x g.frame) ⊎ (place < g.place)
      taken-from g t h = elim (dec_lt place g.place) [ yes l ↦ inr l | no l ↦ inl (here (omega arith)) ]
        where
          here : g.place ≡ place → (g.place ≡ place) × Begins x g.frame
          here e =
              let s : Stands line place g.frame = subst (λ (p : ℕ). Stands line p g.frame) e ((keeps g.place g.frame).0 t).0 in
              (e, frame-begins x more g.frame s.whole (rw there at s.there))

      -- Where the place may still become a frame, so the symbols there begin.
      may_begin : (m : MayBecome line place) → Begins x (m.begun ++ m.completes.more)
      may_begin m =
          let y : List Symbol = map byte m.completes.more in
          let bytes : x ++ (more ++ y) ≡ map byte (m.begun ++ m.completes.more) =
          sym (append_assoc x more y) ∙ ap (λ (l : List Symbol). l ++ y) (sym there ∙ m.there) ∙ sym (map-append byte m.begun m.completes.more) in
          frame-begins x (more ++ y) (m.begun ++ m.completes.more) m.completes.whole (bytes-all (m.begun ++ m.completes.more) bytes)

      -- Where no frame can stand any more, nothing is taken.
      neither-passed : begins x ≡ Neither → Passed line taken place (suc place) []
      neither-passed e =
          passed_by place (suc place) [] (omega arith) free (λ g m. absurd (Memᴰ.not-nil m))
          (λ g t h. ⊎_map (λ b. absurd (never b.1)) (λ l. l) (taken-from g t h))
          (λ p h l m u. let s : p ≡ place = omega arith in never (may_begin (rw s at m)))
        where
          never : {f : List ℕ} → Begins x f → ⊥
          never (whole w _) = let z : ◌≡◌ {A = ℕ} 0 1 = cc in omega arith
          never (still o) = let z : ◌≡◌ {A = ℕ} 0 1 = cc in omega arith

      -- Where a whole frame stands, it is taken, and nothing else before its end.
      pub whole-passed : (n : ℕ) → begins x ≡ Whole n →
          Passed line taken place (place + n) (record { place = place; frame = take n (bytes_before x) } ∷ [])
      whole-passed n e =
          passed_by place (place + n) (first ∷ []) (omega arith) free found
          (λ g t h. ⊎_elim (λ b. inl (Memᴰ.head (same g b.0 b.1))) (λ l. inr (after g t l)) (taken-from g t h))
          (λ p h l m u. omega (arith, u place first.frame chosen h, head.long))
        where
          first : Found
          first = record { place = place; frame = take n (bytes_before x) }

          head : Begun x n
          head = begins-whole x n e

          chosen : Takes taken first
          chosen = free-taken place first.frame free (record { whole = head.whole; there = rw (head.long, there) (head.there more) })

          found : (g : Found) → Memᴰ g (first ∷ []) → Takes taken g × (g.place + length g.frame ≤ place + n)
          found g m = rw (Memᴰ.eq_of_singleton m) (chosen, omega (arith, head.long))

          same : (g : Found) → g.place ≡ place → Begins x g.frame → g ≡ first
          same g p (whole w q) = ap₂ (λ (p' : ℕ) (f : List ℕ). record { place = p'; frame = f }) p (cc)
          same g p (still o) = cc

          after : (g : Found) → Takes taken g → place < g.place → place + n ≤ g.place
          after g t l = elim (dec_lt g.place (place + n)) [ yes c ↦ absurd (covered c) | no c ↦ omega arith ]
            where
              covered : g.place < place + n → ⊥
              covered c =
                  ((keeps g.place g.frame).0 t).1
                  (record { start = place; frame = first.frame; chosen = chosen; earlier = l; reaches = rw head.long c })

    -- The scan at a free place, if it goes on as it should.
    reads-free : (place : ℕ) (s : Symbol) (x : List Symbol) → drop place line ≡ (s ∷ x) ++ more → Free taken place →
        ((k from : ℕ) → from ≡ suc place + k → k ≤ length x → Free taken from → Read line more taken from (scan (suc place) k x)) →
        Read line more taken place (scan place 0 (s ∷ x))
    unfolding scan begins reading_by before
    reads-free place s x there free onward = go (begins (s ∷ x)) refl
      where
        go : (v : Recognised) → begins (s ∷ x) ≡ v →
            Read line more taken place (reading_by v place (bytes_before (s ∷ x)) (λ k. scan (suc place) k x))
        go (Whole n) e =
            let head : Begun (s ∷ x) n = begins-whole (s ∷ x) n e in
            let p = whole-passed place (s ∷ x) there free n e in
            read-then p (onward (n - 1) (place + n) (omega arith) (omega arith) p.free)
        go Open e =
            let o = begins_open (s ∷ x) e in
            read-end place (bytes_before (s ∷ x)) free o.1 (there ∙ ap (λ (y : List Symbol). y ++ more) (sym (unbroken (s ∷ x) o.0)))
        go Neither e =
            let p = neither-passed place (s ∷ x) there free e in
            read-then p (onward 0 (suc place) (omega arith) (omega arith) p.free)

    -- The scan of symbols that stand from a place on, the first k of which are covered and end at a free place.
    pub reads : (place k from : ℕ) (x : List Symbol) → from ≡ place + k → k ≤ length x → drop place line ≡ x ++ more →
        Free taken from → Read line more taken from (scan place k x)
    unfolding scan
    reads place k from [] p h there free =
        let e : from ≡ place = omega arith in
        read-end from [] free empty_open (rw e there)
    reads place (suc k) from (s ∷ x) p h there free =
        reads (suc place) k from x (omega arith) (omega arith) (drop-next line place there) free
    reads place zero from (s ∷ x) p h there free =
        let e : from ≡ place = omega arith in
        rw e (reads-free place s x there (rw e at free) (λ k to q l. reads (suc place) k to x q l (drop-next line place there)))
