-- How the reading of bytes goes on, by what they begin with.
use Rattle.std.specs.Prelude.{ℕ, zero, suc, ◌+◌, ◌-◌, ◌≤◌, ◌<◌, ◌≡◌, refl, List, [], ◌∷◌, ◌++◌, Bool, true, false, length, take, drop}
use Rattle.std.proofs.Common.{zero-le, ap, sym, ◌∙◌, append-nil, append_assoc, arith, not-suc-le-zero, le_of_suc-le-suc, add-zero, add-suc, suc-add, add-one, sub-one, length-append, length-drop, drop-drop, length-take-le}
use Rattle.std.proofs.Math.Seq.{take-append_seam, drop-append_seam}
use Rattle.laws.specs.Memory.{over}
use Rattle.laws.specs.MemoryLaws.{over-length}
use Rattle.frame.specs.Recognition.{recognised}
use Rattle.frame.proofs.RecognitionLaws.{empty_open, whole-within, whole-frame, frame-least}
use Rattle.frame.specs.declared.Recognised.{Recognised}
use Rattle.frame.specs.declared.Recognised.TheVariants.{Whole, Open, Neither}
use Rattle.line_terms.specs.Line.{byte}
use Rattle.line_terms.specs.Places.{Found, joined}
use Rattle.line_terms.proofs.PlaceLaws.{joined-append}
use Rattle.line_terms.specs.Scan.{LineReading, scan, begins, bytes_before, broken, before_silence, reading_by, before}
use Rattle.line_block.specs.Drain.{symbols, reading_from, behind}

symbols-bytes : (x : List ℕ) (c : Bool) → bytes_before (symbols x c) ≡ x
unfolding symbols bytes_before
symbols-bytes [] true = refl
symbols-bytes [] false = refl
symbols-bytes (b ∷ x) true = ap (λ (l : List ℕ). b ∷ l) (symbols-bytes x true)
symbols-bytes (b ∷ x) false = ap (λ (l : List ℕ). b ∷ l) (symbols-bytes x false)

symbols-broken : (x : List ℕ) (c : Bool) → broken (symbols x c) ≡ c
unfolding symbols broken
symbols-broken [] true = refl
symbols-broken [] false = refl
symbols-broken (b ∷ x) true = symbols-broken x true
symbols-broken (b ∷ x) false = symbols-broken x false

symbols_begin : (x : List ℕ) (c : Bool) → begins (symbols x c) ≡ before_silence c (recognised x)
unfolding begins
symbols_begin x c = rw (symbols-bytes x c, symbols-broken x c)

symbols_cons : (b : ℕ) (x : List ℕ) (c : Bool) → symbols (b ∷ x) c ≡ byte b ∷ symbols x c
unfolding symbols
symbols_cons b x true = refl
symbols_cons b x false = refl

-- The symbols that a frame covers are passed over.
passed : (p k : ℕ) (x : List ℕ) (c : Bool) → k ≤ length x → scan p k (symbols x c) ≡ reading_from (p + k) (drop k x) c
unfolding reading_from scan
passed p zero x c h = rw add-zero
passed p (suc k) [] c h = absurd (not-suc-le-zero h)
passed p (suc k) (b ∷ x) c h = rw symbols_cons (passed (suc p) k x c (le_of_suc-le-suc h) ∙ ap (λ (n : ℕ). reading_from n (drop k x) c) (suc-add p k ∙ sym (add-suc p k)))

-- One step of the reading of bytes, of which there are some.
reading_cons : (p b : ℕ) (x : List ℕ) (c : Bool) →
    reading_from p (b ∷ x) c ≡ reading_by (before_silence c (recognised (b ∷ x))) p (b ∷ x) (λ k. scan (suc p) k (symbols x c))
unfolding reading_from scan
reading_cons p b x c =
    let e : begins (byte b ∷ symbols x c) ≡ before_silence c (recognised (b ∷ x)) = rw symbols_cons at (symbols_begin (b ∷ x) c) in
    let f : bytes_before (byte b ∷ symbols x c) ≡ b ∷ x = rw symbols_cons at (symbols-bytes (b ∷ x) c) in
    rw symbols_cons (λ i. reading_by (e i) p (f i) (λ k. scan (suc p) k (symbols x c)))

-- Where nothing is left, nothing is found.
pub reading-end : (p : ℕ) (c : Bool) → reading_from p [] c ≡ record { frames = []; kept = [] }
unfolding reading_from scan symbols begins broken bytes_before reading_by before_silence
reading-end p true = rw empty_open
reading-end p false = refl

-- A whole frame found, whether or not a silence follows.
found-whole : (c : Bool) (v : Recognised) (n p : ℕ) (bytes : List ℕ) (go : ℕ → LineReading) → v ≡ Whole n →
    reading_by (before_silence c v) p bytes go ≡ before p (take n bytes) (go (n - 1))
unfolding reading_by before_silence
found-whole true v n p bytes go e = rw e
found-whole false v n p bytes go e = rw e

-- A whole frame is found and passed over.
pub reading-whole : (p n : ℕ) (x : List ℕ) (c : Bool) → recognised x ≡ Whole n →
    reading_from p x c ≡ before p (take n x) (reading_from (p + n) (drop n x) c)
reading-whole p n [] c e =
    let z : ◌≡◌ {A = Recognised} Open (Whole n) = sym empty_open ∙ e in
    let w : ◌≡◌ {A = ℕ} 0 1 = cc in absurd (omega arith)
reading-whole p zero (b ∷ x) c e = absurd (not-suc-le-zero (frame-least (whole-frame (b ∷ x) 0 e)))
reading-whole p (suc n) (b ∷ x) c e =
    let h : suc n ≤ suc (length x) = whole-within (b ∷ x) (suc n) e in
    reading_cons p b x c
    ∙ found-whole c (recognised (b ∷ x)) (suc n) p (b ∷ x) (λ k. scan (suc p) k (symbols x c)) e
    ∙ ap (before p (b ∷ take n x))
    (ap (λ (k : ℕ). scan (suc p) k (symbols x c)) (sub-one (suc n))
    ∙ passed (suc p) n x c (le_of_suc-le-suc h)
    ∙ ap (λ (m : ℕ). reading_from m (drop n x) c) (suc-add p n ∙ sym (add-suc p n)))

-- A byte that begins nothing is dropped.
pub reading-neither : (p : ℕ) (x : List ℕ) (c : Bool) → 0 < length x → before_silence c (recognised x) ≡ Neither →
    reading_from p x c ≡ reading_from (p + 1) (drop 1 x) c
unfolding reading_by reading_from
reading-neither p [] c h e = absurd (not-suc-le-zero h)
reading-neither p (b ∷ x) c h e = reading_cons p b x c ∙ (rw (e, add-one))

-- An unfinished frame is kept.
pub reading_open : (p : ℕ) (x : List ℕ) → recognised x ≡ Open → reading_from p x false ≡ record { frames = []; kept = x }
unfolding reading_by before_silence
reading_open p [] e = reading-end p false
reading_open p (b ∷ x) e = reading_cons p b x false ∙ rw e

-- Before a silence nothing is kept.
by_closed : (v : Recognised) (p : ℕ) (bytes : List ℕ) (from : ℕ → LineReading) → ((k : ℕ) → (from k).kept ≡ []) →
    (reading_by (before_silence true v) p bytes from).kept ≡ []
unfolding reading_by before_silence before
by_closed (Whole n) p bytes from h = h (n - 1)
by_closed Open p bytes from h = h 0
by_closed Neither p bytes from h = h 0

scan-closed : (x : List ℕ) (p k : ℕ) → (scan p k (symbols x true)).kept ≡ []
unfolding scan symbols reading_from
scan-closed [] p zero = ap (λ (r : LineReading). r.kept) (reading-end p true)
scan-closed [] p (suc k) = refl
scan-closed (b ∷ x) p zero = ap (λ (r : LineReading). r.kept) (reading_cons p b x true) ∙ by_closed (recognised (b ∷ x)) p (b ∷ x) (λ k. scan (suc p) k (symbols x true)) (scan-closed x (suc p))
scan-closed (b ∷ x) p (suc k) = scan-closed x (suc p) k

pub reading-closed : (p : ℕ) (x : List ℕ) → (reading_from p x true).kept ≡ []
unfolding reading_from
reading-closed p x = scan-closed x p 0

-- How far draining has come: the frames found so far stand over the front of the memory and are counted, and the reading is they and
-- then the reading from `at` on. No more bytes are written than were passed.
pub record Draining (line : List ℕ) (closed : Bool) (m₀ m : List ℕ) (at written count : ℕ) : Type 0 where
  pub found : List Found
  pub split : reading_from 0 line closed ≡ behind found (reading_from at (drop at line) closed)
  pub within : at ≤ length line
  pub memory : m ≡ over (joined found) m₀
  pub bytes : written ≡ length (joined found)
  pub frames : count ≡ length found
  pub room : written ≤ at
  pub few : count ≤ at
  pub size : length m ≡ length m₀

-- Before the first turn nothing is found.
pub draining_start : (line : List ℕ) (closed : Bool) (m : List ℕ) → Draining line closed m m 0 0 0
unfolding behind joined
draining_start line closed m =
    record {
      found = [];
      split = refl;
      within = zero-le;
      memory = refl;
      bytes = refl;
      frames = refl;
      room = zero-le;
      few = zero-le;
      size = refl;
    }

-- A frame found is one more behind those found before.
behind_more : (fs : List Found) (p : ℕ) (f : List ℕ) (r : LineReading) →
    behind fs (before p f r) ≡ behind (fs ++ (record { place = p; frame = f } ∷ [])) r
unfolding behind before
behind_more fs p f r = λ i. record { frames = sym (append_assoc fs (record { place = p; frame = f } ∷ []) r.frames) i; kept = r.kept }

joined-more : (fs : List Found) (p : ℕ) (f : List ℕ) → joined (fs ++ (record { place = p; frame = f } ∷ [])) ≡ joined fs ++ f
unfolding joined
joined-more fs p f = joined-append fs (record { place = p; frame = f } ∷ []) ∙ ap (λ (l : List ℕ). joined fs ++ l) (append-nil f)

-- Bytes put behind those that stand over the front stand over it with them.
put-over : (xs ys m : List ℕ) → let o = over xs m in
    take (length xs) o ++ (ys ++ drop (length ys) (drop (length xs) o)) ≡ over (xs ++ ys) m
put-over xs ys m = rw (take-append_seam, drop-append_seam, drop-drop, length-append, append_assoc)

module _ (line : List ℕ) (closed : Bool) (m₀ m : List ℕ) (at written count : ℕ) (d : Draining line closed m₀ m at written count) where
  -- A turn that drops a byte.
  pub draining_next : at < length line → before_silence closed (recognised (drop at line)) ≡ Neither → Draining line closed m₀ m (at + 1) written count
  draining_next h e =
      let some : 0 < length (drop at line) = simp length-drop (omega arith) in
      record {
        found = d.found;
        split = d.split ∙ ap (behind d.found) (reading-neither at (drop at line) closed some e ∙ ap (λ (l : List ℕ). reading_from (at + 1) l closed) (drop-drop 1 at line));
        within = omega arith;
        memory = d.memory;
        bytes = d.bytes;
        frames = d.frames;
        room = let l : written ≤ at = d.room in omega arith;
        few = let l : count ≤ at = d.few in omega arith;
        size = d.size;
      }

  -- A whole frame at the place lies within the line, and its bytes within the memory.
  module _ (k : ℕ) (e : recognised (drop at line) ≡ Whole k) where
    pub whole-fits : at + k ≤ length line
    whole-fits =
        let w : k ≤ length (drop at line) = whole-within (drop at line) k e in
        let l : length (drop at line) ≡ length line - at = length-drop at line in
        let h : at ≤ length line = d.within in
        omega arith

    pub whole-least : 12 ≤ k
    whole-least =
        let n : length (take k (drop at line)) ≡ k = length-take-le k (drop at line) (whole-within (drop at line) k e) in
        rw n at (frame-least (whole-frame (drop at line) k e))

    -- A turn that delivers a frame.
    pub draining_whole : (f : List ℕ) (size : ℕ) → f ≡ take k (drop at line) → size ≡ k → length line ≤ length m₀ →
        Draining line closed m₀ (take written m ++ (f ++ drop size (drop written m))) (at + k) (written + k) (count + 1)
    draining_whole f w same wide roomy =
        let n : length f ≡ k = ap length same ∙ length-take-le k (drop at line) (whole-within (drop at line) k e) in
        let fits : at + k ≤ length line = whole-fits in
        let r : written ≤ at = d.room in
        let b : written ≡ length (joined d.found) = d.bytes in
        let fs : List Found = d.found ++ (record { place = at; frame = f } ∷ []) in
        let j : joined fs ≡ joined d.found ++ f = joined-more d.found at f in
        let long : w ≡ length f = wide ∙ sym n in
        let now : take written m ++ (f ++ drop w (drop written m)) ≡ over (joined fs) m₀ = rw (d.memory, j, b, long) (put-over (joined d.found) f m₀) in
        let size : length (joined fs) ≡ written + k = rw (j, length-append) (omega arith) in
        record {
          found = fs;
          split = d.split ∙ ap (behind d.found) (reading-whole at k (drop at line) closed e ∙ (λ i. before at (sym same i) (reading_from (at + k) (drop-drop k at line i) closed))) ∙ behind_more d.found at f (reading_from (at + k) (drop (at + k) line) closed);
          within = fits;
          memory = now;
          bytes = sym size;
          frames = let c : count ≡ length d.found = d.frames in rw length-append (omega arith);
          room = omega arith;
          few = let l : count ≤ at = d.few in let t : 12 ≤ k = whole-least in omega arith;
          size = ap length now ∙ over-length (joined fs) m₀ (omega arith);
        }

  -- A turn that gives up an unfinished frame before a silence.
  pub draining_closed : at < length line → closed ≡ true → recognised (drop at line) ≡ Open → Draining line closed m₀ m (at + 1) written count
  unfolding before_silence
  draining_closed h t e = draining_next h (rw (e, t))
