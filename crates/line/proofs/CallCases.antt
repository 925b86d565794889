-- What a call comes to, by what the kept bytes and the symbol are: the cases of `called` that the receiver's code tells apart.
use Prim.Native.Nat.{ℕ, ◌+◌, ◌≤◌, ◌<◌}
use Rattle.frame.specs.declared.refusal.Refusal.TheVariants.{OutOfRange, ShortMemory}
use Rattle.line.specs.Answer.{handed}
use Rattle.std.specs.Prelude.{◌≡◌, true, Err}
use Rattle.std.proofs.Math.Path.{refl, sym, ap}
use Rattle.std.proofs.Common.{◌∙◌, arith}
use mathlib.Core.List.{List, [], ◌∷◌, ◌++◌, append-nil, map-append}
use Rattle.std.proofs.Math.Bool.{false}
use Rattle.std.proofs.Math.ListN.{length, take, drop, set, length-append, drop_of_length-le}
use Rattle.std.proofs.Math.Seq.{take_all, length-take-le}
use borrow.Author.Tests.{le-leb, lt-leb}
use Rattle.laws.specs.Memory.{Outcome, outcome, over}
use Rattle.laws.specs.MemoryLaws.{over-next, over-itself}
use Rattle.frame.specs.Recognition.{recognised}
use Rattle.frame.proofs.RecognitionLaws.{open_most}
use Rattle.frame.specs.declared.Recognised.TheVariants.{Whole, Open, Neither}
use Rattle.line_verdict.specs.VerdictOnLaws.{within-most}
use Rattle.line_terms.specs.Line.{Symbol, byte, silence}
use Rattle.line_terms.specs.Places.{joined}
use Rattle.line_terms.specs.Scan.{LineReading, before, before_silence}
use Rattle.line.specs.Receiver.{kept_bytes, kept_with, within_range, refused, reading_with, keeping, delivered, called}
use Rattle.line_block.specs.Drain.{symbols, reading_from}
use Rattle.line_block.proofs.DrainLaws.{reading-end, reading-whole, reading-neither, reading_open, reading-closed}
use Rattle.line.specs.Rescan.{Rescans}
use Rattle.line.specs.declared.Receiver.{Receiver}
use Rattle.line.specs.declared.Received.{Received}
use Rattle.line.specs.declared.drain.Rescanned.{Rescanned}

-- What an answer with these parts is.
abbrev pub answered : Receiver → ℕ → ℕ → List ℕ → Outcome Received
answered r bytes frames m = outcome (record { receiver = r; answer = handed bytes frames }) m

module _ (r : Receiver) (s : Symbol) (m : List ℕ) where
  -- A receiver out of its range is refused with 16.
  pub call-bad : within_range r ≡ false → outcome (record { receiver = r; answer = Err OutOfRange }) m ≡ called s r m
  unfolding called refused
  call-bad e = rw e

  module _ (good : within_range r ≡ true) where
    -- Too little memory is refused with 1.
    pub call-short : length m < 212 → outcome (record { receiver = r; answer = Err ShortMemory }) m ≡ called s r m
    unfolding called refused
    call-short h = rw (good, lt-leb 212 (length m) h)

    -- Any other call delivers what the kept bytes read as with the symbol.
    pub call-reads : 212 ≤ length m → called s r m ≡ delivered (reading_with r s) r m
    unfolding called
    call-reads h = rw (good, le-leb 212 (length m) h)

-- The reading with a byte, and with a silence, as a reading of bytes.
pub reading-byte : (r : Receiver) (b : ℕ) → reading_with r (byte b) ≡ reading_from 0 (kept_with r b) false
unfolding reading_with reading_from symbols
reading-byte r b = rw map-append

pub reading-silence : (r : Receiver) → reading_with r silence ≡ reading_from 0 (kept_bytes r) true
unfolding reading_with reading_from symbols
reading-silence r = refl

-- What is left where kept bytes are read so is what a call that delivers that reading leaves.
rescans_delivers : (d : LineReading) (r : Receiver) (kept m m₁ : List ℕ) (n : Rescanned) → Rescans d r.kept kept m m₁ n →
    answered (record { kept = kept; count = n.count }) n.bytes n.frames m₁ ≡ delivered d r m
unfolding delivered keeping
rescans_delivers d r kept m m₁ n w = λ i.
    outcome
    (record {
      receiver = record { kept = w.rest i; count = w.count i };
      answer = handed (w.bytes i) (w.frames i);
    })
    (w.memory i)

module _ (r : Receiver) (b : ℕ) (m : List ℕ) (good : within_range r ≡ true) (roomy : 212 ≤ length m) where
  -- With a byte with which the kept bytes begin no frame they are read anew.
  pub call-begins-none : (kept m₁ : List ℕ) (n : Rescanned) → Rescans (reading_from 0 (kept_with r b) false) r.kept kept m m₁ n →
      answered (record { kept = kept; count = n.count }) n.bytes n.frames m₁ ≡ called (byte b) r m
  call-begins-none kept m₁ n w =
      rescans_delivers (reading_from 0 (kept_with r b) false) r kept m m₁ n w
      ∙ sym (call-reads r (byte b) m good roomy ∙ ap (λ (q : LineReading). delivered q r m) (reading-byte r b))

  -- A byte that begins no frame is skipped where nothing is kept.
  pub call-skips : r.count ≡ 0 → recognised (kept_with r b) ≡ Neither → answered r 0 0 m ≡ called (byte b) r m
  unfolding kept_bytes before_silence joined
  call-skips h e =
      let none : kept_with r b ≡ b ∷ [] = ap (λ (n : ℕ). take n r.kept ++ (b ∷ [])) h in
      let d : reading_from 0 (kept_with r b) false ≡ record { frames = []; kept = [] } =
      ap (λ (l : List ℕ). reading_from 0 l false) none
      ∙ reading-neither 0 (b ∷ []) false (omega arith) (ap (before_silence false) (ap recognised (sym none) ∙ e))
      ∙ reading-end _ false in
      (λ i. answered (record { kept = r.kept; count = h i }) 0 0 m)
      ∙ call-begins-none r.kept m (record { count = 0; bytes = 0; frames = 0 })
      (rw d (record { rest = refl; count = refl; memory = refl; bytes = refl; frames = refl }))

  -- A byte with which the kept bytes are still open is kept.
  pub call_still_open : length r.kept ≡ 211 → recognised (kept_with r b) ≡ Open →
      answered (record { kept = set r.kept r.count b; count = r.count + 1 }) 0 0 m ≡ called (byte b) r m
  unfolding kept_bytes joined
  call_still_open k e =
      let most : r.count ≤ 211 = within-most r.kept r.count good in
      let n : length (take r.count r.kept) ≡ r.count = length-take-le r.count r.kept (omega arith) in
      let l : length (kept_with r b) ≡ r.count + 1 = simp length-append (rw n) in
      let fits : length (kept_with r b) ≤ 211 = open_most (kept_with r b) e in
      let stored : set r.kept r.count b ≡ over (kept_with r b) r.kept =
      ap (λ (q : List ℕ). set q r.count b) (sym (over-itself r.count r.kept (omega arith)))
      ∙ over-next (take r.count r.kept) r.kept r.count b n (omega arith) in
      call-begins-none (set r.kept r.count b) m (record { count = r.count + 1; bytes = 0; frames = 0 })
      (rw (reading_open 0 (kept_with r b) e) (record { rest = stored; count = sym l; memory = refl; bytes = refl; frames = refl }))

  -- A byte that completes a frame delivers it.
  pub call-whole : length r.kept ≡ 211 → recognised (kept_with r b) ≡ Whole (r.count + 1) → (m₁ : List ℕ) → m₁ ≡ over (kept_with r b) m →
      answered (record { kept = r.kept; count = 0 }) (r.count + 1) 1 m₁ ≡ called (byte b) r m
  unfolding kept_bytes joined before
  call-whole k e m₁ f =
      let most : r.count ≤ 211 = within-most r.kept r.count good in
      let n : length (take r.count r.kept) ≡ r.count = length-take-le r.count r.kept (omega arith) in
      let y : List ℕ = kept_with r b in
      let l : length (kept_with r b) ≡ r.count + 1 = simp length-append (rw n) in
      let all : take (r.count + 1) (kept_with r b) ≡ kept_with r b = take_all (r.count + 1) (kept_with r b) (omega arith) in
      let none : drop (r.count + 1) (kept_with r b) ≡ [] = drop_of_length-le (kept_with r b) {i = r.count + 1} (omega arith) in
      let d : reading_from 0 (kept_with r b) false ≡ record { frames = record { place = 0; frame = kept_with r b } ∷ []; kept = [] } =
      reading-whole 0 (r.count + 1) (kept_with r b) false e
      ∙ (λ i. before 0 (all i) (reading_from (0 + (r.count + 1)) (none i) false))
      ∙ ap (before 0 (kept_with r b)) (reading-end (0 + (r.count + 1)) false) in
      call-begins-none r.kept m₁ (record { count = 0; bytes = r.count + 1; frames = 1 })
      (rw d (record {
        rest = refl;
        count = refl;
        memory = f ∙ ap (λ (q : List ℕ). over q m) (sym (append-nil (kept_with r b)));
        bytes = sym (ap length (append-nil (kept_with r b)) ∙ l);
        frames = refl;
      }))

-- A silence closes what is kept.
pub call-silent : (r : Receiver) (m m₁ : List ℕ) (n : Rescanned) → within_range r ≡ true → 212 ≤ length m →
    Rescans (reading_from 0 (kept_bytes r) true) r.kept r.kept m m₁ n →
    answered (record { kept = r.kept; count = 0 }) n.bytes n.frames m₁ ≡ called silence r m
call-silent r m m₁ n good roomy w =
    let none : n.count ≡ 0 = w.count ∙ ap length (reading-closed 0 (kept_bytes r)) in
    (λ i. answered (record { kept = r.kept; count = sym none i }) n.bytes n.frames m₁)
    ∙ rescans_delivers (reading_from 0 (kept_bytes r) true) r r.kept m m₁ n w
    ∙ sym (call-reads r silence m good roomy ∙ ap (λ (q : LineReading). delivered q r m) (reading-silence r))
