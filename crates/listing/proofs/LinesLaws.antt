-- Laws of the lines of several frames: their length, the lines of frames joined, and how far a loop that writes them has come.
use Rattle.std.specs.Prelude.{ℕ, ◌+◌, ◌-◌, ◌*◌, ◌≤◌, ◌≡◌, refl, List, [], ◌∷◌, ◌++◌, length, take, drop}
use Rattle.std.proofs.Common.{ap, sym, ◌∙◌, append-nil, append_assoc, arith, length-append, length-drop, drop_of_length-le, length-take-le}
use Rattle.std.proofs.Math.Seq.{append_snoc}
use borrow.Author.Rules.{part_to_end}
use Rattle.laws.specs.Memory.{outcome, over}
use Rattle.laws.specs.MemoryLaws.{over-length, lent-over}
use Rattle.frame.specs.Frame.{length_of}
use Rattle.frame.proofs.RecognitionLaws.{frame-spans, frame-one}
use Rattle.frame.specs.EndToEnd.{EndToEnd, none, next, cut_from, cut}
use Rattle.frame.proofs.EndToEndLaws.{NextFrame, cut-next}
use Rattle.listing.specs.Text.{Spans, text_of, text_length}
use Rattle.listing.proofs.TextLaws.{text-length, text_twice}
use Rattle.listing.specs.Lines.{lines_of}

-- The lines of frames joined are their lines joined.
pub lines-append : (a b : List (List ℕ)) → lines_of (a ++ b) ≡ lines_of a ++ lines_of b
unfolding lines_of
lines-append [] b = refl
lines-append (f ∷ a) b = rw (lines-append a b, append_assoc)

-- The lines of one frame more.
lines_more : (a : List (List ℕ)) (f : List ℕ) → lines_of (a ++ (f ∷ [])) ≡ lines_of a ++ text_of f
unfolding lines_of
lines_more a f = lines-append a (f ∷ []) ∙ ap (λ (l : List ℕ). lines_of a ++ l) (append-nil (text_of f))

-- The lines of frames that stand end to end are at most twice as long as their bytes.
pub lines_twice : {bytes : List ℕ} → EndToEnd bytes → length (lines_of (cut bytes)) ≤ 2 * length bytes
unfolding lines_of cut_from
lines_twice none = omega arith
lines_twice (next {frame} {rest} w more) =
    let first : length (text_of frame) ≤ 2 * length frame = text_twice frame (frame-one frame w) in
    let behind : length (lines_of (cut rest)) ≤ 2 * length rest = lines_twice more in
    rw cut-next (simp length-append (omega arith))

-- How far listing frames that stand end to end has come: the lines of the frames listed so far stand over the front of the memory, and
-- what is left from `at` on stands end to end and is cut into the frames still to be listed.
pub record Lining (frames m₀ m : List ℕ) (at used : ℕ) : Type 0 where
  pub listed : List (List ℕ)
  pub left : EndToEnd (drop at frames)
  pub split : cut frames ≡ listed ++ cut (drop at frames)
  pub within : at ≤ length frames
  pub memory : m ≡ over (lines_of listed) m₀
  pub bytes : used ≡ length (lines_of listed)
  pub room : used ≤ 2 * at
  pub size : length m ≡ length m₀

-- Before the first turn nothing is listed.
pub lining_start : (frames m : List ℕ) → EndToEnd frames → Lining frames m m 0 0
unfolding lines_of
lining_start frames m w =
    record {
      listed = [];
      left = w;
      split = refl;
      within = omega arith;
      memory = refl;
      bytes = refl;
      room = omega arith;
      size = refl;
    }

-- A turn, at the next frame.
module _ {frames m₀ m : List ℕ} {at used end : ℕ} (d : Lining frames m₀ m at used) (frame : NextFrame frames at end) where
  -- Its bytes, as they are lent, are as many as lie between the places.
  part-size : length (take (end - at) (drop at frames)) ≡ end - at
  part-size = length-take-le (end - at) (drop at frames) (omega (arith, length-drop at frames, frame.within))

  -- Its line is at most twice as long.
  part_twice : length (text_of (take (end - at) (drop at frames))) ≤ 2 * (end - at)
  part_twice = rw part-size at (text_twice _ (frame-one _ frame.frame))

  -- The line fits behind those written before.
  module _ (roomy : 2 * length frames ≤ length m₀) where
    pub lining_fits : used + length (text_of (take (end - at) (drop at frames))) ≤ length m₀
    lining_fits = omega (arith, part_twice, frame.within, frame.later, d.room)

    -- It can be written there.
    pub lining_asked :
        Spans (take (end - at) (drop at frames))
        × (text_length (length_of (take (end - at) (drop at frames))) ≤ length (take (length m - used) (drop used m)))
    lining_asked =
        let spans : Spans (take (end - at) (drop at frames)) = frame-spans frame.frame in
        (spans, rw (part_to_end m used, length-drop) (omega (arith, text-length _ spans, lining_fits, d.size)))

    -- Written there, it is one line more.
    pub lining_next : {y : List ℕ} {n : ℕ} →
        y ≡ over (text_of (take (end - at) (drop at frames))) (take (length m - used) (drop used m)) →
        n ≡ length (text_of (take (end - at) (drop at frames))) →
        Lining frames m₀ (take used m ++ (y ++ drop (length m - used) (drop used m))) end (used + n)
    lining_next {y} {n} written long =
        let f : List ℕ = take (end - at) (drop at frames) in
        let fs : List (List ℕ) = d.listed ++ (f ∷ []) in
        let more : lines_of fs ≡ lines_of d.listed ++ text_of f = lines_more d.listed f in
        let now : take used m ++ (y ++ drop (length m - used) (drop used m)) ≡ over (lines_of fs) m₀ =
        rw (written, d.memory, more) (lent-over used (lines_of d.listed) (text_of f) m₀ (sym d.bytes) lining_fits) in
        let all : length (lines_of fs) ≡ used + n = rw (more, length-append, long) (omega (arith, d.bytes)) in
        record {
          listed = fs;
          left = frame.rest;
          split = d.split ∙ ap (λ (l : List (List ℕ)). d.listed ++ l) frame.cuts ∙ sym (append_snoc d.listed f _);
          within = frame.within;
          memory = now;
          bytes = sym all;
          room = omega (arith, long, part_twice, frame.later, d.room);
          size = ap length now ∙ over-length (lines_of fs) m₀ (omega (arith, all, long, lining_fits));
        }

-- After the last turn the lines of all the frames are written.
pub lining_end : {frames m₀ m : List ℕ} {at used : ℕ} → Lining frames m₀ m at used → length frames ≤ at →
    outcome used m ≡ outcome (length (lines_of (cut frames))) (over (lines_of (cut frames)) m₀)
unfolding cut_from
lining_end {frames} {m₀} {m} {at} {used} d h =
    let none : drop at frames ≡ [] = drop_of_length-le frames h in
    let all : cut frames ≡ d.listed = d.split ∙ ap (λ (l : List ℕ). d.listed ++ cut l) none ∙ append-nil d.listed in
    rw (all, d.bytes, d.memory)
