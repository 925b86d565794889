-- Laws of frames that stand end to end: bytes are cut where the first frame ends, and what is left stands end to end again.
use Rattle.std.specs.Prelude.{◌≡◌, ℕ, zero, suc, ◌+◌, ◌-◌, ◌<◌, ◌≤◌, Bool, true, false, List, [], ◌∷◌, ◌++◌, length, take, drop, nat_le, refl}
use Rattle.std.proofs.Common.{sym, ap, ◌∙◌, not-suc-le-zero, arith, length-append, length-drop, take_at, drop_at, drop-drop, le-leb, leb-true}
use Rattle.laws.specs.All.{AllOf}
use Rattle.laws.specs.Test.{pick}
use Rattle.frame.specs.Frame.{Frame, length_of}
use Rattle.frame.proofs.StageLaws.{same_length}
use Rattle.frame.proofs.RecognitionLaws.{frame-spans, frame-least}
use Rattle.frame.specs.EndToEnd.{EndToEnd, none, next, behind_each_other, cut_from, cut, next_end}

-- Bytes that are cut off already are passed over.
cut-passes : (k : ℕ) (passed rest : List ℕ) → k ≡ length passed → cut_from k (passed ++ rest) ≡ cut rest
unfolding cut_from
cut-passes zero [] rest e = refl
cut-passes (suc k) [] rest e = absurd (omega arith)
cut-passes zero (b ∷ passed) rest e = absurd (omega arith)
cut-passes (suc k) (b ∷ passed) rest e = cut-passes k passed rest (omega arith)

-- The data length of bytes that begin with a frame is the frame's.
front_length : (f rest : List ℕ) → Frame f → 12 + length_of (f ++ rest) ≡ length f
front_length f rest w =
    let ten : 9 < length f = omega (arith, frame-least w) in
    rw (same_length f rest ten) (sym (frame-spans w))

-- A frame in front is the first that is cut off.
pub cut-next : (f rest : List ℕ) → Frame f → cut (f ++ rest) ≡ f ∷ cut rest
unfolding cut_from
cut-next [] rest w = absurd (omega (arith, frame-least w))
cut-next (b ∷ f) rest w =
    let size : 12 + length_of (b ∷ (f ++ rest)) ≡ suc (length f) = front_length (b ∷ f) rest w in
    let more : 11 + length_of (b ∷ (f ++ rest)) ≡ length f = omega arith in
    let first : take (12 + length_of (b ∷ (f ++ rest))) (b ∷ (f ++ rest)) ≡ b ∷ f = take_at (b ∷ f) rest _ (sym size) in
    rw (first, cut-passes _ f rest more)

-- Frames one behind the other are cut into the same frames again.
pub cut_again : (fs : List (List ℕ)) → AllOf Frame fs → cut (behind_each_other fs) ≡ fs
unfolding cut_from behind_each_other
cut_again [] w = refl
cut_again (f ∷ fs) w = cut-next f (behind_each_other fs) w.0 ∙ ap (λ (l : List (List ℕ)). f ∷ l) (cut_again fs w.1)

-- Bytes that a frame begins, behind which frames stand end to end.
pub record Fronted (bytes : List ℕ) : Type 0 where
  pub within : 12 + length_of bytes ≤ length bytes
  pub frame : Frame (take (12 + length_of bytes) bytes)
  pub rest : EndToEnd (drop (12 + length_of bytes) bytes)
  pub cuts : cut bytes ≡ take (12 + length_of bytes) bytes ∷ cut (drop (12 + length_of bytes) bytes)

-- Where there are bytes, the frame that their data length says stands in front.
pub end_to_end_front : {bytes : List ℕ} → EndToEnd bytes → 0 < length bytes → Fronted bytes
end_to_end_front none h = absurd (not-suc-le-zero h)
end_to_end_front (next {frame} {rest} w more) h =
    let size : 12 + length_of (frame ++ rest) ≡ length frame = front_length frame rest w in
    let first : take (12 + length_of (frame ++ rest)) (frame ++ rest) ≡ frame = take_at frame rest _ (sym size) in
    let behind : drop (12 + length_of (frame ++ rest)) (frame ++ rest) ≡ rest = drop_at frame rest _ (sym size) in
    record {
      within = omega (arith, length-append frame rest);
      frame = rw first w;
      rest = rw behind more;
      cuts = rw (first, behind) (cut-next frame rest w);
    }

-- Where there are bytes from a place on, the next end lies behind it and within them, whatever they are.
pub next-end-within : (bytes : List ℕ) (at : ℕ) → at < length bytes → (at < next_end bytes at) × (next_end bytes at ≤ length bytes)
unfolding next_end
next-end-within bytes at h = by (nat_le (at + 12 + length_of (drop at bytes)) (length bytes)) refl
  where
    by : (t : Bool) → nat_le (at + 12 + length_of (drop at bytes)) (length bytes) ≡ t →
        (at < pick t (at + 12 + length_of (drop at bytes)) (length bytes)) × (pick t (at + 12 + length_of (drop at bytes)) (length bytes) ≤ length bytes)
    by true e = (omega arith, leb-true _ _ e)
    by false e = (h, omega arith)

-- The next frame of frames that stand end to end from a place on: the bytes from there to its end are the first that is cut off, and
-- cutting goes on behind it.
pub record NextFrame (bytes : List ℕ) (at end : ℕ) : Type 0 where
  pub later : at < end
  pub within : end ≤ length bytes
  pub frame : Frame (take (end - at) (drop at bytes))
  pub rest : EndToEnd (drop end bytes)
  pub cuts : cut (drop at bytes) ≡ take (end - at) (drop at bytes) ∷ cut (drop end bytes)

-- Where there are bytes from the place on, it ends at the next end.
pub next-frame : (bytes : List ℕ) (at : ℕ) → EndToEnd (drop at bytes) → at < length bytes → NextFrame bytes at (next_end bytes at)
unfolding next_end
next-frame bytes at w h =
    let front : Fronted (drop at bytes) = end_to_end_front w (rw length-drop (omega arith)) in
    let fits : at + 12 + length_of (drop at bytes) ≤ length bytes = omega (arith, front.within, length-drop at bytes) in
    rw (le-leb _ _ fits) (ends front fits)
  where
    ends : Fronted (drop at bytes) → at + 12 + length_of (drop at bytes) ≤ length bytes → NextFrame bytes at (at + 12 + length_of (drop at bytes))
    ends front fits =
        let size : at + 12 + length_of (drop at bytes) - at ≡ 12 + length_of (drop at bytes) = omega arith in
        let on : at + (12 + length_of (drop at bytes)) ≡ at + 12 + length_of (drop at bytes) = omega arith in
        let behind : drop (12 + length_of (drop at bytes)) (drop at bytes) ≡ drop (at + 12 + length_of (drop at bytes)) bytes =
        drop-drop (12 + length_of (drop at bytes)) at bytes ∙ ap (λ (k : ℕ). drop k bytes) on in
        record {
          later = omega arith;
          within = fits;
          frame = rw size front.frame;
          rest = rw behind at front.rest;
          cuts = rw (size, ← behind) front.cuts;
        }
