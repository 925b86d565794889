-- Laws of frames put to a meter: a reply is one frame and so is what it replies to, the meter keeps its size and its ranges, and the lines of the
-- replies are at most 35 times as long as the frames.
use Rattle.laws.specs.ResultLaws.{ok_same}
use Rattle.std.specs.Prelude.{ℕ, zero, suc, ◌+◌, ◌*◌, ◌≤◌, ◌≡◌, take, drop, replicate, eqb, Err, Ok, Result}
use Rattle.frame.specs.declared.refusal.Refusal.{Refusal}
use Rattle.std.proofs.Math.Path.{refl}
use Rattle.std.proofs.Common.{sym, ap, ◌∙◌, length-append, take-append-drop}
use mathlib.Core.List.{List, [], ◌∷◌, ◌++◌, append-nil, append_assoc}
use native.Mathlib.Omega.{arith}
use Rattle.std.proofs.Math.ListN.{length}
use Rattle.laws.specs.All.{AllOf}
use Rattle.laws.specs.TestLaws.{pick_cases}
use Rattle.frame.specs.Frame.{Frame, length_of, data_of, most_frame}
use Rattle.frame.proofs.RecognitionLaws.{frame-spans, frame-least, frame-most}
use Rattle.frame.specs.EndToEnd.{cut_from, cut}
use Rattle.energy.specs.Energies.{Rows}
use Rattle.listing.specs.Text.{text_of, text_length}
use Rattle.listing.proofs.TextLaws.{text-length}
use Rattle.listing.specs.Lines.{lines_of}
use Rattle.listing.proofs.LinesLaws.{lines-append}
use Rattle.meter.specs.Meter.{MeterSized}
use Rattle.meter.proofs.MeterLaws.{untouched-sized}
use Rattle.meter.proofs.MeterAfterLaws.{sized-after, reply-fits}
use Rattle.meter.proofs.Ranges.{InRanges}
use Rattle.meter.proofs.Calls.{after, frame, keeps-within}
use Rattle.meter.specs.Answer.{reply_data, value_asked, delivered, answered}
use Rattle.meter.proofs.AnswerLaws.{Answers, refuses, errs, carries, answers, not-replied}
use Rattle.meter.proofs.Replies.{reply-from-own}
use Rattle.meter.specs.declared.Meter.{Meter}
use Rattle.replay_frames.specs.Putting.{reply_in, put, reply_to, meter_after, replies_to}

-- The line of a frame is no longer than that of one with 200 data bytes.
pub line-most : {f : List ℕ} → Frame f → length (text_of f) ≤ 417
unfolding text_length
line-most {f} w =
    let most : text_length (length_of f) ≤ 17 + 2 * length_of f =
    pick_cases (λ (n : ℕ). n ≤ 17 + 2 * length_of f) (eqb (length_of f) 0) (λ _. omega arith) (λ _. omega arith) in
    omega (arith, text-length f (frame-spans w), frame-spans w, frame-most w)

-- There is at most one reply.
pub reply-few : (answer : Result ℕ Refusal) (memory : List ℕ) → length (reply_in answer memory) ≤ 1
reply-few (Ok n) memory = omega arith
reply-few (Err n) memory = omega arith

module _ (bytes : List ℕ) (m : Meter) (forward reverse : Rows) where
  -- A frame leaves a meter within its ranges.
  pub put-within : InRanges m forward reverse → InRanges (put bytes m forward reverse).answer.meter forward reverse
  unfolding put after
  put-within h = keeps-within (frame bytes (replicate most_frame 0)) (record { meter = m; forward = forward; reverse = reverse }) h

  -- A meter of the size that its type says.
  module _ (sized : MeterSized m) where
    -- A frame leaves a meter its size, whatever memory is lent.
    pub answered-sized : (memory : List ℕ) → MeterSized (answered bytes m forward reverse memory).answer.meter
    unfolding delivered
    answered-sized memory = go (answers bytes m forward reverse memory)
      where
        go : Answers bytes m forward reverse memory → MeterSized (answered bytes m forward reverse memory).answer.meter
        go (refuses k small e) = rw e sized
        go (errs command b w loud e) = rw e (untouched-sized m sized)
        go (carries command w all e) = rw e (sized-after command (data_of bytes) m sized all)

    pub put-sized : MeterSized (put bytes m forward reverse).answer.meter
    unfolding put
    put-sized = answered-sized (replicate most_frame 0)

    -- A frame that is replied to with n bytes: it is one frame, and so is the reply, of at most 212 bytes.
    pub record RepliedWith (n : ℕ) : Type 0 where
      pub asked : Frame bytes
      pub reply : Frame (take n (put bytes m forward reverse).memory)
      pub most : n ≤ most_frame

    pub replied-with : {n : ℕ} → (put bytes m forward reverse).answer.answer ≡ Ok n → RepliedWith n
    unfolding put delivered
    replied-with {n} h = go (answers bytes m forward reverse (replicate most_frame 0))
      where
        whole : Frame (take n (answered bytes m forward reverse (replicate most_frame 0)).memory)
        whole = (reply-from-own bytes m forward reverse (replicate most_frame 0) n sized h).whole

        fits : (payload : List ℕ) → length payload ≤ 200 → ◌≡◌ {A = Result ℕ Refusal} (Ok (12 + length payload)) (Ok n) → n ≤ most_frame
        fits payload most said =
            let size : 12 + length payload ≡ n = ok_same said in
            omega arith

        go : Answers bytes m forward reverse (replicate most_frame 0) → RepliedWith n
        go (refuses k small e) = absurd (not-replied (rw e at h))
        go (errs command b w loud e) = record { asked = w.one-frame; reply = whole; most = fits (b ∷ []) (omega arith) (rw e at h) }
        go (carries command w all e) =
            record {
              asked = w.one-frame;
              reply = whole;
              most =
                  fits (reply_data command (data_of bytes) m (value_asked (data_of bytes) m forward reverse))
                  (reply-fits command (data_of bytes) m forward reverse sized all) (rw e at h);
            }

    -- The reply is one frame.
    pub reply-frame : AllOf Frame (reply_to bytes m forward reverse)
    reply-frame = go (put bytes m forward reverse).answer.answer refl
      where
        go : (answer : Result ℕ Refusal) → (put bytes m forward reverse).answer.answer ≡ answer → AllOf Frame (reply_in answer (put bytes m forward reverse).memory)
        go (Ok n) e = ((replied-with e).reply, tt)
        go (Err n) e = tt

    -- Its line is at most 35 times as long as the frame: 417 bytes for at least 12.
    pub reply-text : length (lines_of (reply_to bytes m forward reverse)) ≤ 35 * length bytes
    unfolding lines_of
    reply-text = go (put bytes m forward reverse).answer.answer refl reply-frame
      where
        go : (answer : Result ℕ Refusal) → (put bytes m forward reverse).answer.answer ≡ answer → AllOf Frame (reply_in answer (put bytes m forward reverse).memory)
            → length (lines_of (reply_in answer (put bytes m forward reverse).memory)) ≤ 35 * length bytes
        go (Ok n) e w =
            rw append-nil (omega (arith, line-most w.0, frame-least (replied-with e).asked))
        go (Err n) e w = omega arith

-- Frames leave a meter its size.
pub after-sized : (fs : List (List ℕ)) (m : Meter) (forward reverse : Rows) → MeterSized m → MeterSized (meter_after fs m forward reverse)
unfolding meter_after
after-sized [] m forward reverse sized = sized
after-sized (f ∷ fs) m forward reverse sized = after-sized fs (put f m forward reverse).answer.meter forward reverse (put-sized f m forward reverse sized)

-- They leave it within its ranges.
pub after-within : (fs : List (List ℕ)) (m : Meter) (forward reverse : Rows) → InRanges m forward reverse
    → InRanges (meter_after fs m forward reverse) forward reverse
unfolding meter_after
after-within [] m forward reverse h = h
after-within (f ∷ fs) m forward reverse h = after-within fs (put f m forward reverse).answer.meter forward reverse (put-within f m forward reverse h)

-- The meter after frames joined is that after the second, put to the meter after the first.
pub meter-append : (fs gs : List (List ℕ)) (m : Meter) (forward reverse : Rows)
    → meter_after (fs ++ gs) m forward reverse ≡ meter_after gs (meter_after fs m forward reverse) forward reverse
unfolding meter_after
meter-append [] gs m forward reverse = refl
meter-append (f ∷ fs) gs m forward reverse = meter-append fs gs (put f m forward reverse).answer.meter forward reverse

-- The replies to frames joined are those to the first, and then those to the second, put to the meter after the first.
pub replies-append : (fs gs : List (List ℕ)) (m : Meter) (forward reverse : Rows)
    → replies_to (fs ++ gs) m forward reverse ≡ replies_to fs m forward reverse ++ replies_to gs (meter_after fs m forward reverse) forward reverse
unfolding meter_after replies_to
replies-append [] gs m forward reverse = refl
replies-append (f ∷ fs) gs m forward reverse =
    rw (replies-append fs gs (put f m forward reverse).answer.meter forward reverse) (sym (append_assoc (reply_to f m forward reverse) _ _))

-- The replies to bytes cut from a place on: at most 35 bytes of text for each of those bytes.
from-text : (k : ℕ) (bytes : List ℕ) (m : Meter) (forward reverse : Rows) → MeterSized m
    → length (lines_of (replies_to (cut_from k bytes) m forward reverse)) ≤ 35 * length (drop k bytes)
unfolding cut_from replies_to lines_of
from-text zero [] m forward reverse sized = omega arith
from-text (suc k) [] m forward reverse sized = omega arith
from-text (suc k) (b ∷ bytes) m forward reverse sized = from-text k bytes m forward reverse sized
from-text zero (b ∷ bytes) m forward reverse sized =
    let n : ℕ = 11 + length_of (b ∷ bytes) in
    let f : List ℕ = take (12 + length_of (b ∷ bytes)) (b ∷ bytes) in
    let after : Meter = (put f m forward reverse).answer.meter in
    let first : length (lines_of (reply_to f m forward reverse)) ≤ 35 * length f = reply-text f m forward reverse sized in
    let rest : length (lines_of (replies_to (cut_from n bytes) after forward reverse)) ≤ 35 * length (drop n bytes) =
    from-text n bytes after forward reverse (put-sized f m forward reverse sized) in
    let one : suc n ≡ 12 + length_of (b ∷ bytes) = omega arith in
    let whole : f ++ drop n bytes ≡ b ∷ bytes = rw (← one) (take-append-drop (suc n) (b ∷ bytes)) in
    let all : length f + length (drop n bytes) ≡ length (b ∷ bytes) = sym (length-append f (drop n bytes)) ∙ ap length whole in
    rw (lines-append (reply_to f m forward reverse), length-append) (omega arith)

-- The lines of the replies to bytes cut into frames are at most 35 times as long as the bytes.
pub all-text : (bytes : List ℕ) (m : Meter) (forward reverse : Rows) → MeterSized m
    → length (lines_of (replies_to (cut bytes) m forward reverse)) ≤ 35 * length bytes
all-text bytes m forward reverse sized = from-text 0 bytes m forward reverse sized
