-- How far putting frames to a meter has come: before the first frame, by one frame more, and after the last.
use Prim.Native.Nat.{ℕ, ◌+◌, ◌-◌, ◌*◌, ◌≤◌, ◌<◌}
use Rattle.replay_frames.specs.PutAnswer.{lines_put}
use Rattle.std.specs.Prelude.{◌≡◌, refl}
use Rattle.std.proofs.Math.Path.{ap, sym}
use Rattle.std.proofs.Common.{◌∙◌, arith, length-append, length-drop, drop_of_length-le, length-take-le}
use mathlib.Core.List.{List, [], ◌∷◌, ◌++◌, append-nil}
use Rattle.std.proofs.Math.ListN.{length, take, drop}
use Rattle.std.proofs.Math.Seq.{append_snoc}
use borrow.Author.Rules.{part_to_end}
use Rattle.laws.specs.Memory.{Outcome, outcome, over}
use Rattle.laws.specs.MemoryLaws.{over-length, lent-over}
use Rattle.frame.specs.EndToEnd.{cut_from, cut, next_end}
use Rattle.frame.proofs.EndToEndLaws.{next-end-within}
use Rattle.energy.specs.Energies.{Rows}
use Rattle.listing.specs.Lines.{lines_of}
use Rattle.listing.proofs.LinesLaws.{lines-append}
use Rattle.meter.specs.Meter.{MeterSized}
use Rattle.meter.specs.declared.Meter.{Meter}
use Rattle.replay_frames.proofs.CutLaws.{cut-from}
use Rattle.replay_frames.specs.Putting.{put, reply_to, meter_after, replies_to, one_put, all_put}
use Rattle.replay_frames.proofs.PuttingLaws.{put-sized, reply-few, reply-text, meter-append, replies-append}
use Rattle.replay_frames.specs.declared.OnePut.{OnePut}

-- The frames before `at` are put: the meter is the one after them, and the lines of their replies stand over the front of the memory.
pub record Progress (bytes : List ℕ) (m₀ : Meter) (forward reverse : Rows) (out₀ out : List ℕ) (m : Meter) (at used lines : ℕ) : Type 0 where
  pub sent : List (List ℕ)
  pub split : cut bytes ≡ sent ++ cut (drop at bytes)
  pub within : at ≤ length bytes
  pub meter : m ≡ meter_after sent m₀ forward reverse
  pub sized : MeterSized m
  pub memory : out ≡ over (lines_of (replies_to sent m₀ forward reverse)) out₀
  pub text : used ≡ length (lines_of (replies_to sent m₀ forward reverse))
  pub count : lines ≡ length (replies_to sent m₀ forward reverse)
  pub room : used ≤ 35 * at
  pub few : lines ≤ at
  pub size : length out ≡ length out₀

-- Before the first turn nothing is put.
pub progress_start : (bytes : List ℕ) (m : Meter) (forward reverse : Rows) (out : List ℕ) → MeterSized m
    → Progress bytes m forward reverse out out m 0 0 0
unfolding meter_after replies_to lines_of
progress_start bytes m forward reverse out sized =
    record {
      sent = [];
      split = refl;
      within = omega arith;
      meter = refl;
      sized = sized;
      memory = refl;
      text = refl;
      count = refl;
      room = omega arith;
      few = omega arith;
      size = refl;
    }

-- A turn: so far it has come, bytes are left from the place up to the next end, and there is memory enough for all of them.
pub record Turn (bytes : List ℕ) (m₀ : Meter) (forward reverse : Rows) (out₀ out : List ℕ) (m : Meter) (at used lines end : ℕ) : Type 0 where
  pub so_far : Progress bytes m₀ forward reverse out₀ out m at used lines
  pub more : at < length bytes
  pub ends : end ≡ next_end bytes at
  pub enough : 35 * length bytes ≤ length out₀

module _ {bytes : List ℕ} {m₀ : Meter} {forward reverse : Rows} {out₀ out : List ℕ} {m : Meter} {at used lines end : ℕ}
    (t : Turn bytes m₀ forward reverse out₀ out m at used lines end) where
  -- The frame at the place ends behind it and within the bytes.
  pub turn-later : at < end
  turn-later = omega (arith, t.ends, next-end-within bytes at t.more)

  pub turn-within : end ≤ length bytes
  turn-within = omega (arith, t.ends, next-end-within bytes at t.more)

  -- Its bytes, as they are lent, are as many as lie between the places.
  part-size : length (take (end - at) (drop at bytes)) ≡ end - at
  part-size = length-take-le (end - at) (drop at bytes) (omega (arith, length-drop at bytes, turn-within))

  -- The line of its reply is at most 35 times as long.
  part-text : length (lines_of (reply_to (take (end - at) (drop at bytes)) m forward reverse)) ≤ 35 * (end - at)
  part-text = rw part-size at (reply-text (take (end - at) (drop at bytes)) m forward reverse t.so_far.sized)

  -- There is room for it behind the lines before.
  pub turn-asked : 35 * length (take (end - at) (drop at bytes)) ≤ length (take (length out - used) (drop used out))
  turn-asked = rw (part-size, part_to_end out used, length-drop) (omega (arith, t.so_far.room, t.so_far.size, turn-later, turn-within))

  module _ {r : OnePut} {y : List ℕ}
      (done : outcome r y ≡ one_put (take (end - at) (drop at bytes)) m forward reverse (take (length out - used) (drop used out))) where
    -- What was put.
    record WasPut : Type 0 where
      meter : r.meter ≡ (put (take (end - at) (drop at bytes)) m forward reverse).answer.meter
      text : r.text ≡ length (lines_of (reply_to (take (end - at) (drop at bytes)) m forward reverse))
      count : r.lines ≡ length (reply_to (take (end - at) (drop at bytes)) m forward reverse)
      memory : y ≡ over (lines_of (reply_to (take (end - at) (drop at bytes)) m forward reverse)) (take (length out - used) (drop used out))

    was_put : WasPut
    unfolding one_put
    was_put =
        record {
          meter = ap (λ (o : Outcome OnePut). o.answer.meter) done;
          text = ap (λ (o : Outcome OnePut). o.answer.text) done;
          count = ap (λ (o : Outcome OnePut). o.answer.lines) done;
          memory = ap (λ (o : Outcome OnePut). o.memory) done;
        }

    -- The text with this line lies within the memory, and there are no more lines than bytes.
    pub turn-fits : used + r.text ≤ length out₀
    turn-fits = omega (arith, was_put.text, part-text, t.so_far.room, turn-later, turn-within)

    pub turn-few : lines + r.lines ≤ end
    turn-few =
        let one = put (take (end - at) (drop at bytes)) m forward reverse in
        omega (arith, was_put.count, reply-few one.answer.answer one.memory, t.so_far.few, turn-later)

    -- Put, it is one frame more.
    pub turn-next :
        Progress bytes m₀ forward reverse out₀ (take used out ++ (y ++ drop (length out - used) (drop used out))) r.meter end (used + r.text)
        (lines + r.lines)
    unfolding meter_after replies_to
    turn-next =
        let f : List ℕ = take (end - at) (drop at bytes) in
        let before : List (List ℕ) = replies_to t.so_far.sent m₀ forward reverse in
        let reply : List (List ℕ) = reply_to f m forward reverse in
        let fs : List (List ℕ) = t.so_far.sent ++ (f ∷ []) in
        let all : replies_to fs m₀ forward reverse ≡ before ++ reply =
        replies-append t.so_far.sent (f ∷ []) m₀ forward reverse ∙ rw (← t.so_far.meter, append-nil) in
        let texts : lines_of (replies_to fs m₀ forward reverse) ≡ lines_of before ++ lines_of reply = rw all (lines-append before reply) in
        let now : take used out ++ (y ++ drop (length out - used) (drop used out)) ≡ over (lines_of (replies_to fs m₀ forward reverse)) out₀ =
        rw (was_put.memory, t.so_far.memory, texts)
        (lent-over used (lines_of before) (lines_of reply) out₀ (sym t.so_far.text) (omega (arith, turn-fits, was_put.text))) in
        let long : length (lines_of (replies_to fs m₀ forward reverse)) ≡ used + r.text =
        rw (texts, length-append) (omega (arith, t.so_far.text, was_put.text)) in
        let on : cut (drop at bytes) ≡ f ∷ cut (drop end bytes) = rw t.ends (cut-from bytes at t.more) in
        record {
          sent = fs;
          split = t.so_far.split ∙ ap (λ (l : List (List ℕ)). t.so_far.sent ++ l) on ∙ sym (append_snoc t.so_far.sent f _);
          within = turn-within;
          meter = rw (was_put.meter, t.so_far.meter) (sym (meter-append t.so_far.sent (f ∷ []) m₀ forward reverse));
          sized = rw was_put.meter (put-sized f m forward reverse t.so_far.sized);
          memory = now;
          text = sym long;
          count = rw (all, length-append) (omega (arith, t.so_far.count, was_put.count));
          room = omega (arith, was_put.text, part-text, t.so_far.room, turn-later);
          few = turn-few;
          size = ap length now ∙ over-length (lines_of (replies_to fs m₀ forward reverse)) out₀ (omega (arith, long, turn-fits));
        }

-- After the last turn all the frames are put.
pub progress_end : {bytes : List ℕ} {m₀ : Meter} {forward reverse : Rows} {out₀ out : List ℕ} {m : Meter} {at used lines : ℕ}
    → Progress bytes m₀ forward reverse out₀ out m at used lines → length bytes ≤ at
    → outcome (record { meter = m; answer = lines_put used lines }) out ≡ all_put (cut bytes) m₀ forward reverse out₀
unfolding cut_from all_put
progress_end {bytes} {m₀} {forward} {reverse} {out₀} {out} {m} {at} {used} {lines} p h =
    let none : drop at bytes ≡ [] = drop_of_length-le bytes h in
    let all : cut bytes ≡ p.sent = p.split ∙ ap (λ (l : List ℕ). p.sent ++ cut l) none ∙ append-nil p.sent in
    rw (all, p.meter, p.text, p.count, p.memory)
