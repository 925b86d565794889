-- A trace cut into blocks at any byte replays as the whole: what the blocks bring, stepped record by record as one trace, comes to the same, and stops
-- at the same place with the same number.
use Rattle.frame.specs.Refusals.{number_of}
use Rattle.frame.specs.declared.refusal.Refusal.{Refusal}
use Rattle.std.specs.Prelude.{◌≡◌, ℕ, ◌%◌, ◌≤◌, List, [], ◌∷◌, ◌++◌, length, drop, refl}
use Rattle.std.proofs.Common.{arith, sym, ap, subst, ◌∙◌, take-append-drop, length-drop, length-take-le}
use Rattle.laws.specs.Memory.{outcome}
use Rattle.item_address.specs.Address.{Good}
use Rattle.trace.specs.Trace.{front_of}
use Rattle.trace.specs.Records.{written, ReadsAs}
use Rattle.trace.proofs.TraceLaws.{reads-written}
use Rattle.trace.specs.declared.TraceRecord.{TraceRecord}
use Rattle.replay.specs.Replay.{started, stepped}
use Rattle.replay.specs.ByHand.{ByHand, hand_start}
use Rattle.replay.proofs.StepWords.{step_words}
use Rattle.replay.proofs.Replayed.{StepCall, Steps, place_after, state_after, text_after, plays_after, lines_after, replayed_by_hand}
use Rattle.replay.specs.declared.StepAnswer.TheVariants.{Done, BadRecord}
use Rattle.replay_block.specs.Block.{begun, Stops}
use Rattle.replay_block.proofs.ReadingLaws.{one-reading}
use Rattle.replay_block.proofs.BlockCalls.{BlockCall, BlockCalls, OfBytes, trace_of, text_of, kept_after, session_after}
use Rattle.replay_block.proofs.BlockWords.{stops_at, ends_at}
use Rattle.replay_block.proofs.Blocks.{kept-last, brought-bytes, blocks-read, blocks_replayed}
use Rattle.replay_block.specs.declared.BlockAnswer.TheVariants.{Played, Stopped}

-- A further step of the whole, behind those steps: it answers what its `ensures` says.
abbrev pub StepsOn : List ℕ → List BlockCall → List StepCall → StepCall → Type 0
StepsOn address calls steps next =
    outcome next.returned next.left ≡ stepped (trace_of calls) (place_after 0 steps) (state_after (hand_start address) steps) next.lent

-- The blocks and the whole have come to the same.
pub record SameReplay (address : List ℕ) (calls : List BlockCall) (steps : List StepCall) : Type 0 where
  -- all text, and the receiver, the meter and the readings
  pub text : text_of calls ≡ text_after steps
  pub state : (session_after (begun address).session calls).state ≡ state_after (hand_start address) steps
  -- what is left, and where it begins
  pub rest : kept_after [] calls ≡ drop (place_after 0 steps) (trace_of calls)
  pub place : (session_after (begun address).session calls).place ≡ place_after 0 steps % 18446744073709551616
  -- the records are as many as the steps that played one, the replies as many as the lines
  pub count : (session_after (begun address).session calls).records ≡ plays_after steps % 18446744073709551616
  pub replies : (session_after (begun address).session calls).replies ≡ lines_after steps % 18446744073709551616
  -- where the last call stopped, a further step of the whole with memory enough refuses the record there with the same number
  pub stopped : (earlier : List BlockCall) (c : BlockCall) → calls ≡ earlier ++ (c ∷ []) → (n text : ℕ) → c.returned.answer ≡ Stopped n text →
      (next : StepCall) → StepsOn address calls steps next → 8192 ≤ length next.lent →
      (k : Refusal) × (next.returned.answer ≡ BadRecord k (place_after 0 steps)) × (number_of k ≡ n)
  -- where it was played at the end of the trace, a further step is done, whatever it is lent
  pub ended : (earlier : List BlockCall) (c : BlockCall) → calls ≡ earlier ++ (c ∷ []) → (text kept : ℕ) → c.returned.answer ≡ Played text kept →
      c.read ≡ 0 → (next : StepCall) → StepsOn address calls steps next → next.returned.answer ≡ Done

-- Calls over blocks, and steps over the trace that they bring up to where no good record stands.
pub cut_anywhere : (address : List ℕ) (calls : List BlockCall) (steps : List StepCall) → length address ≡ 6 → Good address → OfBytes calls →
    BlockCalls [] (begun address).session calls → Steps (trace_of calls) (started address).at (started address).state steps →
    Stops (drop (place_after 0 steps) (trace_of calls)) → SameReplay address calls steps
cut_anywhere address calls steps six good buffers h k end =
    let trace = trace_of calls in
    let at = place_after 0 steps in
    let blocks = blocks_replayed address calls six good buffers h in
    let whole = replayed_by_hand address trace steps six good (brought-bytes calls buffers) k in
    let one = blocks-read blocks in
    let split : trace ≡ written whole.records ++ drop at trace =
    sym (take-append-drop at trace) ∙ ap (λ (l : List ℕ). l ++ drop at trace) whole.up_to in
    let other : ReadsAs trace whole.records (drop at trace) =
    subst (λ (l : List ℕ). ReadsAs l whole.records (drop at trace)) (sym split) (reads-written whole.records (drop at trace) whole.right) in
    let same : blocks.records ≡ whole.records = (one-reading one blocks.no_more other end).0 in
    let rest : kept_after [] calls ≡ drop at trace = (one-reading one blocks.no_more other end).1 in
    let size : length (written blocks.records) ≡ at =
    ap (λ (rs : List TraceRecord). length (written rs)) same ∙ ap length (sym whole.up_to) ∙ length-take-le at trace whole.reached in
    let hand = whole.by_hand.some in
    let also : ByHand (hand_start address) blocks.records hand.turns =
    subst (λ (rs : List TraceRecord). ByHand (hand_start address) rs hand.turns) (sym same) hand.by_hand in
    record {
      text = blocks.by_hand.text_same hand.turns also ∙ sym (whole.by_hand.text_same hand.turns hand.by_hand);
      state = blocks.by_hand.state-same hand.turns also ∙ sym (whole.by_hand.state-same hand.turns hand.by_hand);
      rest = rest;
      place = omega (arith, blocks.place, size);
      count = omega (arith, blocks.count, whole.plays, ap length same);
      replies = omega (arith, blocks.replies hand.turns also, whole.lines hand.turns hand.by_hand);
      stopped = λ earlier c e n text stop next on room.
          let left = sym (kept-last [] earlier c) ∙ ap (kept_after []) (sym e) ∙ rest in
          let at_stop = stops_at (blocks.each earlier c [] e).right stop in
          let there = ap front_of (sym left) ∙ at_stop.1 in
          (at_stop.0, ((step_words trace at _ next.lent next.returned next.left on).bad-record at_stop.0 at).1 (whole.within, room, refl, there), at_stop.2);
      ended = λ earlier c e text kept play read next on.
          let left = sym (kept-last [] earlier c) ∙ ap (kept_after []) (sym e) ∙ rest in
          let none : drop at trace ≡ [] = sym left ∙ ends_at (blocks.each earlier c [] e).right play read in
          (step_words trace at _ next.lent next.returned next.left on).done.1 (whole.within, omega (arith, ap length none, length-drop at trace));
    }
