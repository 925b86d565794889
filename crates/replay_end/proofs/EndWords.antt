-- What is said at the end of a replay in words: where the last block stopped, the number with which its record is refused, and how many bytes the
-- records before it have; the same of a block that is refused; where the trace has ended, how many records it is, how many frames were put to the
-- meter and how many replies given by hand.
use Rattle.frame.specs.Refusals.{number_of}
use Rattle.frame.specs.declared.refusal.Refusal.{Refusal}
use Rattle.std.specs.Prelude.{ℕ, ◌%◌, ◌≡◌, refl, true, ◌↔◌, List, [], ◌∷◌, ◌++◌, length, Err}
use Rattle.std.proofs.Common.{arith, sym, ap, subst, ◌∙◌, append-nil, eqb-true, eq-eqb}
use Rattle.item_address.specs.Address.{Good}
use Rattle.trace.specs.Trace.{front_of}
use Rattle.trace.specs.Records.{written}
use Rattle.replay.specs.ByHand.{HandTurn, ByHand, hand_start, frames_put_in, replies_given}
use Rattle.replay_block.specs.Block.{begun}
use Rattle.replay_block.proofs.BlockCalls.{BlockCall, BlockCalls, OfBytes, kept_by, trace_of, kept_after, session_after}
use Rattle.replay_block.proofs.BlockWords.{stops_at, ends_at}
use Rattle.replay_block.proofs.Blocks.{ReplaysInBlocks, kept-last, blocks_replayed}
use Rattle.replay_block.specs.declared.BlockAnswer.{BlockAnswer}
use Rattle.replay_block.specs.declared.BlockAnswer.TheVariants.{Refused, Played, Stopped}
use Rattle.replay_text.specs.Texts.{message_text}
use Rattle.replay_text.proofs.TextWords.{Line, message_says}
use Rattle.replay_text.specs.declared.Message.TheVariants.{BadRecord, Replayed}
use Rattle.replay_end.specs.End.{is_last, last_message}

-- An answer is the last exactly where it is no block played, or where no bytes were read.
pub last-words : (answer : BlockAnswer) (read : ℕ) → (is_last answer read ≡ true) ↔ ((text kept : ℕ) → answer ≡ Played text kept → read ≡ 0)
last-words (Refused n) read = (λ _ text kept e. let z : ◌≡◌ {A = ℕ} 0 1 = cc in absurd (omega arith), λ _. refl)
last-words (Played text kept) read = (λ e _ _ _. eqb-true read 0 e, λ none. eq-eqb read 0 (none text kept refl))
last-words (Stopped n text) read = (λ _ t kept e. let z : ◌≡◌ {A = ℕ} 0 1 = cc in absurd (omega arith), λ _. refl)

-- The text behind the last of calls from the beginning of a good address.
abbrev pub last_text : List ℕ → List BlockCall → BlockCall → List ℕ
last_text address calls c = message_text (last_message c.returned.answer (session_after (begun address).session calls))

-- What the calls came to, and what is said of it behind the last of them.
pub record SaysTheEnd (address : List ℕ) (calls : List BlockCall) (c : BlockCall) : Type 1 where
  pub blocks : ReplaysInBlocks address calls
  -- where a block is refused, its number; where one stopped, the number of the record that is left; and how many bytes the records played have
  pub refused : (n : ℕ) → c.returned.answer ≡ Refused n →
      Line (last_text address calls c) (n ∷ length (written blocks.records) % 18446744073709551616 ∷ [])
  pub stopped : (n text : ℕ) → c.returned.answer ≡ Stopped n text →
      ((k : Refusal) × (front_of (kept_after [] calls) ≡ Err k) × (number_of k ≡ n))
      × Line (last_text address calls c) (n ∷ length (written blocks.records) % 18446744073709551616 ∷ [])
  -- where a block that is played is the last, the records played are the whole trace; and how many they are, the frames put to the meter and the
  -- replies given by hand
  pub whole : (text kept : ℕ) → c.returned.answer ≡ Played text kept → is_last c.returned.answer c.read ≡ true →
      trace_of calls ≡ written blocks.records
  pub ended : (text kept : ℕ) → c.returned.answer ≡ Played text kept → (turns : List HandTurn) → ByHand (hand_start address) blocks.records turns →
      Line (last_text address calls c) (
      length blocks.records % 18446744073709551616
      ∷ length (frames_put_in turns) % 18446744073709551616
      ∷ length (replies_given turns) % 18446744073709551616
      ∷ []
      )

-- Every list of calls.
pub end-says : (address : List ℕ) (calls earlier : List BlockCall) (c : BlockCall) → length address ≡ 6 → Good address → OfBytes calls →
    BlockCalls [] (begun address).session calls → calls ≡ earlier ++ (c ∷ []) → SaysTheEnd address calls c
end-says address calls earlier c six good bytes h e =
    let blocks = blocks_replayed address calls six good bytes h in
    let s = session_after (begun address).session calls in
    let left : kept_by c.returned.answer (kept_after [] earlier) c ≡ kept_after [] calls = sym (kept-last [] earlier c) ∙ ap (kept_after []) (sym e) in
    record {
      blocks = blocks;
      refused = λ n no. rw (no, ← blocks.place) (message_says (BadRecord n s.place));
      stopped = λ n text stop. (
        subst (λ (l : List ℕ). (k : Refusal) × (front_of l ≡ Err k) × (number_of k ≡ n)) left (stops_at (blocks.each earlier c [] e).right stop),
        rw (stop, ← blocks.place) (message_says (BadRecord n s.place)),
      );
      whole = λ text kept play last.
          let none = (last-words c.returned.answer c.read).0 last text kept play in
          let rest = ends_at (blocks.each earlier c [] e).right play none in
          blocks.up_to ∙ ap (λ (l : List ℕ). written blocks.records ++ l) (sym left ∙ rest) ∙ append-nil _;
      ended = λ text kept play turns hand.
          rw (play, ← blocks.count, ← blocks.frames turns hand, ← blocks.replies turns hand) (message_says (Replayed s.records s.frames s.replies));
    }
