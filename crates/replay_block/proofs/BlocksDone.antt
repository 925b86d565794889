-- A trace of good records, brought in blocks: when it is whole nothing is kept, and what was played are its records.
use Rattle.frame.specs.declared.refusal.Refusal.{Refusal}
use Rattle.std.specs.Prelude.{◌≡◌, ℕ, ◌%◌, ◌<◌, ◌⊎◌, List, [], ◌∷◌, ◌++◌, length, refl, Err}
use Rattle.std.proofs.Common.{arith, sym, ap, subst, ◌∙◌, inl, inr, append-nil, append_assoc, length-append}
use Rattle.std.proofs.Math.Decide.{dec_lt}
use Rattle.laws.specs.All.{AllOf}
use Rattle.laws.specs.AllLaws.{all-before}
use Rattle.laws.specs.Memory.{Bytes}
use Rattle.item_address.specs.Address.{Good}
use Rattle.trace.specs.Trace.{front_of}
use Rattle.trace.specs.Records.{FieldsRight, written, ReadsAs}
use Rattle.trace.proofs.TraceLaws.{bad-stays, reads-written, reads_more}
use Rattle.trace.specs.declared.TraceRecord.{TraceRecord}
use Rattle.replay.specs.ByHand.{HandTurn, ByHand, hand_start, frames_put_in, replies_given}
use Rattle.replay.proofs.Replayed.{PlayedByHand}
use Rattle.replay_block.specs.Block.{begun}
use Rattle.replay_block.proofs.ReadingLaws.{one-reading, reads_on, read_unrefused}
use Rattle.replay_block.proofs.BlockCalls.{BlockCall, kept_by, BlockCalls, OfBytes, brought_by, trace_of, text_of, kept_after, session_after}
use Rattle.replay_block.proofs.BlockWords.{stops_at}
use Rattle.replay_block.proofs.Blocks.{
  ReplaysInBlocks,
  calls_came,
  begun-fits,
  blocks-split,
  kept-last,
  trace-append,
  none_kept,
  blocks-read,
  blocks_replayed,
}
use Rattle.replay_block.specs.Run.{NumbersFit}
use Rattle.replay_block.specs.declared.Session.{Session}
use Rattle.replay_block.specs.declared.BlockAnswer.TheVariants.{Stopped}

-- What holds of calls from the beginning of a session of an address that bring the trace of these records, whole.
pub record EndsWithTheTrace (address : List ℕ) (records : List TraceRecord) (calls : List BlockCall) : Type 1 where
  pub nothing-kept : kept_after [] calls ≡ []
  -- these records were played, each once
  pub by_hand : PlayedByHand (hand_start address) records (text_of calls) (session_after (begun address).session calls).state
  pub place : (session_after (begun address).session calls).place ≡ length (written records) % 18446744073709551616
  pub count : (session_after (begun address).session calls).records ≡ length records % 18446744073709551616
  pub frames : (turns : List HandTurn) → ByHand (hand_start address) records turns →
      (session_after (begun address).session calls).frames ≡ length (frames_put_in turns) % 18446744073709551616
  pub replies : (turns : List HandTurn) → ByHand (hand_start address) records turns →
      (session_after (begun address).session calls).replies ≡ length (replies_given turns) % 18446744073709551616
  -- no call stops, but with 10 where a read of no bytes comes before the trace is whole
  pub stops : (earlier : List BlockCall) (c : BlockCall) (later : List BlockCall) → calls ≡ earlier ++ (c ∷ later) → (n text : ℕ) →
      c.returned.answer ≡ Stopped n text → (n ≡ 10) × (c.read ≡ 0) × (length (trace_of earlier) < length (written records))

-- What calls leave, with what later ones bring, is read to its end where the whole trace is.
left-reads : {records : List TraceRecord} (s : Session) (first later : List BlockCall) → NumbersFit s → OfBytes first → BlockCalls [] s first →
    ReadsAs (trace_of (first ++ later)) records [] → (ts : List TraceRecord) × ReadsAs (kept_after [] first ++ trace_of later) ts []
left-reads {records} s first later fits bytes h whole =
    reads_on (reads_more (calls_came first fits bytes h).reads (trace_of later))
    (subst (λ (l : List ℕ). ReadsAs l records []) (trace-append first later) whole)

-- A list of no bytes.
empty : (l : List ℕ) → length l ≡ 0 → l ≡ []
empty [] e = refl
empty (x ∷ l) e = absurd (omega arith)

-- Of every trace of good records, however it is cut into blocks.
pub blocks-done : (address : List ℕ) (records : List TraceRecord) (calls : List BlockCall) → length address ≡ 6 → Good address →
    AllOf FieldsRight records → OfBytes calls → BlockCalls [] (begun address).session calls → trace_of calls ≡ written records →
    EndsWithTheTrace address records calls
blocks-done address records calls six good right bytes h whole =
    record {
      nothing-kept = one.1;
      by_hand =
          subst (λ (rs : List TraceRecord). PlayedByHand (hand_start address) rs (text_of calls) (session_after (begun address).session calls).state) one.0
          blocks.by_hand;
      place = omega (arith, blocks.place, ap (λ (rs : List TraceRecord). length (written rs)) one.0);
      count = omega (arith, blocks.count, ap length one.0);
      frames = λ turns hand. blocks.frames turns (subst (λ (rs : List TraceRecord). ByHand (hand_start address) rs turns) (sym one.0) hand);
      replies = λ turns hand. blocks.replies turns (subst (λ (rs : List TraceRecord). ByHand (hand_start address) rs turns) (sym one.0) hand);
      stops = λ earlier c later e n text stop. number earlier c later e text ((blocks.each earlier c later e).right.others n text stop) stop;
    }
  where
    blocks : ReplaysInBlocks address calls
    blocks = blocks_replayed address calls six good bytes h

    -- The whole trace is read to its end.
    reads : ReadsAs (trace_of calls) records []
    reads = rw (whole, ← append-nil (written records)) (reads-written records [] right)

    -- So the records are these, and nothing is kept.
    one : (blocks.records ≡ records) × (kept_after [] calls ≡ [])
    one =
        one-reading (blocks-read blocks) blocks.no_more reads none_kept

    -- What a call leaves, with what the later ones bring, is read to its end too.
    left : (earlier : List BlockCall) (c : BlockCall) (later : List BlockCall) → calls ≡ earlier ++ (c ∷ later) →
        (ts : List TraceRecord) × ReadsAs (kept_by c.returned.answer (kept_after [] earlier) c ++ trace_of later) ts []
    left earlier c later e =
        let first = earlier ++ (c ∷ []) in
        let joined : calls ≡ first ++ later = e ∙ sym (append_assoc earlier (c ∷ []) later) in
        subst (λ (l : List ℕ). (ts : List TraceRecord) × ReadsAs (l ++ trace_of later) ts []) (kept-last [] earlier c)
        (left-reads (begun address).session first later (begun-fits address)
        (all-before (λ (x : BlockCall). Bytes x.buffer) first later (subst OfBytes joined bytes))
        (blocks-split [] (begun address).session first later (subst (BlockCalls [] (begun address).session) joined h)).0
        (subst (λ (cs : List BlockCall). ReadsAs (trace_of cs) records []) joined reads))

    -- Where it leaves what is refused, the calls before it have not brought the whole trace.
    soon : (earlier : List BlockCall) (c : BlockCall) (later : List BlockCall) → calls ≡ earlier ++ (c ∷ later) → (n : Refusal) →
        front_of (kept_by c.returned.answer (kept_after [] earlier) c) ≡ Err n → length (trace_of earlier) < length (written records)
    soon earlier c later e n there =
        elim (dec_lt (length (trace_of earlier)) (length (written records))) [
          | yes few ↦ few
          | no all ↦
              let brought = brought_by c.returned.answer c in
              let size = ap length (sym whole ∙ ap trace_of e ∙ trace-append earlier (c ∷ later)) in
              let none : trace_of later ≡ [] =
              empty (trace_of later) (omega (arith, size, length-append (trace_of earlier) (brought ++ trace_of later), length-append brought (trace_of later))) in
              let behind = left earlier c later e in
              absurd (read_unrefused (rw (none, append-nil) at behind.1) there)
        ]

    -- With which number it stops.
    number : (earlier : List BlockCall) (c : BlockCall) (later : List BlockCall) → calls ≡ earlier ++ (c ∷ later) → {n : ℕ} (text : ℕ) →
        (n ≡ 9) ⊎ (n ≡ 10) → c.returned.answer ≡ Stopped n text → (n ≡ 10) × (c.read ≡ 0) × (length (trace_of earlier) < length (written records))
    number earlier c later e text (inl nine) stop =
        let there = ((blocks.each earlier c later e).right.nine.0 (text, rw nine at stop)).1 in
        absurd (read_unrefused (left earlier c later e).1 (bad-stays _ (trace_of later) there))
    number earlier c later e text (inr ten) stop =
        let called = (blocks.each earlier c later e).right in
        (ten, (called.ten.0 (text, rw ten at stop)).2, soon earlier c later e _ (stops_at called stop).1)
