-- A trace replayed in blocks, cut at any byte: one theorem over every list of calls from the start of a good address, refused ones among them. The
-- replies and the meter are those of the calls made by hand for the records of the trace that the blocks bring.
use Rattle.std.specs.Prelude.{◌≡◌, ℕ, ◌+◌, ◌-◌, ◌%◌, List, [], ◌∷◌, ◌++◌, length, take, drop, refl}
use Rattle.std.proofs.Common.{arith, sym, ap, subst, ◌∙◌, append-nil, append_assoc, length-append, take-add}
use Rattle.std.proofs.Math.Seq.{take-append_seam}
use Rattle.laws.specs.All.{AllOf}
use Rattle.laws.specs.AllLaws.{all_append, all_take, all_drop, all-before}
use Rattle.laws.specs.Memory.{IsByte, Bytes}
use Rattle.item_address.specs.Address.{Good}
use Rattle.listing.specs.Lines.{lines_of}
use Rattle.listing.proofs.LinesLaws.{lines-append}
use Rattle.trace.specs.Records.{FieldsRight, written, ReadsAs, none}
use Rattle.trace.proofs.TraceLaws.{reads_bytes, reads-written, reads_more, reads_then, written-append}
use Rattle.trace.specs.declared.TraceRecord.{TraceRecord}
use Rattle.replay.specs.Replay.{Play, started, played_all}
use Rattle.replay.proofs.StateLaws.{Fit, fit-within, start-fit, all_fit, all_then}
use Rattle.replay.proofs.Replayed.{PlayedByHand, played_by_hand}
use Rattle.replay.specs.ByHand.{HandTurn, ByHand, hand_start, frames_put_in, replies_given}
use Rattle.replay.proofs.ByHandLaws.{hand-same}
use Rattle.replay_block.specs.Block.{begun, records_in, rest_from, rest_in, counted, went_by, lines_in, after_block, Stops}
use Rattle.replay_block.proofs.BlockCalls.{
  BlockCall,
  IsBlock,
  kept_by,
  GoesOn,
  BlockCalls,
  OfBytes,
  brought_by,
  text_by,
  trace_of,
  text_of,
  kept_after,
  session_after,
  Blocking,
  declines,
  stops,
  plays,
  blocking,
}
use Rattle.replay_block.proofs.BlockWords.{CallIsRight, call-right}
use Rattle.replay_block.proofs.ReadingLaws.{reads_all, rest-stops}
use Rattle.replay_block.specs.Run.{NumbersFit}
use Rattle.replay_block.specs.declared.Session.{Session}
use Rattle.replay_block.specs.declared.BlockAnswer.{BlockAnswer}
use Rattle.replay_block.specs.declared.BlockAnswer.TheVariants.{Refused, Played, Stopped}

-- How far calls have come: of the trace that they bring behind what was kept these records were read and then what is kept; they came to this text and
-- this session, whose numbers have counted on modulo 2^64.
pub record Came (before : List ℕ) (s : Session) (trace text kept : List ℕ) (after : Session) : Type 0 where
  pub records : List TraceRecord
  pub reads : ReadsAs (before ++ trace) records kept
  pub right : AllOf FieldsRight records
  pub text_same : text ≡ lines_of (played_all records s.state).replies
  pub state-same : after.state ≡ (played_all records s.state).state
  pub place : after.place ≡ (s.place + length (written records)) % 18446744073709551616
  pub count : after.records ≡ (s.records + length records) % 18446744073709551616
  pub frames : after.frames ≡ (s.frames + length (played_all records s.state).frames) % 18446744073709551616
  pub replies : after.replies ≡ (s.replies + length (played_all records s.state).replies) % 18446744073709551616

came_nowhere : (before : List ℕ) (s : Session) → NumbersFit s → Came before s [] [] before s
unfolding written lines_of played_all
came_nowhere before s fits =
    record {
      records = [];
      reads = rw append-nil none;
      right = tt;
      text_same = refl;
      state-same = refl;
      place = omega (arith, fits.place);
      count = omega (arith, fits.records);
      frames = omega (arith, fits.frames);
      replies = omega (arith, fits.replies);
    }

-- The numbers of a session that calls have led to are below 2^64.
came-fits : {before trace text kept : List ℕ} {s after : Session} → Came before s trace text kept after → NumbersFit after
came-fits came =
    record {
      place = omega (arith, came.place);
      records = omega (arith, came.count);
      frames = omega (arith, came.frames);
      replies = omega (arith, came.replies);
    }

came-then : {before trace text kept trace₂ text₂ kept₂ : List ℕ} {s next after : Session} → Came before s trace text kept next →
    Came kept next trace₂ text₂ kept₂ after → Came before s (trace ++ trace₂) (text ++ text₂) kept₂ after
came-then {before} {trace} {text} {kept} {trace₂} {text₂} {kept₂} {s} {next} {after} a b =
    let rs = a.records in
    let ss = b.records in
    let p = played_all rs s.state in
    let q = played_all ss next.state in
    let then = all_then rs ss s.state in
    let mid : q ≡ played_all ss p.state = ap (played_all ss) a.state-same in
    let bytes : length (written (rs ++ ss)) ≡ length (written rs) + length (written ss) =
    ap length (written-append rs ss) ∙ length-append (written rs) (written ss) in
    let put : length (played_all (rs ++ ss) s.state).frames ≡ length p.frames + length q.frames =
    ap length then.frames ∙ length-append p.frames _ ∙ ap (λ (x : Play). length p.frames + length x.frames) (sym mid) in
    let given : length (played_all (rs ++ ss) s.state).replies ≡ length p.replies + length q.replies =
    ap length then.replies ∙ length-append p.replies _ ∙ ap (λ (x : Play). length p.replies + length x.replies) (sym mid) in
    record {
      records = rs ++ ss;
      reads = rw append_assoc at (reads_then (reads_more a.reads trace₂) b.reads);
      right = all_append FieldsRight rs ss a.right b.right;
      text_same =
          (λ i. a.text_same i ++ b.text_same i) ∙ ap (λ (x : Play). lines_of p.replies ++ lines_of x.replies) mid
          ∙ sym (lines-append p.replies _) ∙ ap lines_of (sym then.replies);
      state-same = b.state-same ∙ ap (λ (x : Play). x.state) mid ∙ sym then.state;
      place = omega (arith, a.place, b.place, bytes);
      count = omega (arith, a.count, b.count, length-append rs ss);
      frames = omega (arith, a.frames, b.frames, put);
      replies = omega (arith, a.replies, b.replies, given);
    }

-- The bytes of the records that are read.
reads-size : {trace rest : List ℕ} {rs : List TraceRecord} → Bytes trace → ReadsAs trace rs rest → length (written rs) ≡ length trace - length rest
reads-size {trace} {rest} {rs} bytes reads =
    let both = reads_bytes bytes reads in
    omega (arith, ap length both.1, length-append (written rs) rest)

-- The bytes of a block, those kept and those read behind them, played.
block-came : (before : List ℕ) (s : Session) (c : BlockCall) (block : List ℕ) → block ≡ take (c.kept + c.read) c.buffer → Bytes c.buffer →
    c.kept ≡ length before → take (length before) c.buffer ≡ before →
    Came before s (take c.read (drop c.kept c.buffer)) (lines_in block s) (rest_in block) (after_block block s)
unfolding went_by counted
block-came before s c block is bytes told begins =
    let all : Bytes block = rw is (all_take IsByte (c.kept + c.read) c.buffer bytes) in
    let joined : block ≡ before ++ take c.read (drop c.kept c.buffer) =
    is ∙ take-add c.kept c.read c.buffer
    ∙ ap (λ (l : List ℕ). l ++ take c.read (drop c.kept c.buffer)) (ap (λ (k : ℕ). take k c.buffer) told ∙ begins) in
    let size = reads-size all (reads_all block) in
    record {
      records = records_in block;
      reads = subst (λ (l : List ℕ). ReadsAs l (records_in block) (rest_in block)) joined (reads_all block);
      right = (reads_bytes all (reads_all block)).0;
      text_same = refl;
      state-same = refl;
      place = omega (arith, size);
      count = omega arith;
      frames = omega arith;
      replies = omega arith;
    }

-- A call behind what was kept: what it leaves, and how far it has come.
module _ (before : List ℕ) (s : Session) (c : BlockCall) (h : IsBlock s c) where
  abbrev rest : List ℕ
  rest = kept_by c.returned.answer before c

  abbrev CameBy : Type 0
  CameBy = Came before s (brought_by c.returned.answer c) (text_by c.returned.answer c.left) rest c.returned.session

  call-came : NumbersFit s → Bytes c.buffer → GoesOn c.returned.answer before c → CameBy
  call-came fits bytes = go (blocking h)
    where
      go : Blocking c.kept c.read s c.buffer c.lent c.returned c.left_buffer c.left → GoesOn c.returned.answer before c → CameBy
      go (declines n out a b l) = rw a (λ g. came_nowhere before s fits)
      go (stops {block} is stop a b l) =
          rw (a, l, ← is, take-append_seam (lines_in block s) _) (λ g. block-came before s c block is bytes g.0 g.1)
      go (plays {block} is on a b l) =
          rw (a, l, b, take-append_seam (lines_in block s) _, take-append_seam (rest_in block) _) (λ g. block-came before s c block is bytes g.0 g.1)

  -- No good record stands at the front of what it leaves, if none stood there before.
  call-stops : Stops before → Stops rest
  call-stops first = go (blocking h)
    where
      go : Blocking c.kept c.read s c.buffer c.lent c.returned c.left_buffer c.left → Stops rest
      go (declines n out a b l) = rw a first
      go (stops {block} is stop a b l) = rw (a, ← is) (rest-stops block)
      go (plays {block} is on a b l) = rw (a, b, take-append_seam (rest_in block) _) (rest-stops block)

-- Every list of calls.
pub calls_came : {before : List ℕ} {s : Session} (calls : List BlockCall) → NumbersFit s → OfBytes calls → BlockCalls before s calls →
    Came before s (trace_of calls) (text_of calls) (kept_after before calls) (session_after s calls)
calls_came [] fits bytes h = came_nowhere _ _ fits
calls_came {before = before} {s = s} (c ∷ cs) fits bytes h =
    let first = call-came before s c h.0 fits bytes.0 h.1 in
    came-then first (calls_came {before = kept_by c.returned.answer before c} {s = c.returned.session} cs (came-fits first) bytes.1 h.2)

-- No good record stands at the front of what is kept after them.
calls_stop : (before : List ℕ) (s : Session) (calls : List BlockCall) → Stops before → BlockCalls before s calls → Stops (kept_after before calls)
calls_stop before s [] first h = first
calls_stop before s (c ∷ cs) first h =
    calls_stop (kept_by c.returned.answer before c) c.returned.session cs (call-stops before s c h.0 first) h.2

-- What calls bring are bytes.
pub brought-bytes : (calls : List BlockCall) → OfBytes calls → Bytes (trace_of calls)
brought-bytes [] bytes = tt
brought-bytes (c ∷ cs) bytes =
    all_append IsByte (brought_by c.returned.answer c) (trace_of cs) (by c.returned.answer) (brought-bytes cs bytes.1)
  where
    by : (answer : BlockAnswer) → Bytes (brought_by answer c)
    by (Refused n) = tt
    by (Played text kept) = all_take IsByte c.read (drop c.kept c.buffer) (all_drop IsByte c.kept c.buffer bytes.0)
    by (Stopped n text) = all_take IsByte c.read (drop c.kept c.buffer) (all_drop IsByte c.kept c.buffer bytes.0)

-- What holds of calls from the beginning of a session of an address.
pub record ReplaysInBlocks (address : List ℕ) (calls : List BlockCall) : Type 1 where
  -- the records played are those of the trace that the calls bring, up to what is kept, at whose front no good record stands
  pub records : List TraceRecord
  pub right : AllOf FieldsRight records
  pub up_to : trace_of calls ≡ written records ++ kept_after [] calls
  pub no_more : Stops (kept_after [] calls)
  -- all text joined, and the receiver, the meter and the readings
  pub by_hand : PlayedByHand (hand_start address) records (text_of calls) (session_after (begun address).session calls).state
  -- the place of the next record in the whole trace, and the number of records, of frames put to the meter and of replies, modulo 2^64
  pub place : (session_after (begun address).session calls).place ≡ length (written records) % 18446744073709551616
  pub count : (session_after (begun address).session calls).records ≡ length records % 18446744073709551616
  pub frames : (turns : List HandTurn) → ByHand (hand_start address) records turns →
      (session_after (begun address).session calls).frames ≡ length (frames_put_in turns) % 18446744073709551616
  pub replies : (turns : List HandTurn) → ByHand (hand_start address) records turns →
      (session_after (begun address).session calls).replies ≡ length (replies_given turns) % 18446744073709551616
  -- each call: where it is refused, which records it has read, where it stops or is played, and what it leaves
  pub each : (earlier : List BlockCall) (c : BlockCall) (later : List BlockCall) → calls ≡ earlier ++ (c ∷ later) →
      CallIsRight (kept_after [] earlier) (session_after (begun address).session earlier) c

-- Of calls joined, the first are calls, and the others go on where they left off.
pub blocks-split : (before : List ℕ) (s : Session) (earlier later : List BlockCall) → BlockCalls before s (earlier ++ later) →
    BlockCalls before s earlier × BlockCalls (kept_after before earlier) (session_after s earlier) later
blocks-split before s [] later h = (tt, h)
blocks-split before s (c ∷ cs) later h =
    let more = blocks-split (kept_by c.returned.answer before c) c.returned.session cs later h.2 in ((h.0, h.1, more.0), more.1)

-- What is kept after a last call.
pub kept-last : (before : List ℕ) (earlier : List BlockCall) (c : BlockCall) →
    kept_after before (earlier ++ (c ∷ [])) ≡ kept_by c.returned.answer (kept_after before earlier) c
kept-last before [] c = refl
kept-last before (x ∷ xs) c = kept-last (kept_by x.returned.answer before x) xs c

-- What calls joined bring.
pub trace-append : (earlier later : List BlockCall) → trace_of (earlier ++ later) ≡ trace_of earlier ++ trace_of later
trace-append [] later = refl
trace-append (c ∷ cs) later =
    let brought = brought_by c.returned.answer c in ap (λ (l : List ℕ). brought ++ l) (trace-append cs later) ∙ sym (append_assoc brought _ _)

-- Nothing is counted at the beginning.
pub begun-fits : (address : List ℕ) → NumbersFit (begun address).session
unfolding begun
begun-fits address = record { place = omega arith; records = omega arith; frames = omega arith; replies = omega arith }

-- Nothing left is no good record.
pub none_kept : Stops []
unfolding rest_from
none_kept = rest-stops []

-- The trace is read as these records, up to what is kept.
pub blocks-read : {address : List ℕ} {calls : List BlockCall} → (r : ReplaysInBlocks address calls) → ReadsAs (trace_of calls) r.records (kept_after [] calls)
blocks-read {calls = calls} r = rw r.up_to (reads-written r.records (kept_after [] calls) r.right)

-- A trace cut into blocks at any byte.
pub blocks_replayed : (address : List ℕ) (calls : List BlockCall) → length address ≡ 6 → Good address → OfBytes calls →
    BlockCalls [] (begun address).session calls → ReplaysInBlocks address calls
unfolding begun started
blocks_replayed address calls six good bytes h =
    let f = start-fit address six good in
    let came = calls_came calls (begun-fits address) bytes h in
    record {
      records = came.records;
      right = came.right;
      up_to = (reads_bytes (brought-bytes calls bytes) came.reads).1;
      no_more = calls_stop [] (begun address).session calls none_kept h;
      by_hand = played_by_hand came.records f came.text_same came.state-same;
      place = omega (arith, came.place);
      count = omega (arith, came.count);
      frames = λ turns hand. rw (hand-same f hand).frames (omega (arith, came.frames));
      replies = λ turns hand. rw (hand-same f hand).replies (omega (arith, came.replies));
      each = λ earlier c later e.
          let parts = blocks-split [] (begun address).session earlier (c ∷ later) (subst (BlockCalls [] (begun address).session) e h) in
          let buffers : OfBytes earlier = all-before (λ (x : BlockCall). Bytes x.buffer) earlier (c ∷ later) (subst OfBytes e bytes) in
          let so_far = calls_came earlier (begun-fits address) buffers parts.0 in
          call-right (kept_after [] earlier) (session_after (begun address).session earlier) c
          (fit-within (subst (Fit _) (sym so_far.state-same) (all_fit so_far.records f))) parts.1.0;
    }
