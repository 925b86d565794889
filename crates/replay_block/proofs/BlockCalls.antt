-- Calls over blocks of a trace, one after the other: what the host does between them, what they bring, list and keep, and the three things that a
-- call comes to.
use Rattle.std.specs.Prelude.{◌≡◌, ℕ, ◌+◌, ◌*◌, true, false, List, [], ◌∷◌, ◌++◌, length, take, drop, ◌==◌, nat_le, refl}
use Rattle.std.proofs.Common.{arith, ap}
use Rattle.laws.specs.All.{AllOf}
use Rattle.laws.specs.Memory.{over, Bytes}
use Rattle.laws.specs.TestLaws.{pick_cases}
use Rattle.trace.specs.Trace.{front_of}
use Rattle.replay.specs.Replay.{is_within}
use Rattle.replay_block.specs.Block.{rest_in, is_stop, refusal_of, lines_in, after_block, BlockOutcome, block_outcome, block_played, block_replayed}
use Rattle.replay_block.specs.declared.Session.{Session}
use Rattle.replay_block.specs.declared.BlockPlayed.{BlockPlayed}
use Rattle.replay_block.specs.declared.BlockAnswer.{BlockAnswer}
use Rattle.replay_block.specs.declared.BlockAnswer.TheVariants.{Refused, Played, Stopped}

-- A call: how many bytes it was told are kept and how many are read behind them, the trace's buffer and the memory lent for the text, what it returned,
-- and both as they stood then.
pub record BlockCall : Type 0 where
  pub kept : ℕ
  pub read : ℕ
  pub buffer : List ℕ
  pub lent : List ℕ
  pub returned : BlockPlayed
  pub left_buffer : List ℕ
  pub left : List ℕ

-- It answers what its `ensures` says.
abbrev pub IsBlock : Session → BlockCall → Type 0
IsBlock s c =
    block_outcome c.returned.session c.returned.answer c.left_buffer c.left ≡ block_replayed c.kept c.read s c.buffer c.lent

-- What is kept after an answer: as many bytes as it says, from the front of the buffer; what was kept before where it is refused; where it stopped, what
-- is left of the block behind the records that it played.
abbrev pub kept_by : BlockAnswer → List ℕ → BlockCall → List ℕ
kept_by (Refused n) before c = before
kept_by (Played text kept) before c = take kept c.left_buffer
kept_by (Stopped n text) before c = rest_in (take (c.kept + c.read) c.buffer)

-- The host's part: a call that is not refused was told how many bytes are kept, and its buffer began with them.
abbrev pub GoesOn : BlockAnswer → List ℕ → BlockCall → Type 0
GoesOn (Refused n) before c = Unit
GoesOn (Played text kept) before c = (c.kept ≡ length before) × (take (length before) c.buffer ≡ before)
GoesOn (Stopped n text) before c = (c.kept ≡ length before) × (take (length before) c.buffer ≡ before)

-- Calls one after the other, each given the session that the last one returned and, where it is not refused, what the last one kept.
abbrev pub BlockCalls : List ℕ → Session → List BlockCall → Type 0
BlockCalls before s [] = Unit
BlockCalls before s (c ∷ cs) =
    IsBlock s c × GoesOn c.returned.answer before c × BlockCalls (kept_by c.returned.answer before c) c.returned.session cs

-- The buffers of calls are of bytes.
abbrev pub OfBytes : List BlockCall → Type 0
OfBytes calls = AllOf (λ (c : BlockCall). Bytes c.buffer) calls

-- What an answer brings of the trace: the bytes read behind those kept, and nothing where it is refused; and what it lists.
abbrev pub brought_by : BlockAnswer → BlockCall → List ℕ
brought_by (Refused n) c = []
brought_by (Played text kept) c = take c.read (drop c.kept c.buffer)
brought_by (Stopped n text) c = take c.read (drop c.kept c.buffer)

abbrev pub text_by : BlockAnswer → List ℕ → List ℕ
text_by (Refused n) left = []
text_by (Played text kept) left = take text left
text_by (Stopped n text) left = take text left

-- The whole trace that calls bring, all that they list, what is kept after them, and the session.
abbrev pub trace_of : List BlockCall → List ℕ
trace_of [] = []
trace_of (c ∷ cs) = brought_by c.returned.answer c ++ trace_of cs

abbrev pub text_of : List BlockCall → List ℕ
text_of [] = []
text_of (c ∷ cs) = text_by c.returned.answer c.left ++ text_of cs

abbrev pub kept_after : List ℕ → List BlockCall → List ℕ
kept_after before [] = before
kept_after before (c ∷ cs) = kept_after (kept_by c.returned.answer before c) cs

abbrev pub session_after : Session → List BlockCall → Session
session_after s [] = s
session_after s (c ∷ cs) = session_after c.returned.session cs

-- What a call comes to: refused, and nothing changed; stopped, and the buffer as it was; or played, and the rest of the block over the front of the buffer.
pub data Blocking (kept read : ℕ) (s : Session) (buffer lent : List ℕ) (returned : BlockPlayed) (left_buffer left : List ℕ) : Type 0 where
  declines : (n : ℕ) → (n ≡ 16 → is_within s.state ≡ false) → returned ≡ record { session = s; answer = Refused n } → left_buffer ≡ buffer →
      left ≡ lent → Blocking kept read s buffer lent returned left_buffer left
  stops : {block : List ℕ} → block ≡ take (kept + read) buffer → is_stop (front_of (rest_in block)) (read == 0) ≡ true →
      returned ≡ record { session = after_block block s; answer = Stopped (refusal_of (front_of (rest_in block))) (length (lines_in block s)) } →
      left_buffer ≡ buffer → left ≡ over (lines_in block s) lent → Blocking kept read s buffer lent returned left_buffer left
  plays : {block : List ℕ} → block ≡ take (kept + read) buffer → is_stop (front_of (rest_in block)) (read == 0) ≡ false →
      returned ≡ record { session = after_block block s; answer = Played (length (lines_in block s)) (length (rest_in block)) } →
      left_buffer ≡ over (rest_in block) buffer → left ≡ over (lines_in block s) lent → Blocking kept read s buffer lent returned left_buffer left

-- There is no other way.
pub blocking : {kept read : ℕ} {s : Session} {buffer lent left_buffer left : List ℕ} {returned : BlockPlayed} →
    block_outcome returned.session returned.answer left_buffer left ≡ block_replayed kept read s buffer lent →
    Blocking kept read s buffer lent returned left_buffer left
unfolding block_replayed block_played
blocking {kept} {read} {s} {buffer} {lent} {left_buffer} {left} {returned} =
    pick_cases P (is_within s.state)
    (λ w. pick_cases P (nat_le (kept + read) (length buffer))
    (λ b. pick_cases P (nat_le (8192 + 18 * (kept + read)) (length lent))
    (λ t. pick_cases P (is_stop (front_of (rest_in (take (kept + read) buffer))) (read == 0)) (λ stop e. stops refl stop (ans e) (buf e) (txt e))
    (λ on e. plays refl on (ans e) (buf e) (txt e)))
    (λ t e. no 1 (λ z. absurd (omega arith)) e))
    (λ b e. no 1 (λ z. absurd (omega arith)) e))
    (λ w e. no 16 (λ _. w) e)
  where
    P : BlockOutcome → Type 0
    P o = block_outcome returned.session returned.answer left_buffer left ≡ o → Blocking kept read s buffer lent returned left_buffer left

    ans : {o : BlockOutcome} → block_outcome returned.session returned.answer left_buffer left ≡ o → returned ≡ o.answer
    ans e = ap (λ (o : BlockOutcome). o.answer) e

    buf : {o : BlockOutcome} → block_outcome returned.session returned.answer left_buffer left ≡ o → left_buffer ≡ o.buffer
    buf e = ap (λ (o : BlockOutcome). o.buffer) e

    txt : {o : BlockOutcome} → block_outcome returned.session returned.answer left_buffer left ≡ o → left ≡ o.text
    txt e = ap (λ (o : BlockOutcome). o.text) e

    no : (n : ℕ) → (n ≡ 16 → is_within s.state ≡ false) →
        block_outcome returned.session returned.answer left_buffer left ≡ block_outcome s (Refused n) buffer lent →
        Blocking kept read s buffer lent returned left_buffer left
    no n out e = declines n out (ans e) (buf e) (txt e)
