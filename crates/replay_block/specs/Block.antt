-- A trace replayed in blocks: what a block comes to.
use Rattle.std.specs.Prelude.{ℕ, zero, suc, ◌+◌, ◌-◌, ◌*◌, ◌%◌, ◌^◌, Bool, true, false, List, [], ◌∷◌, length, take, ◌==◌, ◌≢◌, nat_le, Err, None, Ok, Option, Result, Some}
use Rattle.frame.specs.declared.refusal.Refusal.{Refusal}
use Rattle.trace.specs.Front.{found_record}
use Rattle.trace.specs.declared.RecordFound.{RecordFound}
use Rattle.laws.specs.Memory.{over}
use Rattle.laws.specs.Test.{pick}
use Rattle.frame.specs.Refusals.{number_of}
use Rattle.frame.specs.declared.refusal.Refusal.TheVariants.{ShortMemory, OutOfRange, CutOff}
use Rattle.listing.specs.Lines.{lines_of}
use Rattle.trace.specs.Trace.{front_of}
use Rattle.trace.specs.declared.TraceRecord.{TraceRecord}
use Rattle.replay.specs.Replay.{Play, is_within, started, played_all}
use Rattle.replay.specs.declared.ReplayState.{ReplayState}
use Rattle.replay_block.specs.declared.Session.{Session}
use Rattle.replay_block.specs.declared.Begun.{Begun}
use Rattle.replay_block.specs.declared.BlockPlayed.{BlockPlayed}
use Rattle.replay_block.specs.declared.BlockAnswer.{BlockAnswer}
use Rattle.replay_block.specs.declared.BlockAnswer.TheVariants.{Refused, Played, Stopped}

-- A session that begins: the start of an address, and nothing counted; 8 for an address that is not good.
unfoldable pub begun : List ℕ → Begun
begun address =
    record {
      session = record { state = (started address).state; place = 0; records = 0; frames = 0; replies = 0 };
      answer = (started address).answer;
    }

-- By what stands at the front: a good record and those behind it, or none.
abbrev pub records_by : Result (Option RecordFound) Refusal → (ℕ → List TraceRecord) → List TraceRecord
records_by (Ok None) from = []
records_by (Err n) from = []
records_by (Ok (Some f)) from = f.found ∷ from f.length

-- The good records of a block, read one by one from the left up to the first that is none; the first k bytes belong to a record that is read already.
unfoldable pub records_from : ℕ → List ℕ → List TraceRecord
records_from k [] = []
records_from (suc k) (b ∷ block) = records_from k block
records_from zero (b ∷ block) = records_by (front_of (b ∷ block)) (λ n. records_from (n - 1) block)

abbrev pub records_in : List ℕ → List TraceRecord
records_in block = records_from 0 block

-- What is left of the block behind them.
abbrev pub rest_by : Result (Option RecordFound) Refusal → List ℕ → (ℕ → List ℕ) → List ℕ
rest_by (Ok None) block from = block
rest_by (Err n) block from = block
rest_by (Ok (Some f)) block from = from f.length

unfoldable pub rest_from : ℕ → List ℕ → List ℕ
rest_from k [] = []
rest_from (suc k) (b ∷ block) = rest_from k block
rest_from zero (b ∷ block) = rest_by (front_of (b ∷ block)) (b ∷ block) (λ n. rest_from (n - 1) block)

abbrev pub rest_in : List ℕ → List ℕ
rest_in block = rest_from 0 block

-- No good record stands at the front.
abbrev pub Stops : List ℕ → Type 0
Stops rest = (r : TraceRecord) (n : ℕ) → front_of rest ≢ found_record r n

-- A number that counts on, modulo 2^64.
unfoldable pub counted : ℕ → ℕ → ℕ
counted n more = (n + more) % 2 ^ 64

-- The session with another state, so many bytes further, with so many records, frames put to the meter and replies more.
unfoldable pub went_by : Session → ReplayState → ℕ → ℕ → ℕ → ℕ → Session
went_by s state bytes records frames replies =
    record {
      state = state;
      place = counted s.place bytes;
      records = counted s.records records;
      frames = counted s.frames frames;
      replies = counted s.replies replies;
    }

-- The session after these records, which came to this and had so many bytes.
abbrev pub went_on : Session → List TraceRecord → Play → ℕ → Session
went_on s records p bytes = went_by s p.state bytes (length records) (length p.frames) (length p.replies)

-- Whether the replay stops at what stands at the front of the rest: at any refusal but a record that is cut off, and at that too where the trace has ended.
abbrev pub is_stop : Result (Option RecordFound) Refusal → Bool → Bool
is_stop (Ok None) ended = false
is_stop (Err n) ended = pick (number_of n == number_of CutOff) ended true
is_stop (Ok (Some f)) ended = false

abbrev pub refusal_of : Result (Option RecordFound) Refusal → ℕ
refusal_of (Ok None) = 0
refusal_of (Err n) = number_of n
refusal_of (Ok (Some f)) = 0

-- An answer with the session, the trace's buffer and the memory lent for the text, as they stand when the call returns.
pub record BlockOutcome : Type 0 where
  pub answer : BlockPlayed
  pub buffer : List ℕ
  pub text : List ℕ

abbrev pub block_outcome : Session → BlockAnswer → List ℕ → List ℕ → BlockOutcome
block_outcome s answer buffer text = record { answer = record { session = s; answer = answer }; buffer = buffer; text = text }

-- What the records of a block come to, the lines of their replies, and the session after them.
abbrev pub play_in : List ℕ → Session → Play
play_in block s = played_all (records_in block) s.state

abbrev pub lines_in : List ℕ → Session → List ℕ
lines_in block s = lines_of (play_in block s).replies

abbrev pub after_block : List ℕ → Session → Session
after_block block s = went_on s (records_in block) (play_in block s) (length block - length (rest_in block))

-- A block played: its records one after the other, the lines of their replies over the front of the text. Where it stops, the buffer is as it was; else
-- the rest, which is not a whole record yet, stands over its front.
unfoldable pub block_played : List ℕ → Bool → Session → List ℕ → List ℕ → BlockOutcome
block_played block ended s buffer text =
    pick (is_stop (front_of (rest_in block)) ended)
    (block_outcome (after_block block s) (Stopped (refusal_of (front_of (rest_in block))) (length (lines_in block s))) buffer (over (lines_in block s) text))
    (block_outcome (after_block block s) (Played (length (lines_in block s)) (length (rest_in block))) (over (rest_in block) buffer) (over (lines_in block s) text))

-- The outcome of a call over so many bytes kept and so many read behind them: 16; 1 for a buffer shorter than these bytes, then for a text memory of
-- under 8,192 bytes and 18 for each of them; else they are played. A read of no bytes is at the end of the trace.
unfoldable pub block_replayed : ℕ → ℕ → Session → List ℕ → List ℕ → BlockOutcome
block_replayed kept read s buffer text =
    pick (is_within s.state)
    (pick (nat_le (kept + read) (length buffer))
    (pick (nat_le (8192 + 18 * (kept + read)) (length text))
    (block_played (take (kept + read) buffer) (read == 0) s buffer text)
    (block_outcome s (Refused (number_of ShortMemory)) buffer text))
    (block_outcome s (Refused (number_of ShortMemory)) buffer text))
    (block_outcome s (Refused (number_of OutOfRange)) buffer text)
