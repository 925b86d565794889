-- How far the records of a block are played.
use Rattle.std.specs.Prelude.{◌≡◌, ℕ, ◌+◌, ◌-◌, ◌*◌, ◌<◌, ◌≤◌, true, List, ◌++◌, length, take, drop}
use Rattle.laws.specs.Memory.{over}
use Rattle.listing.specs.Lines.{lines_of}
use Rattle.meter.specs.Meter.{MeterSized}
use Rattle.trace.specs.Records.{ReadsAs}
use Rattle.trace.specs.declared.TraceRecord.{TraceRecord}
use Rattle.replay.specs.Replay.{is_within, played_all}
use Rattle.replay_block.specs.Block.{went_on, Stops}
use Rattle.replay_block.specs.declared.Session.{Session}
use Rattle.replay_block.specs.declared.run.Run.{Run}

-- The beginning of a block.
abbrev pub run_at : Session → Run
run_at s = record { session = s; at = 0; text = 0 }

-- How much text the rest of a block can still come to: 35 bytes for each byte that the receiver keeps, and 18 for each byte of the block.
abbrev pub most_text : List ℕ → Run → ℕ
most_text block run = run.text + (35 * run.session.state.receiver.count + 18 * (length block - run.at))

-- What the type says of a session's numbers.
pub record NumbersFit (s : Session) : Type 0 where
  pub place : s.place < 18446744073709551616
  pub records : s.records < 18446744073709551616
  pub frames : s.frames < 18446744073709551616
  pub replies : s.replies < 18446744073709551616

-- The session is within its ranges, the place within the block, and there is room for all that the rest of the block can come to.
pub record Ready (block : List ℕ) (run : Run) (memory : List ℕ) : Type 0 where
  pub within : is_within run.session.state ≡ true
  pub sized : MeterSized run.session.state.meter
  pub array : length run.session.state.receiver.kept ≡ 211
  pub numbers : NumbersFit run.session
  pub reached : run.at ≤ length block
  pub room : most_text block run ≤ length memory

-- From one place on these records were played, up to another: the session and the text have gone on by what they come to, and the memory beyond the lines
-- is as it was.
pub record Goes (block : List ℕ) (run next : Run) (lent left : List ℕ) : Type 0 where
  pub read : List TraceRecord
  pub reads : ReadsAs (drop run.at block) read (drop next.at block)
  pub from : run.at ≤ next.at
  pub session : next.session ≡ went_on run.session read (played_all read run.session.state) (next.at - run.at)
  pub text : next.text ≡ run.text + length (lines_of (played_all read run.session.state).replies)
  pub memory : left ≡ over (take run.text lent ++ lines_of (played_all read run.session.state).replies) lent
  pub ready : Ready block next left
  pub size : length left ≡ length lent
  pub most : most_text block next ≤ most_text block run

-- A turn: one that plays nothing stands before no good record.
pub record Turns (block : List ℕ) (run next : Run) (lent left : List ℕ) : Type 0 where
  pub goes : Goes block run next lent left
  pub stops : next.at ≡ run.at → Stops (drop run.at block)

-- All the good records of a block.
pub record PlaysAll (block : List ℕ) (s : Session) (run : Run) (lent left : List ℕ) : Type 0 where
  pub goes : Goes block (run_at s) run lent left
  pub stops : Stops (drop run.at block)

-- A turn without text, whatever memory there is.
abbrev pub QuietTurn : List ℕ → Run → Run → Type 0
QuietTurn block run next = (memory : List ℕ) → Ready block run memory → Turns block run next memory memory
