-- Bytes and silences of a block heard one after the other, as long as nothing is delivered.
use Rattle.std.specs.Prelude.{◌≡◌, ℕ, ◌+◌, ◌-◌, ◌*◌, ◌<◌, ◌≤◌, Bool, true, false, ◌&&◌, List, length, take, drop, ◌==◌, nat_le, slice_index, Err, Result, Ok}
use Rattle.frame.specs.declared.refusal.Refusal.{Refusal}
use Rattle.line.specs.Answer.{handed}
use Rattle.line.specs.declared.Delivered.{Delivered}
use Rattle.frame.specs.EndToEnd.{cut}
use Rattle.line.specs.Receiver.{within_range}
use Rattle.line.specs.declared.Receiver.{Receiver}
use Rattle.energy.specs.declared.Energies.{Energies}
use Rattle.meter.specs.declared.Meter.{Meter}
use Rattle.trace.specs.Records.{ReadsAs}
use Rattle.trace.specs.declared.TraceRecord.{TraceRecord}
use Rattle.replay.specs.Replay.{state_of, played_all}
use Rattle.replay.specs.Play.{delivered_play}
use Rattle.replay_block.specs.declared.hear.Heard.{Heard}

-- A record of a kind, which has so many bytes, stands whole at a place of a block.
unfoldable pub stands_at : List ℕ → ℕ → ℕ → ℕ → Bool
stands_at block at kind size = nat_le size (length block - at) && slice_index block at == kind

-- No byte and no silence stands at a place.
pub record NoneStands (block : List ℕ) (at : ℕ) : Type 0 where
  pub no_byte : stands_at block at 1 2 ≡ false
  pub no_silence : stands_at block at 2 1 ≡ false

-- Nothing was delivered.
abbrev pub is_quiet : Result Delivered Refusal → Bool
is_quiet (Err n) = false
is_quiet (Ok d) = d.bytes == 0

-- The receiver is within its range, the place within the block, and there is room for what a call delivers.
pub record CanHear (block : List ℕ) (start : ℕ) (r : Receiver) (frames : List ℕ) : Type 0 where
  pub in_range_lem : within_range r ≡ true
  pub room : 212 ≤ length frames
  pub within_block : start ≤ length block

-- What was heard from a place of a block on: these records were read; whatever the meter and its readings, they come to what the last call of the
-- receiver delivered, put to the meter; what the receiver keeps and delivers is no more than what it kept and heard; and hearing can go on behind them.
pub record HeardOn (block : List ℕ) (start : ℕ) (r : Receiver) (frames : List ℕ) (heard : Heard) : Type 0 where
  pub read : List TraceRecord
  pub reads : ReadsAs (drop start block) read (drop heard.at block)
  pub count : heard.records ≡ length read
  pub from : start + heard.records ≤ heard.at
  pub bytes : ℕ
  pub frame-count : ℕ
  pub answer : heard.received.answer ≡ handed bytes frame-count
  pub later : 0 < bytes → 0 < heard.records
  pub cuts : frame-count ≡ length (cut (take bytes frames))
  pub size : bytes ≤ length frames
  pub plays : (m : Meter) (energies : Energies) →
      played_all read (state_of r m energies) ≡ delivered_play heard.received.answer heard.received.receiver m energies frames
  pub spent : 2 * (bytes + heard.received.receiver.count) + start ≤ 2 * r.count + heard.at
  pub on : CanHear block heard.at heard.received.receiver frames
