-- What the functions that play a record answer, in the terms of `Replay`.
use Rattle.std.specs.Prelude.{ℕ, ◌*◌, ◌≤◌, ◌≡◌, List, true, length, take, Err, Result, Ok}
use Rattle.frame.specs.declared.refusal.Refusal.{Refusal}
use Rattle.line.specs.Answer.{handed}
use Rattle.line.specs.declared.Delivered.{Delivered}
use Rattle.laws.specs.Memory.{Outcome, outcome, over}
use Rattle.frame.specs.EndToEnd.{cut}
use Rattle.line.specs.declared.Receiver.{Receiver}
use Rattle.listing.specs.Lines.{lines_of}
use Rattle.energy.specs.declared.Energies.{Energies}
use Rattle.meter.specs.Meter.{within_ranges}
use Rattle.meter.specs.declared.Meter.{Meter}
use Rattle.replay_frames.specs.Putting.{meter_after, replies_to}
use Rattle.replay.specs.Replay.{Play, state_of, host_play}
use Rattle.replay.specs.declared.ReplayState.{ReplayState}
use Rattle.replay.specs.declared.play.Played.{Played}

-- The state after a record that nothing is replied to.
abbrev pub quiet : ReplayState → Played
quiet s = record { state = s; text = 0; lines = 0 }

-- What a record comes to, with the lines of its replies over the front of the memory.
unfoldable pub played_outcome : Play → List ℕ → Outcome Played
played_outcome p m =
    outcome (record { state = p.state; text = length (lines_of p.replies); lines = length p.replies }) (over (lines_of p.replies) m)

-- What an answer of the receiver delivers lies within its memory, and there is room for the lines of the replies.
pub record HasRoom (bytes : ℕ) (m : Meter) (energies : Energies) (frames memory : List ℕ) : Type 0 where
  pub within : within_ranges m energies.forward energies.reverse ≡ true
  pub size : bytes ≤ length frames
  pub room : 35 * bytes ≤ length memory

abbrev pub CanPut : Result Delivered Refusal → Meter → Energies → List ℕ → List ℕ → Type 0
CanPut (Err n) m energies frames memory = Unit
CanPut (Ok d) m energies frames memory = HasRoom d.bytes m energies frames memory

-- What an answer of the receiver comes to, put to the meter.
abbrev pub delivered_play : Result Delivered Refusal → Receiver → Meter → Energies → List ℕ → Play
delivered_play (Err n) r m energies frames = host_play (state_of r m energies)
delivered_play (Ok d) r m energies frames =
    let fs = cut (take d.bytes frames) in
    record {
      state = state_of r (meter_after fs m energies.forward energies.reverse) energies;
      frames = fs;
      replies = replies_to fs m energies.forward energies.reverse;
    }
